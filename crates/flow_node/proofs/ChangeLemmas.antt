-- What a change asks of its node and leaves of it, and that this is what its event asks and leaves.
use Rattle.std.proofs.Common.{◌≡◌, ℕ, ◌+◌, Bool, true, false, ◌&&◌, cond, eqb, Option, Some, None, List, [], refl, sym, ap, ◌∙◌, subst, arith, eq-eqb}
use Rattle.std.specs.Prelude.{⊤, is_some, IsSome, IfSome}
use Rattle.std.specs.List.{list_any}
use Rattle.std.proofs.lemmas.Bool.{eqb-true}
use Rattle.flow_item.specs.declared.item.Msg.{Msg}
use Rattle.flow_item.specs.declared.val.Val.{Val}
use Rattle.flow_item.specs.declared.event.Event.{Event}
use Rattle.flow_item.specs.declared.event.Event.TheVariants as E
use Rattle.flow_item.specs.declared.event.Link.{Link}
use Rattle.flow_item.specs.declared.event.Land.{Land}
use Rattle.flow_item.specs.declared.event.Ended.{Ended}
use Rattle.flow_item.specs.declared.event.PutAnswer.TheVariants.{Accepted, Refused}
use Rattle.flow_item.specs.declared.event.Party.{Party}
use Rattle.flow_item.specs.declared.event.Party.TheVariants.{Node}
use Rattle.flow_item.specs.declared.event.Parties.{Parties}
use Rattle.flow_item.specs.Events.{parties_of, both, ends}
use Rattle.flow_item.specs.Legal.{takes_part}
use Rattle.flow_item.specs.Lists.{is_empty, with_number}
use Rattle.flow_item.proofs.Tests.{and_left, and_right}
use Rattle.flow_shape.specs.declared.Kind.{Kind}
use Rattle.flow_shape.specs.declared.Kind.TheVariants as K
use Rattle.flow_shape.specs.Kinds.{is_input, is_async}
use Rattle.flow_machine.specs.State as S
use Rattle.flow_machine.specs.State.{PlacedNode}
use Rattle.flow_machine.specs.Offers.{candidates, lands, next_tuple, room}
use Rattle.flow_machine.specs.Enabled.{allows_at, is_numbered, may_split}
use Rattle.flow_machine.specs.After.{link_of, part_after_start, part_after_shut, part_after_cancel}
use Rattle.flow_node.specs.Built.{is_built, is_reserving}
use Rattle.flow_node.specs.Readied.{Readied, IsPrepared, stepped, landed, body_ended, tuple_formed, given_from, refused_at, given_value, is_from, starts_at, loops, suits}
use Rattle.flow_node.specs.Changes.{change_of, ChangesOne, ChangesFrom, ChangesTo, ChangesTwo, EndsBody}
use Rattle.flow_node.specs.Kept.{part_of, kind_of, placed, IsKept}
use Rattle.flow_node.specs.declared.base.Base.{Base}
use Rattle.flow_node.specs.declared.part.Part.{Part}
use Rattle.flow_node.specs.declared.part.Part.TheVariants as P
use Rattle.flow_node.specs.declared.change.Change.{Change}
use Rattle.flow_node.specs.declared.change.Change.TheVariants as H
use Rattle.flow_node.proofs.StoreLemmas.{same-numbered}
use Rattle.flow_node.proofs.NodeLemmas.{give-allowed, given-after, refuse-allowed, refused-after, landed-after, edge-comes, only-gives, met-there, put-comes, form-allowed, off_end, other-end}

-- ---- what no kind that there is code for meets

no-input : (k : Kind) → is_built k ≡ true → is_input k ≡ true → ⊥
no-input (K.Input body arg) h g = cc
no-input k h g = cc

no-async : (k : Kind) → is_built k ≡ true → is_async k ≡ true → ⊥
no-async (K.Async reject limit arg) h g = cc
no-async k h g = cc

no-split : (p : Part) (i : ℕ) (outs : List Msg) → may_split (part_of p) i outs ≡ true → ⊥
no-split (P.Store s) i outs h = cc
no-split (P.Function f) i outs h = cc
no-split (P.Join j) i outs h = cc

-- ---- an event of which the node is the only one

-- a value can come, as an item with this tag and at this port
pub record MayCome (v : Readied) (port tag : ℕ) (land : Land) (by_caller : Bool) (cargo : Option Val) : Type 0 where
  pub some : IsSome cargo
  pub comes : room v.node.place v.node.state port tag by_caller ≡ lands land
  pub ready : v.ready ≡ true
  pub fits : suits v.ready_for port tag ≡ true
  pub bare : v.casts ≡ []

-- a tuple can be formed
pub record MayForm (v : Readied) : Type 0 where
  pub some : is_some (next_tuple v.node.place v.node.state.part) ≡ true
  pub ready : v.forms ≡ true

abbrev pub NeedsOne : Readied → Change → Type 0
NeedsOne v (H.Put port tag land) = MayCome v port tag land true v.incoming
NeedsOne v (H.Give x port i tag land) = ⊥
NeedsOne v (H.Refuse x) = ⊥
NeedsOne v (H.None x) = ⊥
NeedsOne v (H.End i) = EndsBody v i
NeedsOne v (H.Form number) = MayForm v
NeedsOne v H.Other = ⊥
NeedsOne v c = ⊤

-- due, with this part
abbrev pub due_with : PlacedNode → S.Part → PlacedNode
due_with v p = record v { state = record v.state { due = true; part = p } }

-- w is the node after the change
abbrev pub GivesOne : Readied → Change → PlacedNode → Type 0
GivesOne v (H.Put port tag land) w = IfSome v.incoming (λ val. w ≡ landed v.node port tag val land)
GivesOne v H.Refused w = w ≡ due_with v.node v.node.state.part
GivesOne v H.Cancel w = w ≡ due_with v.node (part_after_cancel v.node.state.part)
GivesOne v H.Start w = w ≡ due_with v.node (part_after_start v.node.state.part)
GivesOne v (H.End i) w = (x : EndsBody v i) → w ≡ body_ended v.node i x.number x.outs
GivesOne v (H.Form number) w = w ≡ tuple_formed v.node number
GivesOne v (H.Shut ended) w = w ≡ due_with v.node (part_after_shut v.node.state.part ended)
GivesOne v H.Idle w = w ≡ record v.node { state = record v.node.state { due = false } }
GivesOne v c w = ⊥

abbrev body-ends : (v : Readied) (w m i number : ℕ) (outs : List Msg) → allows_at v.node.place v.node.state (E.End w m i number outs) ≡ true → IsPrepared v (E.End w m i number outs) → EndsBody v i
body-ends v w m i number outs h r = record { number = number; outs = outs; may = and_right (eqb number v.node.state.made) _ h; casts = r.casts }

module _ {v : Readied} (b : Base) (p : Part) (view : placed b p ≡ v.node) (kept : IsKept b p) where
  needs-one : (e : Event) → link_of e ≡ None → allows_at v.node.place v.node.state e ≡ true → IsPrepared v e → NeedsOne v (change_of e)
  needs-one (E.Put c n port tag val (Accepted number land)) alone h r = record {
    some = rw (r.value) refl;
    comes = put-comes v.node c n port tag val number land h;
    ready = and_left v.ready (suits v.ready_for port tag) r.room;
    fits = and_right v.ready (suits v.ready_for port tag) r.room;
    bare = r.casts;
  }
  needs-one (E.Put c n port tag val (Refused cause)) alone h r = tt
  needs-one (E.Act c n) alone h r =
      let g : is_input (kind_of p) ≡ true = rw (← view) at h in
      no-input (kind_of p) kept.built g
  needs-one (E.Leave c) alone h r = cc
  needs-one (E.Cancel c n dropped) alone h r = tt
  needs-one (E.Give l i number land) alone h r = cc
  needs-one (E.Refuse l i) alone h r = cc
  needs-one (E.None l) alone h r = cc
  needs-one (E.Hold l i number) alone h r = cc
  needs-one (E.Take l i) alone h r = cc
  needs-one (E.Free l i) alone h r = cc
  needs-one (E.Start w n i) alone h r = tt
  needs-one (E.End w n i number outs) alone h r = body-ends v w n i number outs h r
  needs-one (E.Back w n i number outs) alone h r =
      let g : is_async (kind_of p) ≡ true = rw (← view) at (and_left (is_async v.node.place.kind) _ (and_left (is_async v.node.place.kind && eqb number v.node.state.made) _ h)) in
      no-async (kind_of p) kept.built g
  needs-one (E.Form n number parts) alone h r = record { some = form-allowed v.node n number parts h; ready = r.room }
  needs-one (E.Split n i number outs) alone h r =
      let g : may_split (part_of p) i outs ≡ true = rw (← view) at (and_right (eqb number v.node.state.made) _ h) in
      no-split p i outs g
  needs-one (E.Shut n i ended) alone h r = tt
  needs-one (E.Idle n) alone h r = tt

  -- what the change of an event asks of its only node
  pub one-needs : (c k : Change) → c ≡ k → (e : Event) → ChangesOne v c e → NeedsOne v k
  one-needs c k is e h = subst (λ (d : Change). NeedsOne v d) (sym h.change ∙ is) (needs-one e h.alone h.allowed h.prepared)

steps-one : {v : Readied} (e : Event) (w : PlacedNode) → allows_at v.node.place v.node.state e ≡ true → IsPrepared v e → GivesOne v (change_of e) w → w ≡ stepped v.node e
steps-one (E.Put c n port tag val (Accepted number land)) w h r g = rw (r.value) at g
steps-one {v} (E.Put c n port tag val (Refused cause)) w h r g = let same : v.node.state.made + 0 ≡ v.node.state.made = omega arith in rw same g
steps-one {v} (E.Cancel c n dropped) w h r g = let same : v.node.state.made + 0 ≡ v.node.state.made = omega arith in rw same g
steps-one {v} (E.Start m n i) w h r g = let same : v.node.state.made + 0 ≡ v.node.state.made = omega arith in rw same g
steps-one {v} (E.End m n i number outs) w h r g = g (body-ends v m n i number outs h r)
steps-one (E.Form n number parts) w h r g = g
steps-one {v} (E.Shut n i ended) w h r g = let same : v.node.state.made + 0 ≡ v.node.state.made = omega arith in rw same g
steps-one {v} (E.Idle n) w h r g = let same : v.node.state.made + 0 ≡ v.node.state.made = omega arith in rw same g
steps-one e w h r g = absurd g

-- what the change leaves of the node is what its event leaves of it
pub one-steps : {v : Readied} (c k : Change) (w : PlacedNode) → c ≡ k → GivesOne v k w → (e : Event) → ChangesOne v c e → w ≡ stepped v.node e
one-steps {v} c k w is g e h = steps-one e w h.allowed h.prepared (subst (λ (d : Change). GivesOne v d w) (sym is ∙ h.change) g)

-- the changes that an event of one node makes
pub only-one : (v : Readied) (c : Change) → NeedsOne v c → ((port tag : ℕ) (land : Land) → c ≡ H.Put port tag land → ⊥) → (c ≡ H.Refused → ⊥) → (c ≡ H.Cancel → ⊥) → (c ≡ H.Start → ⊥)
    → ((i : ℕ) → c ≡ H.End i → ⊥) → ((number : ℕ) → c ≡ H.Form number → ⊥) → ((ended : Ended) → c ≡ H.Shut ended → ⊥) → (c ≡ H.Idle → ⊥) → ⊥
only-one v (H.Put port tag land) h put refused cancel start end form shut idle = put port tag land refl
only-one v H.Refused h put refused cancel start end form shut idle = refused refl
only-one v H.Cancel h put refused cancel start end form shut idle = cancel refl
only-one v H.Start h put refused cancel start end form shut idle = start refl
only-one v (H.End i) h put refused cancel start end form shut idle = end i refl
only-one v (H.Form number) h put refused cancel start end form shut idle = form number refl
only-one v (H.Shut ended) h put refused cancel start end form shut idle = shut ended refl
only-one v H.Idle h put refused cancel start end form shut idle = idle refl
only-one v c h put refused cancel start end form shut idle = h

-- the part changed, and the node is due
pub due-step : (v : Readied) (b : Base) (p p' : Part) (f : S.Part → S.Part) → placed b p ≡ v.node → kind_of p' ≡ kind_of p → part_of p' ≡ f (part_of p) → placed (record b { due = true }) p' ≡ due_with v.node (f v.node.state.part)
due-step v b p p' f view kind is = rw (← view, kind, is)

pub idle-step : (v : Readied) (b : Base) (p : Part) → placed b p ≡ v.node → placed (record b { due = false }) p ≡ record v.node { state = record v.node.state { due = false } }
idle-step v b p view = rw (← view)

-- ---- an event over an edge out of the node

abbrev pub NeedsFrom : Readied → Change → Type 0
NeedsFrom v (H.Give x port i tag land) = list_any (is_numbered i) (candidates v.node.place v.node.state x) ≡ true
NeedsFrom v (H.Refuse x) = is_empty (candidates v.node.place v.node.state x) ≡ false
NeedsFrom v (H.None x) = v.turns ≡ true
NeedsFrom v c = ⊥

-- the out edge x turned to push
abbrev pub turned_at : PlacedNode → ℕ → PlacedNode
turned_at v x = record v { state = record v.state { push = with_number x v.state.push; due = true } }

abbrev pub GivesFrom : Readied → Change → PlacedNode → Type 0
GivesFrom v (H.Give x port i tag land) w = w ≡ given_from v.node x i
GivesFrom v (H.Refuse x) w = w ≡ refused_at v.node x
GivesFrom v (H.None x) w = w ≡ turned_at v.node x
GivesFrom v c w = ⊥

-- and what goes from it
abbrev pub Hands : Readied → Change → Option Val → Type 0
Hands v (H.Give x port i tag land) o = o ≡ v.incoming
Hands v (H.Refuse x) o = o ≡ None
Hands v (H.None x) o = o ≡ None
Hands v c o = ⊥

module _ {n : PlacedNode} (b : Base) (p : Part) (view : placed b p ≡ n) where
  own : (l : Link) → eqb l.from n.place.node ≡ true → eqb l.from b.node ≡ true
  own l h = rw (← view) at h

  turned-after : (l : Link) → eqb l.from l.to ≡ false → eqb l.from b.node ≡ true → turned_at n l.edge ≡ stepped n (E.None l)
  turned-after l apart here =
      let away : eqb l.to b.node ≡ false = other-end l b.node apart (eqb-true _ _ here) in
      let same : b.made + 0 ≡ b.made = omega arith in
      rw (← view, here, away, same)

module _ {v : Readied} (b : Base) (p : Part) (view : placed b p ≡ v.node) (kept : IsKept b p) where
  needs-from : (e : Event) → is_reserving e ≡ false → is_from v.node.place.node e ≡ true → allows_at v.node.place v.node.state e ≡ true → IsPrepared v e → NeedsFrom v (change_of e)
  needs-from (E.Give l i number land) met from h r = same-numbered i _ (give-allowed b p view kept l i number land (own b p view l from) h)
  needs-from (E.Refuse l i) met from h r = refuse-allowed b p view kept l i (own b p view l from) h
  needs-from (E.None l) met from h r = r.room
  needs-from (E.Put c n port tag val (Accepted number land)) met from h r = cc
  needs-from (E.Put c n port tag val (Refused cause)) met from h r = cc
  needs-from e met from h r = cc

  pub from-needs : (c k : Change) → c ≡ k → (e : Event) → ChangesFrom v c e → NeedsFrom v k
  from-needs c k is e h = subst (λ (d : Change). NeedsFrom v d) (sym h.change ∙ is) (needs-from e h.met h.from h.allowed h.prepared)

  steps-from : (c : Change) (e : Event) (w : PlacedNode) → ChangesFrom v c e → GivesFrom v (change_of e) w → w ≡ stepped v.node e
  steps-from c (E.Give l i number land) w h g = g ∙ given-after b p view kept l i number land h.apart (own b p view l h.from) h.allowed
  steps-from c (E.Refuse l i) w h g = g ∙ refused-after b p view kept l i h.apart (own b p view l h.from) h.allowed
  steps-from c (E.None l) w h g = g ∙ turned-after b p view l h.apart (own b p view l h.from)
  steps-from c (E.Put d n port tag val (Accepted number land)) w h g = absurd g
  steps-from c (E.Put d n port tag val (Refused cause)) w h g = absurd g
  steps-from c e w h g = absurd g

  pub from-steps : (c k : Change) (w : PlacedNode) → c ≡ k → GivesFrom v k w → (e : Event) → ChangesFrom v c e → w ≡ stepped v.node e
  from-steps c k w is g e h = steps-from c e w h (subst (λ (d : Change). GivesFrom v d w) (sym is ∙ h.change) g)

hands : {v : Readied} (e : Event) (o : Option Val) → is_from v.node.place.node e ≡ true → IsPrepared v e → Hands v (change_of e) o → o ≡ given_value e
hands (E.Give l i number land) o from r g = g ∙ rw from at r.value
hands (E.Refuse l i) o from r g = g
hands (E.None l) o from r g = g
hands (E.Put c n port tag val (Accepted number land)) o from r g = absurd g
hands (E.Put c n port tag val (Refused cause)) o from r g = absurd g
hands e o from r g = absurd g

pub from-hands : {v : Readied} (c k : Change) (o : Option Val) → c ≡ k → Hands v k o → (e : Event) → ChangesFrom v c e → o ≡ given_value e
from-hands {v} c k o is g e h = hands e o h.from h.prepared (subst (λ (d : Change). Hands v d o) (sym is ∙ h.change) g)

pub only-from : (v : Readied) (c : Change) → NeedsFrom v c → ((x port i tag : ℕ) (land : Land) → c ≡ H.Give x port i tag land → ⊥) → ((x : ℕ) → c ≡ H.Refuse x → ⊥) → ((x : ℕ) → c ≡ H.None x → ⊥) → ⊥
only-from v (H.Give x port i tag land) h give refuse none = give x port i tag land refl
only-from v (H.Refuse x) h give refuse none = refuse x refl
only-from v (H.None x) h give refuse none = none x refl
only-from v c h give refuse none = h

pub turn-step : (v : Readied) (b b' : Base) (p : Part) (x : ℕ) → placed b p ≡ v.node → b'.push.items ≡ with_number x b.push.items → b' ≡ record b { push = b'.push } → placed (record b' { due = true }) p ≡ turned_at v.node x
turn-step v b b' p x view items same = rw (← view, same, items)

-- ---- an event over an edge into the node

abbrev pub NeedsTo : Readied → Option Val → Change → Type 0
NeedsTo v o (H.Give x port i tag land) = MayCome v port tag land false o
NeedsTo v o c = ⊥

abbrev pub GivesTo : Readied → Option Val → Change → PlacedNode → Type 0
GivesTo v o (H.Give x port i tag land) w = IfSome o (λ val. w ≡ landed v.node port tag val land)
GivesTo v o c w = ⊥

module _ {v : Readied} (b : Base) (p : Part) (view : placed b p ≡ v.node) (kept : IsKept b p) where
  needs-to : (c : Change) (o : Option Val) (e : Event) → ChangesTo v c o e → NeedsTo v o (change_of e)
  needs-to c o (E.Give l i number land) h =
      let r = rw (h.to) at h.prepared.room in
      record {
        some = rw (h.given) refl;
        comes = edge-comes v.node l i number land h.to h.allowed;
        ready = and_left v.ready (suits v.ready_for l.port i.tag) r;
        fits = and_right v.ready (suits v.ready_for l.port i.tag) r;
        bare = h.prepared.casts;
      }
  needs-to c o (E.Put d n port tag val (Accepted number land)) h = only-gives b p view kept (E.Put d n port tag val (Accepted number land)) h.met h.over h.to h.allowed (λ l i number land is. cc)
  needs-to c o (E.Put d n port tag val (Refused cause)) h = only-gives b p view kept (E.Put d n port tag val (Refused cause)) h.met h.over h.to h.allowed (λ l i number land is. cc)
  needs-to c o e h = only-gives b p view kept e h.met h.over h.to h.allowed (λ l i number land is. cc)

  pub to-needs : (c k : Change) (o : Option Val) → c ≡ k → (e : Event) → ChangesTo v c o e → NeedsTo v o k
  to-needs c k o is e h = subst (λ (d : Change). NeedsTo v o d) (sym h.change ∙ is) (needs-to c o e h)

  steps-to : (c : Change) (o : Option Val) (e : Event) (w : PlacedNode) → ChangesTo v c o e → GivesTo v o (change_of e) w → w ≡ stepped v.node e
  steps-to c o (E.Give l i number land) w h g =
      let came = rw (h.given) at g in
      came ∙ landed-after b p view kept l i number land h.to h.party
  steps-to c o (E.Put d n port tag val (Accepted number land)) w h g = absurd g
  steps-to c o (E.Put d n port tag val (Refused cause)) w h g = absurd g
  steps-to c o e w h g = absurd g

  pub to-steps : (c k : Change) (o : Option Val) (w : PlacedNode) → c ≡ k → GivesTo v o k w → (e : Event) → ChangesTo v c o e → w ≡ stepped v.node e
  to-steps c k o w is g e h = steps-to c o e w h (subst (λ (d : Change). GivesTo v o d w) (sym is ∙ h.change) g)

pub only-to : (v : Readied) (o : Option Val) (c : Change) → NeedsTo v o c → ((x port i tag : ℕ) (land : Land) → c ≡ H.Give x port i tag land → ⊥) → ⊥
only-to v o (H.Give x port i tag land) h give = give x port i tag land refl
only-to v o c h give = h

-- ---- an event from one node to another

-- the edge goes from the one node to the other
record Between (o : Option Link) (ps : Parties) (a n : ℕ) : Type 0 where
  over : IsSome o
  from : starts_at a o ≡ true
  apart : loops o ≡ false
  to : starts_at n o ≡ false
  party : takes_part ps (Node n) ≡ true

ends-between : (l : Link) (a n : ℕ) → ends l ≡ both (Node a) (Node n) → Between (Some l) (ends l) a n
ends-between l a n h =
    let first : Node l.from ≡ Node a = ap (λ (p : Parties). p.first) h in
    let is : l.from ≡ a = cc in
    let off = off_end l a n h in
    let last = other_side (eqb l.from l.to) refl (ap (λ (p : Parties). p.second) h) in
    record {
      over = refl;
      from = eq-eqb _ _ is;
      apart = last.0;
      to = off;
      party = rw (off, last.0, last.1);
    }
  where
    other_side : (d : Bool) → eqb l.from l.to ≡ d → ◌≡◌ {A = Option Party} (cond (eqb l.from l.to) None (Some (Node l.to))) (Some (Node n)) → (eqb l.from l.to ≡ false) × (eqb l.to n ≡ true)
    other_side true e second = let never : ◌≡◌ {A = Option Party} None (Some (Node n)) = rw e at second in let no_way : ⊥ = cc in absurd no_way
    other_side false e second =
        let there : ◌≡◌ {A = Option Party} (Some (Node l.to)) (Some (Node n)) = rw e at second in
        let same : l.to ≡ n = cc in
        (e, eq-eqb _ _ same)

between : (e : Event) (a n : ℕ) → parties_of e ≡ both (Node a) (Node n) → Between (link_of e) (parties_of e) a n
between (E.Give l i number land) a n h = ends-between l a n h
between (E.Refuse l i) a n h = ends-between l a n h
between (E.None l) a n h = ends-between l a n h
between (E.Hold l i number) a n h = ends-between l a n h
between (E.Take l i) a n h = ends-between l a n h
between (E.Free l i) a n h = ends-between l a n h
between (E.Put d m port tag val answer) a n h = let second = ap (λ (p : Parties). p.second) h in let never : ⊥ = cc in absurd never
between e a n h = let second = ap (λ (p : Parties). p.second) h in let never : ⊥ = cc in absurd never

module _ {v w : Readied} (b : Base) (p : Part) (view : placed b p ≡ w.node) (kept : IsKept b p) (c : Change) (e : Event) (h : ChangesTwo v w c e) where
  pub two-from : ChangesFrom v c e
  two-from =
      let t = between e v.node.place.node w.node.place.node h.ends in
      record {
        change = h.change;
        met = met-there b p view kept e v.node.place.node h.ends h.other_allowed;
        from = t.from;
        apart = t.apart;
        allowed = h.allowed;
        prepared = h.prepared;
      }

  pub two-to : (o : Option Val) → o ≡ given_value e → ChangesTo w c o e
  two-to o given =
      let t = between e v.node.place.node w.node.place.node h.ends in
      record {
        change = h.change;
        met = met-there b p view kept e v.node.place.node h.ends h.other_allowed;
        over = t.over;
        to = t.to;
        party = t.party;
        allowed = h.other_allowed;
        prepared = h.other_prepared;
        given = given;
      }
