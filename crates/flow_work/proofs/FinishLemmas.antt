-- The end of the body that the worker runs.
use Rattle.std.proofs.Common.{◌≡◌, ℕ, zero, suc, ◌<◌, lt-ltb, Bool, true, false, cond, ◌&&◌, Option, Some, None, List, [], ◌∷◌, ◌++◌, length, refl, sym, ap, ◌∙◌, subst}
use Rattle.std.specs.Prelude.{slice_get, slice_index_or, nat_lt}
use Rattle.std.proofs.lemmas.Bool.{ltb-true}
use Rattle.flow_item.specs.Values.{fits}
use Rattle.flow_item.proofs.Places.{slice_get-below}
use Rattle.flow_shape.specs.declared.Kind.TheVariants as K
use Rattle.flow_doc.specs.Fits.{kind_fits}
use Rattle.std.specs.List.{list_all, find}
use Rattle.std.specs.Option.{option_map}
use Rattle.std.proofs.lemmas.List.{append-nil}
use Rattle.std.proofs.lemmas.Option.{same_Some, slice_get_within}
use Rattle.flow_item.specs.declared.item.Item.{Item}
use Rattle.flow_item.specs.declared.item.Msg.{Msg}
use Rattle.flow_item.specs.declared.event.Event.{Event}
use Rattle.flow_item.specs.declared.event.Event.TheVariants as E
use Rattle.flow_item.specs.Lists.{is_empty}
use Rattle.flow_item.proofs.Tests.{and_left, both_true}
use Rattle.flow_shape.specs.declared.Kind.{Kind}
use Rattle.flow_shape.specs.Kinds.{is_async, is_input}
use Rattle.flow_machine.specs.State.{PlacedNode}
use Rattle.flow_machine.specs.Enabled.{is_numbered, at_most_one}
use Rattle.flow_machine.specs.Machine.{is_legal, may_follow, state_of}
use Rattle.flow_machine.specs.Schedule.{next_after, is_event}
use Rattle.flow_item.specs.declared.val.Val.{Val}
use Rattle.flow_item.specs.Values.{same_msgs}
use Rattle.flow_machine.specs.Bodies.{Meanings, answers, body_kept, at_kind, end_kept}
use Rattle.flow_body.specs.Shelves.{test_of, messages_of, meanings_of_shelf}
use Rattle.flow_progress.proofs.Same.{msgs-same}
use Rattle.flow_progress.specs.NeverStuck.{may_answer}
use Rattle.flow_progress.proofs.Workers.{workers-end}
use Rattle.flow_progress.proofs.WishScheduled.{event-same}
use Rattle.flow_node.specs.Built.{is_built}
use Rattle.flow_node.specs.NodeViews.{running_items}
use Rattle.flow_node.proofs.HoldLemmas.{all_at}
use Rattle.flow_nodes.specs.Rows.{node_at}
use Rattle.flow_work.specs.Runs.{Run, IsRunnable, IsJournal, MayCome}
use Rattle.flow_work.specs.Tasks.{Runs, KeepsEnd, EndsBody, answers_item, AnswersItem, runs_body}
use Rattle.flow_work.proofs.BuiltLemmas.{BodyOf, PlainKind, plain-kind, body-at}
use Rattle.flow_work.proofs.RunLemmas.{legal-of}

-- the node whose body the worker runs
pub record Running (r : Run) (n i : ℕ) : Type 0 where
  pub kind : Kind
  pub at : slice_get r.shape.nodes n ≡ Some kind
  pub body : BodyOf kind (state_of r.shape n kind r.journal).part i
  pub ends : (outs : List Msg) → may_follow r.shape r.journal (E.End 0 n i (state_of r.shape n kind r.journal).made outs) ≡ true

any-messages : (k : Kind) (outs : List Msg) → PlainKind k → may_answer k outs ≡ true
any-messages k outs plain = by_kind (is_async k) (is_input k) plain.no_async plain.no_input
  where
    by_kind : (b c : Bool) → b ≡ false → c ≡ false → cond b (is_empty outs) (cond c (at_most_one outs) true) ≡ true
    by_kind true c h g = cc
    by_kind false true h g = cc
    by_kind false false h g = refl

pub running : (r : Run) (n i : ℕ) → IsRunnable r.shape r.callers → IsJournal r → Runs r n i → Running r n i
running r n i can j runs =
    let whole : is_legal r.shape (r.journal ++ []) ≡ true = rw append-nil (legal-of r j) in
    let law = workers-end r.shape r.journal [] can.valid whole 0 n i runs in
    record {
      kind = law.0;
      at = law.1;
      body = body-at r.shape r.journal n law.0 i can.built (legal-of r j) law.1 law.2;
      ends = λ outs. law.3 outs (any-messages law.0 outs (plain-kind law.0 (all_at is_built r.shape.nodes n law.0 can.built law.1)));
    }

-- its messages are those that the body means
pub end-kept : (r : Run) (n i : ℕ) (s : Running r n i) (k : Kind) (item : Item) → slice_get r.shape.nodes n ≡ Some k → find (is_numbered i) (running_items (state_of r.shape n k r.journal).part) ≡ Some item
    → (m : Meanings) (outs : List Msg) → answers_item m k item outs ≡ true → (first : ℕ) → body_kept m r.shape r.journal (E.End 0 n i first outs) ≡ true
end-kept r n i s k item at found m outs answers first =
    let same : s.kind ≡ k = same_Some s.kind k (sym s.at ∙ at) in
    let body : BodyOf k (state_of r.shape n k r.journal).part i = subst (λ k. BodyOf k (state_of r.shape n k r.journal).part i) same s.body in
    ap (λ o. at_kind m r.shape r.journal n o (λ k p. end_kept m k p i outs)) at ∙ body.kept item found m outs answers

-- its end may come
pub end-comes : (r : Run) (n i made : ℕ) (s : Running r n i) (outs : List Msg) → Runs r n i → made ≡ (state_of r.shape n s.kind r.journal).made → MayCome r (E.End 0 n i made outs)
end-comes r n i made s outs runs made_is =
    subst (λ made. MayCome r (E.End 0 n i made outs)) (sym made_is)
    (let e : Event = E.End 0 n i (state_of r.shape n s.kind r.journal).made outs in
    record {
      follows = s.ends outs;
      own = both_true (lt-ltb n (length r.shape.nodes) (slice_get_within r.shape.nodes n s.kind s.at)) refl;
      next = ap (λ t. next_after t r.shape r.callers r.journal e) runs
          ∙ ap (λ o. is_event (option_map (λ (node : PlacedNode). E.End 0 n i node.state.made outs) (option_map (node_at r.shape r.journal n) o)) e) s.at
          ∙ event-same e;
    })

pub end-of-body : (m : Meanings) (r : Run) (n i made : ℕ) (s : Running r n i) (outs : List Msg) → Runs r n i → made ≡ (state_of r.shape n s.kind r.journal).made → body_kept m r.shape r.journal (E.End 0 n i made outs) ≡ true → EndsBody m r (E.End 0 n i made outs)
end-of-body m r n i made s outs runs made_is kept = record {
  may = end-comes r n i made s outs runs made_is;
  apart = λ c. refl;
  kept = kept;
}

pub never-none : {X : Type 0} (x : X) → ◌≡◌ {A = Option X} None (Some x) → ⊥
never-none x h = cc

-- the node's kind has a body
pub runs-of : (r : Run) (n i : ℕ) (s : Running r n i) (k : Kind) → slice_get r.shape.nodes n ≡ Some k → runs_body k ≡ true
runs-of r n i s k at = subst (λ k. runs_body k ≡ true) (same_Some s.kind k (sym s.at ∙ at)) s.body.runs

-- the same where the code sees the run
pub end-at-view : (m : Meanings) (u v : Run) (n i made : ℕ) (outs : List Msg) → u ≡ v → (s : Running u n i) → Runs v n i → made ≡ (state_of u.shape n s.kind u.journal).made → KeepsEnd m v n i outs → EndsBody m v (E.End 0 n i made outs)
end-at-view m u v n i made outs same s runs made_is keeps =
    subst (λ (v : Run). Runs v n i → KeepsEnd m v n i outs → EndsBody m v (E.End 0 n i made outs)) same
    (λ runs keeps. end-of-body m u n i made s outs runs made_is (keeps.kept made)) runs keeps

pub keeps-at-view : (m : Meanings) (u v : Run) (n i : ℕ) (outs : List Msg) → u ≡ v → (s : Running u n i) (k : Kind) (item : Item) → slice_get v.shape.nodes n ≡ Some k
    → ((j : Kind) → slice_get v.shape.nodes n ≡ Some j → find (is_numbered i) (running_items (state_of v.shape n j v.journal).part) ≡ Some item) → AnswersItem m k item outs → KeepsEnd m v n i outs
keeps-at-view m u v n i outs same s k item at found answers =
    subst (λ (v : Run). slice_get v.shape.nodes n ≡ Some k → find (is_numbered i) (running_items (state_of v.shape n k v.journal).part) ≡ Some item → KeepsEnd m v n i outs) same
    (λ at found. record { kept = λ first. end-kept u n i s k item at found m outs answers.kept first }) at (found k at)

-- what a body of the shelf answers is what its number means
pub answers-by : {X D : Type 0} (see : X → D) (pure single : D → Bool) (out : D → Val → ℕ → Val → List Msg) (bodies : List X) (body : ℕ) (b : D) (arg : Val) (item : Item) (outs : List Msg) (x : X)
    → slice_get bodies body ≡ Some x → b ≡ see x → (pure b ≡ true → outs ≡ out b arg item.tag item.val)
    → answers (meanings_of_shelf (λ n. pure (see n)) (λ n. single (see n)) (λ n. out (see n)) bodies) body arg (item ∷ []) outs ≡ true
answers-by {X} see pure single out bodies body b arg item outs x at same is =
    let asks : pure (see x) ≡ true → outs ≡ out (see x) arg item.tag item.val = subst (λ b. pure b ≡ true → outs ≡ out b arg item.tag item.val) same is in
    ap (λ (o : Option X). cond (test_of (λ n. pure (see n)) o) (list_all (λ (i : Item). same_msgs outs (messages_of (λ n. out (see n)) o arg i.tag i.val)) (item ∷ [])) true) at ∙ by_pure (pure (see x)) refl asks
  where
    by_pure : (q : Bool) → pure (see x) ≡ q → (pure (see x) ≡ true → outs ≡ out (see x) arg item.tag item.val) → cond q (same_msgs outs (out (see x) arg item.tag item.val) && true) true ≡ true
    by_pure true e asks = both_true (subst (λ ms. same_msgs outs ms ≡ true) (asks e) (msgs-same outs)) refl
    by_pure false e asks = refl

index-get : {X : Type 0} (xs : List X) (k : ℕ) (x d : X) → slice_get xs k ≡ Some x → slice_index_or xs k d ≡ x
index-get [] k x d h = cc
index-get (y ∷ xs) zero x d h = same_Some y x h
index-get (y ∷ xs) (suc k) x d h = index-get xs k x d h

-- the same of a function that the shelf can run
pub answers-function : {X D : Type 0} (see : X → D) (pure single : D → Bool) (out : D → Val → ℕ → Val → List Msg) (bodies : List X) (k : Kind) (reject : Bool) (limit : Option ℕ) (body : ℕ) (b : D) (arg : Val) (item : Item) (outs : List Msg)
    → kind_fits (length bodies) k ≡ true → k ≡ K.Function reject limit body arg → ((d : X) → b ≡ see (slice_index_or bodies body d)) → (pure b ≡ true → outs ≡ out b arg item.tag item.val)
    → AnswersItem (meanings_of_shelf (λ n. pure (see n)) (λ n. single (see n)) (λ n. out (see n)) bodies) k item outs
answers-function see pure single out bodies k reject limit body b arg item outs fits_it is at says =
    let m : Meanings = meanings_of_shelf (λ n. pure (see n)) (λ n. single (see n)) (λ n. out (see n)) bodies in
    let room : (nat_lt body (length bodies) && fits arg) ≡ true = subst (λ k. kind_fits (length bodies) k ≡ true) is fits_it in
    let short : body < length bodies = ltb-true body (length bodies) (and_left (nat_lt body (length bodies)) (fits arg) room) in
    let found = slice_get-below bodies body short in
    let same : b ≡ see found.0 = at found.0 ∙ ap see (index-get bodies body found.0 found.0 found.1) in
    record { kept = subst (λ k. answers_item m k item outs ≡ true) (sym is) (answers-by see pure single out bodies body b arg item outs found.0 found.1 same says) }
