-- The event that a limit refused is that of the node's wish there.
use Rattle.std.proofs.Common.{◌≡◌, ℕ, false, Option, Some, None, List, refl, sym, ap, ◌∙◌, subst}
use Rattle.std.specs.Prelude.{slice_get}
use Rattle.std.specs.Option.{option_map}
use Rattle.flow_item.specs.declared.event.Event.{Event}
use Rattle.flow_item.specs.declared.event.Event.TheVariants as E
use Rattle.flow_item.specs.declared.event.Party.{Party}
use Rattle.flow_item.specs.declared.event.Party.TheVariants.{Node, Worker}
use Rattle.flow_item.specs.declared.event.Stop.{Stop}
use Rattle.flow_item.specs.declared.event.Stop.TheVariants.{Limit, Memory}
use Rattle.flow_item.specs.Events.{parties_of}
use Rattle.flow_item.specs.Legal.{projection}
use Rattle.flow_shape.specs.declared.Kind.{Kind}
use Rattle.flow_shape.specs.Places.{place_at}
use Rattle.flow_shape.specs.Rules.{IsValid}
use Rattle.flow_machine.specs.Machine.{state_of}
use Rattle.flow_machine.specs.State.{PlacedNode}
use Rattle.flow_machine.specs.declared.Wish.{Wish}
use Rattle.flow_machine.specs.declared.Wish.TheVariants as W
use Rattle.flow_machine.specs.Wishes.{WishIs}
use Rattle.flow_machine.specs.WishEvents.{where_some, event_of, event_of_wish, partner_of, placed_at, is_start}
use Rattle.flow_progress.proofs.WishLocal.{wishes-are-local}
use Rattle.flow_line.specs.declared.view.About.{About}
use Rattle.flow_line.specs.Values.{Sitting}
use Rattle.flow_book.specs.declared.machine.Run.{Run}
use Rattle.flow_book.specs.Answers as a
use Rattle.flow_book.specs.Callers.{number_of}
use Rattle.flow_book.specs.Posts.{replayed, other_nodes}
use Rattle.flow_book.specs.Serving.{RunnableAbout, IsOfWish, IsWished}
use Rattle.flow_book.proofs.Wishes.{here_at, Stands, stands, own-party}

-- it was to make this event, of which more is known at a limit
pub halted-limit : (c d : Sitting Event Run) (X : Type 0) (e : Event) (Meant : Event → Type 0) (s : Stop) → a.IsHalted c (a.Was e) d s → a.AtLimit s X → (a.IsKept c d → X → Meant e) → a.IsHalted c Meant d s
halted-limit c d X e Meant Limit h x m = (e, m h.2.rest x, subst (λ (f : Event). a.IsStopped c f d) h.1 h.2)
halted-limit c d X e Meant Memory h x m = h

-- the worker matters for a start alone
worker-free : (v : PlacedNode) (others : ℕ → Option PlacedNode) (a b : ℕ) (wish : Wish) → is_start wish ≡ false → event_of v others a wish ≡ event_of v others b wish
worker-free v others a b (W.Start i) h = cc
worker-free v others a b wish h = refl

partner-still : (v : PlacedNode) (wish : Wish) (m : ℕ) → partner_of v wish ≡ Some m → is_start wish ≡ false
partner-still v (W.Start i) m h = cc
partner-still v wish m h = refl

none-some : {X : Type 0} (o : Option X) (x : X) → o ≡ None → o ≡ Some x → ⊥
none-some None x p q = cc
none-some (Some y) x p q = cc

some-same : {X : Type 0} {x y : X} → Some x ≡ Some y → x ≡ y
some-same h = cc

-- where the node stands as it is, and so does the other node that is looked at
of-wish : (about : About Run) (seen : List Event) (n : ℕ) (v : PlacedNode) → IsValid about.setup.shape → Stands about.setup.shape seen n v
    → (wish : Wish) → WishIs v.place v.state wish → (w : ℕ) (others : ℕ → Option PlacedNode) → ((m : ℕ) → partner_of v wish ≡ Some m → others m ≡ placed_at about.setup.shape seen m)
    → (e : Event) → event_of v others w wish ≡ Some e → IsOfWish (Some about) seen n w e
of-wish about seen n v valid st wish q w others agree e h =
    subst (λ (v : PlacedNode). WishIs v.place v.state wish → ((m : ℕ) → partner_of v wish ≡ Some m → others m ≡ placed_at about.setup.shape seen m)
    → event_of v others w wish ≡ Some e → IsOfWish (Some about) seen n w e)
    (sym st.2) (λ q agree h. at_here st.0 st.1 q agree h) q agree h
  where
    at_here : (k : Kind) (at : slice_get about.setup.shape.nodes n ≡ Some k) → WishIs (place_at about.setup.shape n k) (state_of about.setup.shape n k seen) wish
        → ((m : ℕ) → partner_of (here_at about.setup.shape n k (state_of about.setup.shape n k seen)) wish ≡ Some m → others m ≡ placed_at about.setup.shape seen m)
        → event_of (here_at about.setup.shape n k (state_of about.setup.shape n k seen)) others w wish ≡ Some e → IsOfWish (Some about) seen n w e
    at_here k at q agree h =
        let same = (wishes-are-local about.setup.shape n k (state_of about.setup.shape n k seen) wish w (placed_at about.setup.shape seen) valid).1 others agree in
        let whole : event_of_wish about.setup.shape seen n w wish ≡ Some e =
        ap (λ o. where_some (option_map (λ k. here_at about.setup.shape n k (state_of about.setup.shape n k seen)) o) (λ node. event_of node (placed_at about.setup.shape seen) w wish)) at ∙ (sym same ∙ h) in
        (wish, k, at, q, whole)

-- in the words of the chair of the call
told : (c d : Sitting Event Run) (about : About Run) (n : ℕ) (e : Event) → c.about ≡ Some about → d.about ≡ c.about → c.party ≡ Node n → IsOfWish (Some about) d.seen n (number_of d.party) e
    → IsWished (number_of c.party) d e
told c d about n e at same p is =
    subst (λ (o : Option (About Run)). IsOfWish o d.seen (number_of c.party) (number_of d.party) e) (sym (same ∙ at))
    (subst (λ (x : ℕ). IsOfWish (Some about) d.seen x (number_of d.party) e) (sym (ap number_of p)) is)

pub alone-wished : (c d : Sitting Event Run) (v : PlacedNode) → replayed c ≡ Some v → RunnableAbout c.about → a.IsUpTo c d
    → (wish : Wish) → WishIs v.place v.state wish → is_start wish ≡ false → partner_of v wish ≡ None
    → (others : ℕ → Option PlacedNode) (e : Event) → event_of v others 0 wish ≡ Some e → IsWished (number_of c.party) d e
alone-wished c d v r valid up wish q still none others e h = by_about c.about refl valid
  where
    by_about : (o : Option (About Run)) → c.about ≡ o → RunnableAbout o → IsWished (number_of c.party) d e
    by_about None at valid = absurd valid
    by_about (Some about) at valid =
        let p = own-party c v r in
        let st = stands c v about v.place.node d.seen r at p (up.1 ∙ ap (λ (p : Party). projection parties_of p d.seen) p) in
        let free = worker-free v others 0 (number_of d.party) wish still in
        told c d about v.place.node e at up.0 p
        (of-wish about d.seen v.place.node v valid.0 st wish q (number_of d.party) others (λ m pm. absurd (none-some (partner_of v wish) m none pm)) e (sym free ∙ h))

pub pair-wished : (c s d : Sitting Event Run) (v u : PlacedNode) → replayed c ≡ Some v → replayed s ≡ Some u → RunnableAbout c.about → s.about ≡ c.about → a.IsUpTo c d → a.IsUpTo s d
    → (wish : Wish) → WishIs v.place v.state wish → partner_of v wish ≡ Some (number_of s.party)
    → (e : Event) → event_of v (other_nodes (Some u)) 0 wish ≡ Some e → IsWished (number_of c.party) d e
pair-wished c s d v u r rs valid ab up ups wish q partner e h = by_about c.about refl valid
  where
    by_about : (o : Option (About Run)) → c.about ≡ o → RunnableAbout o → IsWished (number_of c.party) d e
    by_about None at valid = absurd valid
    by_about (Some about) at valid =
        let p = own-party c v r in
        let ps = own-party s u rs in
        let st = stands c v about v.place.node d.seen r at p (up.1 ∙ ap (λ (p : Party). projection parties_of p d.seen) p) in
        let su = stands s u about u.place.node d.seen rs (ab ∙ at) ps (ups.1 ∙ ap (λ (p : Party). projection parties_of p d.seen) ps) in
        let free = worker-free v (other_nodes (Some u)) 0 (number_of d.party) wish (partner-still v wish (number_of s.party) partner) in
        let there : placed_at about.setup.shape d.seen u.place.node ≡ Some u =
        ap (option_map (λ k. here_at about.setup.shape u.place.node k (state_of about.setup.shape u.place.node k d.seen))) su.1 ∙ ap (λ (x : PlacedNode). Some x) (sym su.2) in
        let agree : (i : ℕ) → partner_of v wish ≡ Some i → other_nodes (Some u) i ≡ placed_at about.setup.shape d.seen i =
        λ i pi. subst (λ (i : ℕ). Some u ≡ placed_at about.setup.shape d.seen i) (sym (ap number_of ps) ∙ some-same (sym partner ∙ pi)) (sym there) in
        told c d about v.place.node e at up.0 p
        (of-wish about d.seen v.place.node v valid.0 st wish q (number_of d.party) (other_nodes (Some u)) agree e (sym free ∙ h))

pub start-wished : (c d : Sitting Event Run) (v : PlacedNode) (n k i : ℕ) → replayed c ≡ Some v → c.party ≡ Node n → d.party ≡ Worker k → RunnableAbout c.about → a.IsUpTo c d
    → WishIs v.place v.state (W.Start i) → IsWished (number_of c.party) d (E.Start k n i)
start-wished c d v n k i r p pd valid up q = by_about c.about refl valid
  where
    by_about : (o : Option (About Run)) → c.about ≡ o → RunnableAbout o → IsWished (number_of c.party) d (E.Start k n i)
    by_about None at valid = absurd valid
    by_about (Some about) at valid =
        let st = stands c v about n d.seen r at p (up.1 ∙ ap (λ (p : Party). projection parties_of p d.seen) p) in
        let here : n ≡ v.place.node = ap number_of (sym p ∙ own-party c v r) in
        let event : event_of v (placed_at about.setup.shape d.seen) (number_of d.party) (W.Start i) ≡ Some (E.Start k n i) = (λ j. Some (E.Start (ap number_of pd j) (sym here j) i)) in
        told c d about n (E.Start k n i) at up.0 p (of-wish about d.seen n v valid.0 st (W.Start i) q (number_of d.party) (placed_at about.setup.shape d.seen) (λ m pm. refl) (E.Start k n i) event)
