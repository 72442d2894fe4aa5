-- What a chair that saw more still shows.
use Rattle.std.proofs.Common.{◌≡◌, ℕ, true, Option, Some, None, List, length, refl, sym, ap, ◌∙◌, subst}
use Rattle.std.proofs.Math.Logic.{∥∥₁_map}
use Rattle.std.specs.Option.{is_some}
use mathlib.Core.List.{IsPrefix}
use Rattle.flow_item.specs.declared.event.Event.{Event}
use Rattle.flow_item.specs.declared.event.Stop.{Stop}
use Rattle.flow_item.specs.declared.event.Stop.TheVariants.{Limit, Memory}
use Rattle.flow_line.specs.declared.view.About.{About}
use Rattle.flow_line.specs.Values.{Sitting}
use Rattle.flow_line.proofs.Beginnings.{prefix_self, prefix_trans, prefix_snoc}
use Rattle.flow_book.specs.declared.machine.Run.{Run}
use Rattle.flow_book.specs.Answers.{passes, kept_first, IsDone, IsStopped, IsHalted}
use Rattle.flow_book.specs.Stopped.{HasPassed, Shows, PassesKept, KeepsRefused}

-- a limit that was reached stays so
pub passed-on : (about after : Option (About Run)) (xs ys : List Event) → after ≡ about → IsPrefix xs ys → HasPassed about xs → HasPassed after ys
passed-on about after xs ys same p h =
    ∥∥₁_map h (λ (t : (e : Event) × (es : List Event) × IsPrefix es xs × (passes about es e ≡ true)).
    let r : (e : Event) × (es : List Event) × IsPrefix es ys × (passes after es e ≡ true) =
    (t.0, t.1, prefix_trans t.1 xs ys t.2 p, ap (λ o. passes o t.1 t.0) same ∙ t.3) in r)

-- what one chair showed, another shows that has seen more
pub shows-on : (c d : Sitting Event Run) (stop : Stop) → d.about ≡ c.about → IsPrefix c.seen d.seen → Shows c stop → Shows d stop
shows-on c d Limit about p h = passed-on c.about d.about c.seen d.seen about p h
shows-on c d Memory about p h = tt

-- a chair that saw all that the stopper's chair had seen shows what is stored
pub shows-stored : (s d : Sitting Event Run) (first : Option Stop) (stop : Stop) → (first ≡ Some Limit → HasPassed s.about s.seen) → first ≡ Some stop
    → d.about ≡ s.about → IsPrefix s.seen d.seen → Shows d stop
shows-stored s d first Limit h is about p = passed-on s.about d.about s.seen d.seen about p (h is)
shows-stored s d first Memory h is about p = tt

-- the stopper's chair saw all that a chair had seen, which shows that a limit was reached
pub shows-limit : (c s : Sitting Event Run) (stop : Stop) → Shows c stop → Some stop ≡ Some Limit → s.about ≡ c.about → IsPrefix c.seen s.seen → HasPassed s.about s.seen
shows-limit c s Limit h is about p = passed-on c.about s.about c.seen s.seen about p h
shows-limit c s Memory h is about p = let never : ⊥ = cc in absurd never

-- an event that is kept shows that a limit was reached
pub keeps-shows : (c d : Sitting Event Run) → is_some c.kept ≡ true → KeepsRefused c → d.about ≡ c.about → IsPrefix c.seen d.seen → HasPassed d.about d.seen
keeps-shows c d is h about p = by_kept c.kept is h
  where
    by_kept : (k : Option (Event × ℕ)) → is_some k ≡ true → PassesKept c.about c.seen k → HasPassed d.about d.seen
    by_kept None is h = let never : ⊥ = cc in absurd never
    by_kept (Some kept) is h = ∣ (kept.0, h.0, prefix_trans h.0 c.seen d.seen h.1 p, ap (λ o. passes o h.0 kept.0) about ∙ h.3) ∣₁

-- a call that stopped shows why
pub halted-shows : (c d : Sitting Event Run) (Meant : Event → Type 0) (stop : Stop) → IsHalted c Meant d stop → Shows d stop
halted-shows c d Meant Limit h = by_stop h.2
  where
    by_stop : IsStopped c h.0 d → Shows d Limit
    by_stop st = ∣ (h.0, d.seen, prefix_self d.seen, st.limit) ∣₁
halted-shows c d Meant Memory h = tt

-- a chair that keeps an event which a limit refused keeps it so while it sees more
pub keeps-on : (c d : Sitting Event Run) → d.about ≡ c.about → IsPrefix c.seen d.seen → d.kept ≡ c.kept → KeepsRefused c → KeepsRefused d
keeps-on c d about p same h =
    let moved : PassesKept c.about d.seen c.kept = later c.kept h in
    subst (λ (k : Option (Event × ℕ)). PassesKept d.about d.seen k) (sym same) (subst (λ (o : Option (About Run)). PassesKept o d.seen c.kept) (sym about) moved)
  where
    later : (k : Option (Event × ℕ)) → PassesKept c.about c.seen k → PassesKept c.about d.seen k
    later None h = tt
    later (Some kept) h = (h.0, prefix_trans h.0 c.seen d.seen h.1 p, h.2, h.3)

-- and so after its party made an event
pub keeps-done : (c d : Sitting Event Run) (e : Event) → IsDone c e d → KeepsRefused c → KeepsRefused d
keeps-done c d e done h = keeps-on c d done.about (prefix_snoc c.seen done.log d.seen e done.start done.seen) done.kept h

-- and after a refusal, whose event it then keeps if it kept none
pub keeps-halted : (c d : Sitting Event Run) (Meant : Event → Type 0) (stop : Stop) → IsHalted c Meant d stop → KeepsRefused c → KeepsRefused d
keeps-halted c d Meant Limit t h = by_kept c.kept refl
  where
    by_kept : (k : Option (Event × ℕ)) → c.kept ≡ k → KeepsRefused d
    by_kept None is =
        let st : IsStopped c t.0 d = t.2 in
        let now : d.kept ≡ Some (t.0, length d.seen) = st.kept ∙ ap (λ k. kept_first k t.0 (length d.seen)) is in
        let here : PassesKept d.about d.seen (Some (t.0, length d.seen)) = (d.seen, prefix_self d.seen, refl, st.limit) in
        subst (λ (k : Option (Event × ℕ)). PassesKept d.about d.seen k) (sym now) here
    by_kept (Some kept) is =
        let st : IsStopped c t.0 d = t.2 in
        let same : d.kept ≡ c.kept = st.kept ∙ (ap (λ k. kept_first k t.0 (length d.seen)) is ∙ sym is) in
        keeps-on c d st.rest.about st.rest.seen same h
keeps-halted c d Meant Memory t h = keeps-on c d t.0.about t.0.seen t.1 h
