-- What a party made keeps its meaning while more is seen.
use Rattle.std.proofs.Common.{◌≡◌, ℕ, ◌+◌, ◌<◌, ◌≤◌, Bool, true, cond, ◌⊎◌, inl, inr, Option, List, [], ◌∷◌, ◌++◌, length, refl, sym, ap, ◌∙◌, arith, append-nil, append_assoc, length-append}
use Rattle.std.proofs.lemmas.Bool.{cases_lt}
use mathlib.Core.List.{IsPrefix}
use Rattle.flow_item.specs.declared.event.Event.{Event}
use Rattle.flow_item.specs.declared.event.Party.{Party}
use Rattle.flow_item.specs.Events.{parties_of}
use Rattle.flow_item.specs.Legal.{projection, takes_part}
use Rattle.flow_item.proofs.Journals.{projection-append}
use Rattle.flow_shape.specs.declared.Shape.{Shape}
use Rattle.flow_machine.specs.Bodies.{Meanings, body_kept}
use Rattle.flow_line.specs.declared.view.About.{About}
use Rattle.flow_line.specs.Values.{Sitting, IsPart}
use Rattle.flow_line.proofs.Beginnings.{prefix_trans, prefix_shorter, prefix_whole}
use Rattle.flow_book.specs.declared.machine.Run.{Run}
use Rattle.flow_book.specs.Answers.{IsKept, IsDone}
use Rattle.flow_crew.specs.Bodies.{KeptAt, KeepsOwn, KeepsOf}

-- a list with one more at its end, taken apart
split-snoc : {A : Type 0} (xs before later : List A) (x y : A) → xs ++ x ∷ [] ≡ before ++ y ∷ later → ((before ≡ xs) × (y ≡ x)) ⊎ ((l : List A) × (xs ≡ before ++ y ∷ l))
split-snoc [] [] later x y h = inl (refl, cc)
split-snoc [] (b ∷ []) later x y h = cc
split-snoc [] (b ∷ c ∷ bs) later x y h = cc
split-snoc (z ∷ zs) [] later x y h = let same : z ≡ y = cc in inr (zs, ap (λ w. w ∷ zs) same)
split-snoc {A} (z ∷ zs) (b ∷ bs) later x y h =
    let heads : z ≡ b = cc in
    let tails : zs ++ x ∷ [] ≡ bs ++ y ∷ later = cc in
    by_rest heads (split-snoc zs bs later x y tails)
  where
    by_rest : z ≡ b → ((bs ≡ zs) × (y ≡ x)) ⊎ ((l : List A) × (zs ≡ bs ++ y ∷ l)) → ((b ∷ bs ≡ z ∷ zs) × (y ≡ x)) ⊎ ((l : List A) × (z ∷ zs ≡ (b ∷ bs) ++ y ∷ l))
    by_rest heads (inl is) = let same = is.0 in inl (cc (heads, same), is.1)
    by_rest heads (inr is) = let same = is.1 in inr (is.0, cc (heads, same))

-- two lists with one more at their ends
same-snoc : {A : Type 0} (xs ys : List A) (x : A) → xs ++ x ∷ [] ≡ ys ++ x ∷ [] → xs ≡ ys
same-snoc [] [] x h = refl
same-snoc [] (y ∷ []) x h = cc
same-snoc [] (y ∷ z ∷ ys) x h = cc
same-snoc (z ∷ []) [] x h = cc
same-snoc (z ∷ w ∷ zs) [] x h = cc
same-snoc (z ∷ zs) (y ∷ ys) x h =
    let heads : z ≡ y = cc in
    let tails : zs ++ x ∷ [] ≡ ys ++ x ∷ [] = cc in
    let rest = same-snoc zs ys x tails in
    cc (heads, rest)

-- what the party has after one event more of its own
own-snoc : (p : Party) (log : List Event) (e : Event) → takes_part (parties_of e) p ≡ true → projection parties_of p (log ++ e ∷ []) ≡ projection parties_of p log ++ e ∷ []
own-snoc p log e takes = projection-append parties_of p log (e ∷ []) ∙ ap (λ (b : Bool). projection parties_of p log ++ cond b (e ∷ []) []) takes

module _ (m : Meanings) (shape : Shape) where
  pub own-kept : (c d : Sitting Event Run) → IsKept c d → KeepsOwn m shape c → KeepsOwn m shape d
  own-kept c d k h before later e is =
      let r = h before later e (sym k.own ∙ is) in
      record {
        log = r.log;
        start = prefix_trans (r.log ++ e ∷ []) c.seen d.seen r.start k.seen;
        own = ap (λ p. projection parties_of p r.log) k.party ∙ r.own;
        kept = r.kept;
      }

  pub own-done : (c d : Sitting Event Run) (e : Event) → (done : IsDone c e d) → d.own ≡ projection parties_of d.party d.seen → takes_part (parties_of e) c.party ≡ true → body_kept m shape done.log e ≡ true
      → KeepsOwn m shape c → KeepsOwn m shape d
  own-done c d e done own takes kept h before later f is = by_place (split-snoc c.own before later e f (sym done.own ∙ is))
    where
      whole : projection parties_of d.party done.log ++ e ∷ [] ≡ c.own ++ e ∷ []
      whole =
          let there : takes_part (parties_of e) d.party ≡ true = ap (takes_part (parties_of e)) done.party ∙ takes in
          sym (own-snoc d.party done.log e there) ∙ (ap (projection parties_of d.party) (sym done.seen) ∙ (sym own ∙ done.own))

      longer : IsPrefix c.seen d.seen
      longer = prefix_trans c.seen done.log d.seen done.start (e ∷ [], sym done.seen)

      by_place : ((before ≡ c.own) × (f ≡ e)) ⊎ ((l : List Event) × (c.own ≡ before ++ f ∷ l)) → KeptAt m shape d.party d.seen before f
      by_place (inl at) =
          record {
            log = done.log;
            start = ([], ap (λ g. (done.log ++ g ∷ []) ++ []) at.1 ∙ (append-nil (done.log ++ e ∷ []) ∙ sym done.seen));
            own = same-snoc (projection parties_of d.party done.log) c.own e whole ∙ sym at.0;
            kept = ap (body_kept m shape done.log) at.1 ∙ kept;
          }
      by_place (inr at) =
          let r = h before at.0 f at.1 in
          record {
            log = r.log;
            start = prefix_trans (r.log ++ f ∷ []) c.seen d.seen r.start longer;
            own = ap (λ p. projection parties_of p r.log) done.party ∙ r.own;
            kept = r.kept;
          }

  -- of two beginnings of one journal that go on with an event of the party, each has as many of it as the other only if they are the same
  same-place : (p : Party) (xs ys zs : List Event) (e : Event) → takes_part (parties_of e) p ≡ true → IsPrefix (xs ++ e ∷ []) zs → IsPrefix (ys ++ e ∷ []) zs
      → projection parties_of p xs ≡ projection parties_of p ys → length xs < length ys → ⊥
  same-place p xs ys zs e takes px py same lt =
      let long : length (xs ++ e ∷ []) ≡ length xs + 1 = length-append xs (e ∷ []) in
      let start : IsPrefix ys zs = prefix_trans ys (ys ++ e ∷ []) zs (e ∷ [], refl) py in
      let within : IsPrefix (xs ++ e ∷ []) ys = prefix_shorter (xs ++ e ∷ []) ys zs px start (omega (arith, long, lt)) in
      let parts : projection parties_of p ys ≡ (projection parties_of p xs ++ e ∷ []) ++ projection parties_of p within.0 =
      ap (projection parties_of p) (sym within.1) ∙ (projection-append parties_of p (xs ++ e ∷ []) within.0 ∙ ap (λ es. es ++ projection parties_of p within.0) (own-snoc p xs e takes)) in
      let lens : length (projection parties_of p ys) ≡ length (projection parties_of p xs ++ e ∷ []) + length (projection parties_of p within.0) =
      ap length parts ∙ length-append (projection parties_of p xs ++ e ∷ []) (projection parties_of p within.0) in
      let one : length (projection parties_of p xs ++ e ∷ []) ≡ length (projection parties_of p xs) + 1 = length-append (projection parties_of p xs) (e ∷ []) in
      let equal : length (projection parties_of p xs) ≡ length (projection parties_of p ys) = ap length same in
      omega (arith, lens, one, equal)

  -- what a chair's party made keeps its meaning in the whole journal
  pub kept-part : (about : Option (About Run)) (log : List Event) (c : Sitting Event Run) → IsPart parties_of about log c → KeepsOwn m shape c → KeepsOf m shape c.party log
  kept-part about log c part h before later e is takes =
      let mine : c.own ≡ projection parties_of c.party before ++ e ∷ projection parties_of c.party later =
      part.own ∙ (ap (projection parties_of c.party) is ∙ (projection-append parties_of c.party before (e ∷ later) ∙ ap (λ (b : Bool). projection parties_of c.party before ++ cond b (e ∷ projection parties_of c.party later) (projection parties_of c.party later)) takes)) in
      let r = h (projection parties_of c.party before) (projection parties_of c.party later) e mine in
      let here : IsPrefix (r.log ++ e ∷ []) log = prefix_trans (r.log ++ e ∷ []) c.seen log r.start part.seen in
      let there : IsPrefix (before ++ e ∷ []) log = (later, append_assoc before (e ∷ []) later ∙ sym is) in
      let le : length r.log ≤ length before = not-more (length before) (length r.log) (same-place c.party before r.log log e takes there here (sym r.own)) in
      let ge : length before ≤ length r.log = not-more (length r.log) (length before) (same-place c.party r.log before log e takes here there r.own) in
      let one : IsPrefix r.log log = prefix_trans r.log (r.log ++ e ∷ []) log (e ∷ [], refl) here in
      let two : IsPrefix before log = prefix_trans before (before ++ e ∷ []) log (e ∷ [], refl) there in
      let same : r.log ≡ before = prefix_whole r.log before (prefix_shorter r.log before log one two le) ge in
      ap (λ es. body_kept m shape es e) (sym same) ∙ r.kept
    where
      not-more : (a b : ℕ) → (a < b → ⊥) → b ≤ a
      not-more a b h = by_order (cases_lt a b)
        where
          by_order : (a < b) ⊎ (b ≤ a) → b ≤ a
          by_order (inl lt) = absurd (h lt)
          by_order (inr le) = le
