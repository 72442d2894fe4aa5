-- The first chair of a list that keeps an event.
use Rattle.std.proofs.Common.{◌≡◌, ℕ, zero, suc, ◌+◌, ◌<◌, ◌≤◌, Bool, true, false, if◌then◌else◌, List, [], ◌∷◌, ◌++◌, length, take, get_or, set, refl, ap, sym, ◌∙◌, arith, All, Some, None}
use Rattle.std.proofs.lemmas.List.{take_all}
use Rattle.std.proofs.lemmas.List.Elements.{All-cons, All-head, All-tail}
use Rattle.std.specs.Option.{is_some}
use Rattle.std.specs.declared.option.Option.{Option}
use Rattle.flow_item.specs.declared.event.Parties.{Parties}
use Rattle.flow_line.specs.declared.view.About.{About}
use Rattle.flow_line.specs.Values.{Sitting, IsPart}
use Rattle.flow_line.specs.Kept.{kept_event, or_else, without_kept, first_kept, without_first_kept}

module _ {E : Type 0} where
  or_first : (k : Option (E × ℕ)) (y : Option E) → or_else (kept_event k) y ≡ None → (is_some k ≡ false) × (y ≡ None)
  or_first None y h = (refl, h)
  or_first (Some k) y h = absurd cc

  or_none : (k : Option (E × ℕ)) (y : Option E) → is_some k ≡ false → or_else (kept_event k) y ≡ y
  or_none None y h = refl
  or_none (Some k) y h = absurd cc

  or_some : (k : Option (E × ℕ)) (y : Option E) → is_some k ≡ true → or_else (kept_event k) y ≡ kept_event k
  or_some None y h = absurd cc
  or_some (Some k) y h = refl

  or_else_assoc : (x y z : Option E) → or_else (or_else x y) z ≡ or_else x (or_else y z)
  or_else_assoc None y z = refl
  or_else_assoc (Some e) y z = refl

module _ {E S : Type 0} where
  -- where none keeps an event nothing is taken
  pub none_taken : (cs : List (Sitting E S)) → first_kept cs ≡ None → without_first_kept cs ≡ cs
  none_taken [] h = refl
  none_taken (c ∷ cs) h =
      let t = or_first c.kept (first_kept cs) h in
      ap (λ b. if b then without_kept c ∷ cs else c ∷ without_first_kept cs) t.0 ∙ ap (λ l. c ∷ l) (none_taken cs t.1)

  -- of two lists the first comes first
  pub first_kept-append : (cs ds : List (Sitting E S)) → first_kept (cs ++ ds) ≡ or_else (first_kept cs) (first_kept ds)
  first_kept-append [] ds = refl
  first_kept-append (c ∷ cs) ds = ap (or_else (kept_event c.kept)) (first_kept-append cs ds) ∙ sym (or_else_assoc (kept_event c.kept) (first_kept cs) (first_kept ds))

  -- what stands at a place of a list is one chair
  same_place : (cs : List (Sitting E S)) (k : ℕ) (a b : Sitting E S) → k < length cs → get_or cs k a ≡ get_or cs k b
  same_place [] k a b below = absurd (omega (arith, below))
  same_place (x ∷ cs) zero a b below = refl
  same_place (x ∷ cs) (suc k) a b below = same_place cs k a b (omega (arith, below))

  -- the chair at this place is the first that keeps an event
  first_found : (cs : List (Sitting E S)) (k : ℕ) (c : Sitting E S) → c ≡ get_or cs k c → k < length cs → first_kept (take k cs) ≡ None → is_some c.kept ≡ true
      → (first_kept cs ≡ kept_event c.kept) × (without_first_kept cs ≡ set cs k (without_kept c))
  first_found [] k c at below none some = absurd (omega (arith, below))
  first_found (x ∷ cs) zero c at below none some =
      let here : is_some x.kept ≡ true = ap (λ (c : Sitting E S). is_some c.kept) (sym at) ∙ some in (
        or_some x.kept (first_kept cs) here ∙ ap (λ (c : Sitting E S). kept_event c.kept) (sym at),
        ap (λ b. if b then without_kept x ∷ cs else x ∷ without_first_kept cs) here ∙ ap (λ (c : Sitting E S). without_kept c ∷ cs) (sym at),
      )
  first_found (x ∷ cs) (suc k) c at below none some =
      let t = or_first x.kept (first_kept (take k cs)) none in
      let rest = first_found cs k c at (omega (arith, below)) t.1 some in (
        or_none x.kept (first_kept cs) t.0 ∙ rest.0,
        ap (λ b. if b then without_kept x ∷ cs else x ∷ without_first_kept cs) t.0 ∙ ap (λ l. x ∷ l) rest.1,
      )

  -- the same of what was read twice at this place, once for a test
  pub found_here : (cs : List (Sitting E S)) (k : ℕ) (a b : Sitting E S) (t : Bool) → a ≡ get_or cs k a → b ≡ get_or cs k b → k < length cs → first_kept (take k cs) ≡ None
      → t ≡ is_some a.kept → t ≡ true → (first_kept cs ≡ kept_event b.kept) × (without_first_kept cs ≡ set cs k (without_kept b))
  found_here cs k a b t at_a at_b below none test is =
      let same : b ≡ a = at_b ∙ (same_place cs k b a below ∙ sym at_a) in
      first_found cs k b at_b below none (ap (λ (c : Sitting E S). is_some c.kept) same ∙ (sym test ∙ is))

  -- the chair at this place keeps none, as those before it
  pub none_further : (cs : List (Sitting E S)) (k : ℕ) (c : Sitting E S) → c ≡ get_or cs k c → k < length cs → first_kept (take k cs) ≡ None → is_some c.kept ≡ false
      → first_kept (take (k + 1) cs) ≡ None
  none_further cs k c at below none empty =
      let next : k + 1 ≡ suc k = omega arith in
      ap (λ n. first_kept (take n cs)) next ∙ further cs k at below none
    where
      further : (cs : List (Sitting E S)) (k : ℕ) → c ≡ get_or cs k c → k < length cs → first_kept (take k cs) ≡ None → first_kept (take (suc k) cs) ≡ None
      further [] k at below none = absurd (omega (arith, below))
      further (x ∷ cs) zero at below none = or_none x.kept None (ap (λ (c : Sitting E S). is_some c.kept) (sym at) ∙ empty)
      further (x ∷ cs) (suc k) at below none =
          let t = or_first x.kept (first_kept (take k cs)) none in
          or_none x.kept (first_kept (take (suc k) cs)) t.0 ∙ further cs k at (omega (arith, below)) t.1

  -- none of all keeps an event
  pub none_of_all : (cs : List (Sitting E S)) (k : ℕ) → length cs ≤ k → first_kept (take k cs) ≡ None → first_kept cs ≡ None
  none_of_all cs k le none = ap first_kept (sym (take_all k cs le)) ∙ none

  part_same : (parties_of : E → Parties) (about : Option (About S)) (log : List E) (c : Sitting E S) → IsPart parties_of about log (without_kept c) → IsPart parties_of about log c
  part_same parties_of about log c p = record { about_is = p.about_is; seen = p.seen; own = p.own }

  -- what was kept is no matter for what the chairs have of a journal
  pub parts_before : (parties_of : E → Parties) (about : Option (About S)) (log : List E) (cs : List (Sitting E S))
      → All (IsPart parties_of about log) (without_first_kept cs) → All (IsPart parties_of about log) cs
  parts_before parties_of about log [] parts = parts
  parts_before parties_of about log (c ∷ cs) parts = by_kept (parts_before parties_of about log cs) (is_some c.kept) parts
    where
      by_kept : (All (IsPart parties_of about log) (without_first_kept cs) → All (IsPart parties_of about log) cs) → (b : Bool) → All (IsPart parties_of about log) (if b then without_kept c ∷ cs else c ∷ without_first_kept cs) → All (IsPart parties_of about log) (c ∷ cs)
      by_kept later true h = All-cons (IsPart parties_of about log) c cs (part_same parties_of about log c (All-head (IsPart parties_of about log) (without_kept c) cs h)) (All-tail (IsPart parties_of about log) (without_kept c) cs h)
      by_kept later false h = All-cons (IsPart parties_of about log) c cs (All-head (IsPart parties_of about log) c (without_first_kept cs) h)
          (later (All-tail (IsPart parties_of about log) c (without_first_kept cs) h))
