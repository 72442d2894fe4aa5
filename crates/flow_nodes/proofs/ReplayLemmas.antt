-- One more event of a legal journal.
use Rattle.std.proofs.Common.{◌≡◌, ℕ, ◌+◌, true, Some, List, [], ◌∷◌, ◌++◌, take, drop, sym, ap, ◌∙◌}
use Rattle.std.specs.Prelude.{slice_get}
use Rattle.std.proofs.lemmas.List.{take-append-drop, take_more}
use Rattle.std.proofs.lemmas.Option.{slice_get_within, get_or_from_slice_get}
use Rattle.flow_item.specs.declared.event.Event.{Event}
use Rattle.flow_item.specs.Events.{parties_of}
use Rattle.flow_item.proofs.Tests.{and_left, and_right}
use Rattle.flow_item.proofs.Journals.{is_legal-snoc, is_legal-start}
use Rattle.flow_shape.specs.declared.Shape.{Shape}
use Rattle.flow_machine.specs.Machine.{allows, is_legal, may_follow}

-- the journal so far with its next event
pub taken : {X : Type 0} (xs : List X) (i : ℕ) (x : X) → slice_get xs i ≡ Some x → take (i + 1) xs ≡ take i xs ++ x ∷ []
taken xs i x at = let lt = slice_get_within xs i x at in take_more xs i x lt ∙ ap (λ y. take i xs ++ y ∷ []) (get_or_from_slice_get xs i x x at)

-- the journal so far is legal, and its next event may follow
pub legal-next : (shape : Shape) (es : List Event) (i : ℕ) (e : Event) → is_legal shape es ≡ true → slice_get es i ≡ Some e → (is_legal shape (take i es) ≡ true) × (may_follow shape (take i es) e ≡ true)
legal-next shape es i e legal at =
    let whole : (take i es ++ e ∷ []) ++ drop (i + 1) es ≡ es = ap (λ l. l ++ drop (i + 1) es) (sym (taken es i e at)) ∙ take-append-drop (i + 1) es in
    let more : is_legal shape (take i es ++ e ∷ []) ≡ true = is_legal-start parties_of (allows shape) (take i es ++ e ∷ []) (drop (i + 1) es) (ap (is_legal shape) whole ∙ legal) in
    let both = sym (is_legal-snoc parties_of (allows shape) (take i es) e) ∙ more in
    (and_left _ _ both, and_right _ _ both)
