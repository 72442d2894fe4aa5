-- What a document that fits a shelf has.
use Rattle.std.proofs.Common.{◌≡◌, ℕ, ◌≤◌, true, ◌&&◌, Option, Some, None, length, refl}
use Rattle.std.proofs.lemmas.Bool.{leb-true}
use Rattle.std.specs.Prelude.{is_none, nat_eq, nat_le}
use Rattle.std.specs.List.{list_all}
use Rattle.flow_item.proofs.Tests.{and_left, and_right}
use Rattle.flow_shape.specs.Rules.{IsValid, first_fault}
use Rattle.flow_doc.specs.declared.Doc.{Doc}
use Rattle.flow_doc.specs.Fits.{kind_fits, step_fits, doc_fits}

none-of : {X : Type 0} (o : Option X) → is_none o ≡ true → o ≡ None
none-of None h = refl
none-of (Some x) h = cc

pub record Fitted (bodies : ℕ) (doc : Doc) : Type 0 where
  pub valid : IsValid doc.shape
  pub shelved : list_all (kind_fits bodies) doc.shape.nodes ≡ true
  pub few : length doc.scripts ≤ 64

pub fitted : (bodies : ℕ) (doc : Doc) → doc_fits bodies doc ≡ true → Fitted bodies doc
fitted bodies doc fits =
    let shape_fits = is_none (first_fault doc.shape) in
    let names_fit = nat_eq (length doc.names) (length doc.shape.nodes) in
    let kinds_fit = list_all (kind_fits bodies) doc.shape.nodes in
    let callers_fit = nat_le (length doc.scripts) 64 in
    let steps_fit = list_all (list_all (step_fits doc.version doc.shape)) doc.scripts in
    let to_steps : (shape_fits && names_fit && kinds_fit && callers_fit && steps_fit) ≡ true = and_left _ _ fits in
    let to_callers : (shape_fits && names_fit && kinds_fit && callers_fit) ≡ true = and_left _ _ to_steps in
    let to_kinds : (shape_fits && names_fit && kinds_fit) ≡ true = and_left _ _ to_callers in
    record {
      valid = none-of (first_fault doc.shape) (and_left _ _ (and_left _ _ to_kinds));
      shelved = and_right (shape_fits && names_fit) _ to_kinds;
      few = leb-true _ _ (and_right (shape_fits && names_fit && kinds_fit) _ to_callers);
    }
