-- What a pure and single body answers.
use Rattle.std.proofs.Common.{◌≡◌, ℕ, Bool, true, eqb, Option, Some, None, List, [], ◌∷◌, ap, ◌∙◌}
use Rattle.std.proofs.lemmas.Bool.{eqb-true}
use Rattle.std.specs.Prelude.{slice_get}
use Rattle.flow_item.specs.declared.val.Val.{Val}
use Rattle.flow_item.specs.declared.item.Msg.{Msg}
use Rattle.flow_item.proofs.Tests.{and_left, and_right}
use Rattle.flow_machine.specs.Bodies.{Meanings}
use Rattle.flow_body.specs.Single.{is_single_answer}
use Rattle.flow_body.specs.Shelves.{test_of, messages_of, meanings_of_shelf}
use Rattle.flow_determinacy.specs.Singles.{SinglesAnswerOnce}

one-message : (tag : ℕ) (ms : List Msg) → is_single_answer tag ms ≡ true → (v : Val) × (ms ≡ record { port = 0; tag = tag; val = v } ∷ [])
one-message tag [] h = cc
one-message tag (m ∷ []) h =
    let port : m.port ≡ 0 = eqb-true m.port 0 (and_left (eqb m.port 0) _ h) in
    let same : m.tag ≡ tag = eqb-true m.tag tag (and_right (eqb m.port 0) _ h) in
    (m.val, ap (λ p. record { port = p; tag = m.tag; val = m.val } ∷ []) port ∙ ap (λ t. record { port = 0; tag = t; val = m.val } ∷ []) same)
one-message tag (m ∷ n ∷ ms) h = cc

pub one-answer : (meanings : Meanings) → SinglesAnswerOnce meanings → (body tag : ℕ) (arg val : Val) → meanings.is_pure body ≡ true → meanings.is_single body ≡ true → (v : Val) × (meanings.out body arg tag val ≡ record { port = 0; tag = tag; val = v } ∷ [])
one-answer meanings singles body tag arg val pure single = one-message tag (meanings.out body arg tag val) (singles body pure single arg tag val)

-- ---- shelves

module _ {X : Type 0} (pure single : X → Bool) (out : X → Val → ℕ → Val → List Msg) where
  -- each body answers once where it is pure and single
  abbrev pub EachOnce : Type 0
  EachOnce = (b : X) (arg : Val) (tag : ℕ) (v : Val) → pure b ≡ true → single b ≡ true → is_single_answer tag (out b arg tag v) ≡ true

  there-once : (o : Option X) → EachOnce → test_of pure o ≡ true → test_of single o ≡ true → (arg : Val) (tag : ℕ) (v : Val) → is_single_answer tag (messages_of out o arg tag v) ≡ true
  there-once None once p s arg tag v = cc
  there-once (Some b) once p s arg tag v = once b arg tag v p s

  pub shelf-once : (bodies : List X) → EachOnce → SinglesAnswerOnce (meanings_of_shelf pure single out bodies)
  shelf-once bodies once body p s arg tag v = there-once (slice_get bodies body) once p s arg tag v
