-- What a shelf's body of a function is.
use Rattle.std.proofs.Common.{◌≡◌, ℕ, zero, suc, [], ◌∷◌, Bool, true, false, not, ◌&&◌, ltb, Option, Some, List, length, sym, ap, subst, ◌∙◌}
use Rattle.std.proofs.lemmas.Bool.{ltb-true}
use Rattle.std.specs.Prelude.{slice_get, slice_index_or, map}
use Rattle.std.specs.List.{flat_map}
use Rattle.flow_item.specs.declared.val.Val.{Val}
use Rattle.flow_item.specs.declared.item.Msg.{Msg}
use Rattle.flow_item.specs.Values.{fits}
use Rattle.flow_item.proofs.Tests.{and_left}
use Rattle.flow_item.proofs.Places.{slice_get-below}
use Rattle.flow_shape.specs.declared.Kind.{Kind}
use Rattle.flow_shape.specs.declared.Kind.TheVariants as K
use Rattle.flow_body.specs.Shelves.{meanings_of_shelf, test_of, messages_of}
use Rattle.flow_doc.specs.Fits.{kind_fits}
use Rattle.flow_doc.specs.declared.Doc.{Doc}
use Rattle.flow_item.specs.Pairs.{Pair, pair_of_msg}
use Rattle.flow_mean.specs.Determinate.{has_loose_body}
use Rattle.flow_mean.specs.Judging.{has_free_body}
use Rattle.flow_mean.specs.Maps.{map_of}
use Rattle.flow_mean.specs.Meaning.{passed_by}

index-get : {X : Type 0} (xs : List X) (k : ℕ) (x d : X) → slice_get xs k ≡ Some x → slice_index_or xs k d ≡ x
index-get [] k x d h = cc
index-get (y ∷ xs) zero x d h = cc
index-get (y ∷ xs) (suc k) x d h = index-get xs k x d h

-- the body of a function's number
module _ {X D : Type 0} (see : X → D) (pure single : D → Bool) (out : D → Val → ℕ → Val → List Msg) (bodies : List X) (reject : Bool) (limit : Option ℕ) (body : ℕ) (arg : Val) (b : D)
    (fits_it : kind_fits (length bodies) (K.Function reject limit body arg) ≡ true) (at : (d : X) → b ≡ see (slice_index_or bodies body d)) where
  found : (x : X) × (slice_get bodies body ≡ Some x)
  found = slice_get-below bodies body (ltb-true body (length bodies) (and_left (ltb body (length bodies)) (fits arg) fits_it))

  is_found : b ≡ see found.0
  is_found = at found.0 ∙ ap see (index-get bodies body found.0 found.0 found.1)

  pub free-body : (doc : Doc) (n : ℕ) → not (pure b && single b) ≡ has_loose_body (meanings_of_shelf (λ n. pure (see n)) (λ n. single (see n)) (λ n. out (see n)) bodies) doc n (K.Function reject limit body arg)
  free-body doc n =
      ap (λ d. not (pure d && single d)) is_found
      ∙ sym (ap (λ (o : Option X). not (test_of (λ n. pure (see n)) o && test_of (λ n. single (see n)) o)) found.1)

  pub out-body : (v : Val) (tag : ℕ) (w : Val) → out b v tag w ≡ messages_of (λ n. out (see n)) (slice_get bodies body) v tag w
  out-body v tag w = ap (λ d. out d v tag w) is_found ∙ sym (ap (λ (o : Option X). messages_of (λ n. out (see n)) o v tag w) found.1)

  pub pure-body : pure b ≡ test_of (λ n. pure (see n)) (slice_get bodies body)
  pure-body = ap pure is_found ∙ sym (ap (λ (o : Option X). test_of (λ n. pure (see n)) o) found.1)

-- of a kind that is a function
pub free-function : {X D : Type 0} (see : X → D) (pure single : D → Bool) (out : D → Val → ℕ → Val → List Msg) (bodies : List X) (k : Kind) (reject : Bool) (limit : Option ℕ) (body : ℕ) (arg : Val) (b : D)
    → kind_fits (length bodies) k ≡ true → k ≡ K.Function reject limit body arg → ((d : X) → b ≡ see (slice_index_or bodies body d))
    → (doc : Doc) (n : ℕ) → not (pure b && single b) ≡ has_loose_body (meanings_of_shelf (λ n. pure (see n)) (λ n. single (see n)) (λ n. out (see n)) bodies) doc n k
free-function see pure single out bodies k reject limit body arg b fits_it is at doc n =
    free-body see pure single out bodies reject limit body arg b (subst (λ k. kind_fits (length bodies) k ≡ true) is fits_it) at doc n
    ∙ sym (ap (has_loose_body (meanings_of_shelf (λ n. pure (see n)) (λ n. single (see n)) (λ n. out (see n)) bodies) doc n) is)

module _ {X D : Type 0} (see : X → D) (pure single : D → Bool) (out : D → Val → ℕ → Val → List Msg) (bodies : List X) (k : Kind) (reject : Bool) (limit : Option ℕ) (body : ℕ) (arg : Val) (b : D)
    (fits_it : kind_fits (length bodies) k ≡ true) (is : k ≡ K.Function reject limit body arg) (at : (d : X) → b ≡ see (slice_index_or bodies body d)) where
  fitting : kind_fits (length bodies) (K.Function reject limit body arg) ≡ true
  fitting = subst (λ k. kind_fits (length bodies) k ≡ true) is fits_it

  -- a body that isn't loose is pure
  pub pure-function : has_free_body (meanings_of_shelf (λ n. pure (see n)) (λ n. single (see n)) (λ n. out (see n)) bodies) k ≡ false → pure b ≡ true
  pure-function h = by (test_of (λ n. pure (see n)) (slice_get bodies body)) (test_of (λ n. single (see n)) (slice_get bodies body)) (subst (λ k. has_free_body (meanings_of_shelf (λ n. pure (see n)) (λ n. single (see n)) (λ n. out (see n)) bodies) k ≡ false) is h) (pure-body see pure single out bodies reject limit body arg b fitting at)
    where
      by : (p s : Bool) → not (p && s) ≡ false → pure b ≡ p → pure b ≡ true
      by true s h e = e
      by false s h e = cc

  -- what the body answers to each pair is what the function passes
  pub passed-function : (row pairs : List Pair) → row ≡ flat_map (λ (p : Pair). map pair_of_msg (out b arg p.0 p.1)) pairs → map_of row ≡ passed_by (meanings_of_shelf (λ n. pure (see n)) (λ n. single (see n)) (λ n. out (see n)) bodies) k (λ port. pairs)
  passed-function row pairs h =
      let same : flat_map (λ (p : Pair). map pair_of_msg (out b arg p.0 p.1)) pairs ≡ flat_map (λ (p : Pair). map pair_of_msg (messages_of (λ n. out (see n)) (slice_get bodies body) arg p.0 p.1)) pairs =
      λ i. flat_map (λ (p : Pair). map pair_of_msg (out-body see pure single out bodies reject limit body arg b fitting at arg p.0 p.1 i)) pairs in
      ap map_of (h ∙ same) ∙ sym (ap (λ k. passed_by (meanings_of_shelf (λ n. pure (see n)) (λ n. single (see n)) (λ n. out (see n)) bodies) k (λ port. pairs)) is)
