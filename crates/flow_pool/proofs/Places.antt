-- What holds of each place of a list and the element there.
use Rattle.std.proofs.Common.{◌≡◌, ◌≢◌, ℕ, zero, suc, ◌<◌, List, [], ◌∷◌, ◌++◌, length, get_or, set, sym, subst, arith}
use Rattle.flow_pool.specs.Posts.{Each}

module _ {A : Type 0} where
  pub each_push : (P : ℕ → A → Type 0) (xs : List A) (x : A) → Each P xs → P (length xs) x → Each P (xs ++ x ∷ [])
  each_push P [] x all new zero d l = new
  each_push P [] x all new (suc k) d l = absurd (omega arith)
  each_push P (y ∷ ys) x all new zero d l = all zero d (omega arith)
  each_push P (y ∷ ys) x all new (suc k) d l = each_push (λ j. P (suc j)) ys x (λ j e m. all (suc j) e (omega arith)) new k d (omega arith)

  pub each_set : (P : ℕ → A → Type 0) (xs : List A) (i : ℕ) (x : A) → Each P xs → P i x → Each P (set xs i x)
  each_set P [] i x all new k d l = absurd (omega arith)
  each_set P (y ∷ ys) zero x all new zero d l = new
  each_set P (y ∷ ys) zero x all new (suc k) d l = all (suc k) d l
  each_set P (y ∷ ys) (suc i) x all new zero d l = all zero d (omega arith)
  each_set P (y ∷ ys) (suc i) x all new (suc k) d l = each_set (λ j. P (suc j)) ys i x (λ j e m. all (suc j) e (omega arith)) new k d (omega arith)

  -- of the element that was there nothing is asked
  pub each_set_but : (P : ℕ → A → Type 0) (xs : List A) (i : ℕ) (x : A) → ((k : ℕ) (d : A) → k < length xs → k ≢ i → P k (get_or xs k d)) → P i x → Each P (set xs i x)
  each_set_but P [] i x others new k d l = absurd (omega arith)
  each_set_but P (y ∷ ys) zero x others new zero d l = new
  each_set_but P (y ∷ ys) zero x others new (suc k) d l = others (suc k) d l (λ e. omega arith)
  each_set_but P (y ∷ ys) (suc i) x others new zero d l = others zero d (omega arith) (λ e. omega arith)
  each_set_but P (y ∷ ys) (suc i) x others new (suc k) d l = each_set_but (λ j. P (suc j)) ys i x (λ j e m apart. others (suc j) e (omega arith) (λ s. apart (omega arith))) new k d (omega arith)

  pub each_weaker : (P Q : ℕ → A → Type 0) (xs : List A) → ((k : ℕ) (x : A) → k < length xs → P k x → Q k x) → Each P xs → Each Q xs
  each_weaker P Q xs f all k d l = f k (get_or xs k d) l (all k d l)

  pub each_none : (P : ℕ → A → Type 0) → Each P []
  each_none P k d l = absurd (omega arith)

  -- of an element that was read
  pub each_at : (P : ℕ → A → Type 0) (xs : List A) (i : ℕ) (x : A) → Each P xs → i < length xs → x ≡ get_or xs i x → P i x
  each_at P xs i x all l e = subst (P i) (sym e) (all i x l)
