-- Lists that are taken apart from their end.
use Rattle.std.proofs.Common.{◌≡◌, ◌+◌, ◌<◌, ◌≢◌, List, [], ◌∷◌, ◌++◌, map, reverse, length, All, refl, sym, ap, ◌∙◌, subst, arith, append_assoc, append-nil, length-append}
use Rattle.std.proofs.lemmas.List.{map-append, reverse-append, reverse-reverse, length-map}
use Rattle.std.proofs.lemmas.List.Elements.{All-nil, All-cons, All-head, All-tail, All-append, All-map}

pub map-reverse : {A B : Type 0} (f : A → B) (xs : List A) → map f (reverse xs) ≡ reverse (map f xs)
map-reverse f [] = refl
map-reverse f (x ∷ xs) =
    ap (map f) (reverse-append (x ∷ []) xs)
    ∙ (map-append f (reverse xs) (x ∷ [])
    ∙ (ap (λ l. l ++ f x ∷ []) (map-reverse f xs) ∙ sym (reverse-append (f x ∷ []) (map f xs))))

-- one more is taken from the end of a list, and put behind those that were taken before
pub one-taken : {A B : Type 0} (f : A → B) (all old new : List B) (c : B) (xs more : List A) (x : A) → more ≡ xs ++ x ∷ [] → f x ≡ c → all ≡ old ++ reverse (map f xs) → old ≡ new ++ c ∷ []
    → all ≡ new ++ reverse (map f more)
one-taken f all old new c xs more x grown is h out =
    let turned_one : reverse (map f more) ≡ f x ∷ reverse (map f xs) = ap (λ l. reverse (map f l)) grown ∙ (ap reverse (map-append f xs (x ∷ [])) ∙ reverse-append (map f xs) (f x ∷ [])) in
    h ∙ (ap (λ l. l ++ reverse (map f xs)) (out ∙ ap (λ y. new ++ y ∷ []) (sym is))
    ∙ (append_assoc new (f x ∷ []) (reverse (map f xs)) ∙ ap (λ l. new ++ l) (sym turned_one)))

-- in the end they are turned round
pub all-taken : {A B : Type 0} (f : A → B) (all new : List B) (xs ys : List A) → all ≡ new ++ reverse (map f xs) → ys ≡ reverse xs → all ≡ new ++ map f ys
all-taken f all new xs ys h turned = h ∙ (ap (λ l. new ++ l) (sym (map-reverse f xs)) ∙ ap (λ l. new ++ map f l) (sym turned))

pub none-taken : {A B : Type 0} (f : A → B) (all : List B) → all ≡ all ++ reverse (map f [])
none-taken f all = sym (append-nil all)

-- what is longer than nothing isn't empty
pub not-empty : {A : Type 0} (xs : List A) → 0 < length xs → xs ≢ []
not-empty [] h is = let never : ⊥ = omega (arith, h) in never
not-empty (x ∷ xs) h is = cc

pub one-shorter : {A : Type 0} (xs ys : List A) (x : A) → xs ≡ ys ++ x ∷ [] → length xs ≡ length ys + 1
one-shorter xs ys x h = ap length h ∙ length-append ys (x ∷ [])

pub empty-of : {A : Type 0} (xs : List A) → length xs ≡ 0 → xs ≡ []
empty-of [] h = refl
empty-of (x ∷ xs) h = let never : ⊥ = omega (arith, h) in absurd never

-- one more is given back to a list, from the end of those that were taken
pub one-given : {A B : Type 0} (f : A → B) (old new : List B) (xs ys : List A) (x : A) → xs ≡ ys ++ x ∷ [] → new ≡ old ++ f x ∷ [] → new ++ reverse (map f ys) ≡ old ++ reverse (map f xs)
one-given f old new xs ys x last more =
    let turned : reverse (map f xs) ≡ f x ∷ reverse (map f ys) = ap (λ l. reverse (map f l)) last ∙ (ap reverse (map-append f ys (x ∷ [])) ∙ reverse-append (map f ys) (f x ∷ [])) in
    ap (λ l. l ++ reverse (map f ys)) more ∙ (append_assoc old (f x ∷ []) (reverse (map f ys)) ∙ ap (λ l. old ++ l) (sym turned))

-- all are given back
pub all-given : {A B : Type 0} (f : A → B) (old new : List B) (all xs : List A) → new ++ reverse (map f xs) ≡ old ++ reverse (map f all) → length xs ≡ 0 → new ≡ old ++ reverse (map f all)
all-given f old new all xs h none =
    let left : xs ≡ [] = empty-of xs none in
    sym (append-nil new) ∙ (ap (λ l. new ++ reverse (map f l)) (sym left) ∙ h)

-- what was turned round before it was given back
pub turned : {A B : Type 0} (f : A → B) (xs ys : List A) → ys ≡ reverse xs → reverse (map f ys) ≡ map f xs
turned f xs ys h = ap (λ l. reverse (map f l)) h ∙ (ap reverse (map-reverse f xs) ∙ reverse-reverse (map f xs))

-- all are given back to a list, in their order
pub seated : {A B : Type 0} (f : A → B) (before old new : List B) (xs ys : List A) → old ≡ before → ys ≡ reverse xs → new ≡ old ++ reverse (map f ys) → new ≡ before ++ map f xs
seated f before old new xs ys is h more = more ∙ (ap (λ l. l ++ reverse (map f ys)) is ∙ ap (λ l. before ++ l) (turned f xs ys h))

pub all-first : {A : Type 0} (P Q : A → Type 0) (xs : List A) → All (λ x. P x × Q x) xs → All P xs
all-first P Q [] h = All-nil P
all-first P Q (x ∷ xs) h = All-cons P x xs (All-head (λ x. P x × Q x) x xs h).0 (all-first P Q xs (All-tail (λ x. P x × Q x) x xs h))

pub all-second : {A : Type 0} (P Q : A → Type 0) (xs : List A) → All (λ x. P x × Q x) xs → All Q xs
all-second P Q [] h = All-nil Q
all-second P Q (x ∷ xs) h = All-cons Q x xs (All-head (λ x. P x × Q x) x xs h).1 (all-second P Q xs (All-tail (λ x. P x × Q x) x xs h))

-- ---- the members of two lists put together, those of the first with two parts each

module _ {A W S : Type 0} (f g : A → S) (h : W → S) (cs : List A) (ws : List W) (first second : List S) (of_first : first ≡ map f cs) (of_second : second ≡ map h ws ++ map g cs) where
  pub all-together : (P : S → Type 0) → All (λ c. P (f c) × P (g c)) cs → All (λ w. P (h w)) ws → All P (first ++ second)
  all-together P both one =
      subst (λ (l : List S). All P l) (sym (λ i. of_first i ++ of_second i))
      (All-append P (map f cs) (map h ws ++ map g cs)
      (All-map P f cs (all-first (λ c. P (f c)) (λ c. P (g c)) cs both))
      (All-append P (map h ws) (map g cs) (All-map P h ws one) (All-map P g cs (all-second (λ c. P (f c)) (λ c. P (g c)) cs both))))

  pub some-together : 0 < length ws + length cs → 0 < length (first ++ second)
  some-together some =
      let long = length-append first second in
      let more = ap length of_second ∙ length-append (map h ws) (map g cs) in
      let works = length-map ws h in
      let waits = length-map cs g in
      omega (arith, long, more, works, waits, some)

-- what holds of each is left where the last is put first
pub all-turned : {A : Type 0} (P : A → Type 0) (xs : List A) → All P xs → All P (reverse xs)
all-turned P [] h = All-nil P
all-turned P (x ∷ xs) h =
    subst (λ (l : List _). All P l) (sym (reverse-append (x ∷ []) xs))
    (All-append P (reverse xs) (x ∷ []) (all-turned P xs (All-tail P x xs h)) (All-cons P x [] (All-head P x xs h) (All-nil P)))

-- how many are left when some were taken out
pub left-over : {A B : Type 0} (f : A → B) (all new : List B) (xs : List A) → all ≡ new ++ map f xs → length all ≡ length new + length xs
left-over f all new xs h =
    let both = ap length h ∙ length-append new (map f xs) in
    let some = length-map xs f in
    omega (arith, both, some)

-- nothing is left when all were taken out
pub all-out : {A B : Type 0} (f : A → B) (all new : List B) (xs : List A) → all ≡ new ++ map f xs → length all ≡ length xs → (new ≡ []) × (map f xs ≡ all)
all-out f all new xs h long =
    let left = left-over f all new xs h in
    let none : new ≡ [] = empty-of new (omega (arith, left, long)) in
    (none, sym (h ∙ ap (λ l. l ++ map f xs) none))
