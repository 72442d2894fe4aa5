-- Lists whose members were changed one by one.
use Rattle.std.proofs.Common.{◌≡◌, ℕ, zero, suc, ◌<◌, ◌≤◌, Bool, true, List, [], ◌∷◌, ◌++◌, map, length, take, drop, All, refl, sym, ap, ◌∙◌, subst, arith}
use Rattle.std.specs.Prelude.{slice_index_or}
use Rattle.std.proofs.lemmas.List.{map-append, length-map, drop_all, append-nil}
use Rattle.std.proofs.lemmas.List.Elements.{All-nil, All-cons, All-head, All-tail, All-append}
use Rattle.flow_item.specs.declared.event.Event.{Event}
use Rattle.flow_item.specs.declared.event.Party.{Party}
use Rattle.flow_machine.specs.Bodies.{Meanings}
use Rattle.flow_line.specs.Values.{Sitting, fresh}
use Rattle.flow_book.specs.declared.machine.Run.{Run}
use Rattle.flow_book.specs.Callers.{may_call}
use Rattle.flow_book.specs.Opening.{fresh_chairs}
use Rattle.flow_book.specs.Answers.{about_of}
use Rattle.flow_crew.specs.Crew.{IsCaller, IsWorker}
use Rattle.flow_crew.proofs.Ready.{all-both, all-parts, all-unmap}
use Rattle.flow_run.specs.Following.{IsNew}

-- what each member keeps, the list keeps
pub map-same : {X Y : Type 0} (f : X → Y) (xs ys : List X) → length ys ≡ length xs → ((i : ℕ) (d : X) → i < length xs → f (slice_index_or ys i d) ≡ f (slice_index_or xs i d)) → map f ys ≡ map f xs
map-same f [] [] len h = refl
map-same f [] (y ∷ ys) len h = absurd (let never : ⊥ = omega (arith, len) in never)
map-same f (x ∷ xs) [] len h = absurd (let never : ⊥ = omega (arith, len) in never)
map-same f (x ∷ xs) (y ∷ ys) len h =
    let head : f y ≡ f x = h 0 x (omega arith) in
    let tail : map f ys ≡ map f xs = map-same f xs ys (omega (arith, len)) (λ i d lt. h (suc i) d (omega (arith, lt))) in
    (λ i. head i ∷ tail i)

-- the last member was changed
pub last-changed : {X : Type 0} (P : X → Type 0) (old front new : List X) (x y : X) → All P old → old ≡ front ++ x ∷ [] → new ≡ front ++ y ∷ [] → P y → All P new
last-changed {X} P old front new x y all was is h =
    subst (λ (xs : List X). All P xs) (sym is)
    (All-append P front (y ∷ []) (all-parts P front (x ∷ []) (subst (λ (xs : List X). All P xs) was all)).0 (All-cons P y [] h (All-nil P)))

pub same-length : {X Y : Type 0} (f : X → Y) (xs ys : List X) → map f xs ≡ map f ys → length xs ≡ length ys
same-length f xs ys h = sym (length-map xs f) ∙ (ap length h ∙ length-map ys f)

-- ---- chairs at their start

pub map-twice : {X Y Z : Type 0} (f : X → Y) (g : Y → Z) (xs : List X) → map (λ x. g (f x)) xs ≡ map g (map f xs)
map-twice f g [] = refl
map-twice f g (x ∷ xs) = ap (λ zs. g (f x) ∷ zs) (map-twice f g xs)

fresh-parties : (about : _) (ps : List Party) → map (λ (c : Sitting Event Run). c.party) (map (fresh {E = Event} {S = Run} about) ps) ≡ ps
fresh-parties about [] = refl
fresh-parties about (p ∷ ps) = ap (λ qs. p ∷ qs) (fresh-parties about ps)

pub parties-of : {X : Type 0} (f : X → Sitting Event Run) (run : Run) (items events : ℕ) (ps : List Party) (xs : List X) → map f xs ≡ fresh_chairs run items events ps → map (λ x. (f x).party) xs ≡ ps
parties-of f run items events ps xs h = map-twice f (λ (c : Sitting Event Run). c.party) xs ∙ (ap (map (λ (c : Sitting Event Run). c.party)) h ∙ fresh-parties (about_of run items events) ps)

pub parties-both : {X Y : Type 0} (f : X → Sitting Event Run) (g : Y → Sitting Event Run) (run : Run) (items events : ℕ) (ps : List Party) (xs : List X) (ys : List Y) → map f xs ++ map g ys ≡ fresh_chairs run items events ps
    → map (λ x. (f x).party) xs ++ map (λ y. (g y).party) ys ≡ ps
parties-both f g run items events ps xs ys h =
    (λ i. map-twice f (λ (c : Sitting Event Run). c.party) xs i ++ map-twice g (λ (c : Sitting Event Run). c.party) ys i)
    ∙ (sym (map-append (λ (c : Sitting Event Run). c.party) (map f xs) (map g ys))
    ∙ (ap (map (λ (c : Sitting Event Run). c.party)) h ∙ fresh-parties (about_of run items events) ps))

fresh-new : (about : _) (ps : List Party) → All IsNew (map (fresh {E = Event} {S = Run} about) ps)
fresh-new about [] = All-nil IsNew
fresh-new about (p ∷ ps) = All-cons IsNew (fresh about p) (map (fresh about) ps) (refl, refl) (fresh-new about ps)

pub all-imply : {X : Type 0} (P Q : X → Type 0) → ((x : X) → P x → Q x) → (xs : List X) → All P xs → All Q xs
all-imply P Q f [] h = All-nil Q
all-imply P Q f (x ∷ xs) h = All-cons Q x xs (f x (All-head P x xs h)) (all-imply P Q f xs (All-tail P x xs h))

-- callers that are ready are new as well
pub all-ready : {X : Type 0} (f g : X → Sitting Event Run) (busy : X → Bool) (Post : X → Type 0) (m : Meanings) (run : Run) (items events i e : ℕ) (ps : List Party) (xs : List X) → i ≡ items → e ≡ events → map f xs ≡ fresh_chairs run items events ps
    → All (λ x. IsCaller m run items events (f x) × (may_call run (f x) ≡ true)) xs → All (λ x. IsWorker m run items events (g x) (busy x) × Post x) xs
    → All (λ x. IsCaller m run i e (f x) × IsWorker m run i e (g x) (busy x) × Post x × (may_call run (f x) ≡ true) × IsNew (f x)) xs
all-ready {X} f g busy Post m run items events i e ps xs same_i same_e chairs ready waiters =
    let new : All (λ x. IsNew (f x)) xs = all-unmap f IsNew xs (subst (λ (cs : List (Sitting Event Run)). All IsNew cs) (sym chairs) (fresh-new (about_of run items events) ps)) in
    let A : X → Type 0 = λ x. IsCaller m run items events (f x) × (may_call run (f x) ≡ true) in
    let B : X → Type 0 = λ x. IsWorker m run items events (g x) (busy x) × Post x in
    let C : X → Type 0 = λ x. IsNew (f x) in
    all-imply (λ x. A x × (B x × C x)) (λ x. IsCaller m run i e (f x) × IsWorker m run i e (g x) (busy x) × Post x × (may_call run (f x) ≡ true) × IsNew (f x))
    (λ x h. (
      subst (λ (n : ℕ). IsCaller m run n e (f x)) (sym same_i) (subst (λ (n : ℕ). IsCaller m run items n (f x)) (sym same_e) h.0.0),
      subst (λ (n : ℕ). IsWorker m run n e (g x) (busy x)) (sym same_i) (subst (λ (n : ℕ). IsWorker m run items n (g x) (busy x)) (sym same_e) h.1.0.0),
      h.1.0.1,
      h.0.1,
      h.1.1,
    )) xs
    (all-both A (λ x. B x × C x) xs ready (all-both B C xs waiters new))

-- ---- lists that were lent

-- what was written back to a list as long as it was is the list
pub written : {X : Type 0} (len : ℕ) (old xs : List X) → len ≡ length old → length xs ≡ length old → take len (xs ++ drop (length xs) old) ≡ xs
written len old xs is same =
    ap (λ ys. take len (xs ++ ys)) (drop_all (length xs) old (let le : length old ≤ length xs = omega (arith, same) in le))
    ∙ (ap (take len) (append-nil xs) ∙ take-whole len xs (let enough : length xs ≤ len = omega (arith, is, same) in enough))
  where
    take-whole : {X : Type 0} (n : ℕ) (xs : List X) → length xs ≤ n → take n xs ≡ xs
    take-whole zero [] h = refl
    take-whole (suc n) [] h = refl
    take-whole zero (x ∷ xs) h = absurd (let never : ⊥ = omega (arith, h) in never)
    take-whole (suc n) (x ∷ xs) h = ap (λ ys. x ∷ ys) (take-whole n xs (omega (arith, h)))

-- callers and their workers are of the run
pub abouts : {X : Type 0} (f g : X → Sitting Event Run) (busy : X → Bool) (F : X → Type 0) (m : Meanings) (run : Run) (items events : ℕ) (xs : List X) → All (λ x. IsCaller m run items events (f x) × IsWorker m run items events (g x) (busy x) × F x) xs
    → All (λ x. ((f x).about ≡ about_of run items events) × ((g x).about ≡ about_of run items events)) xs
abouts f g busy F m run items events xs h =
    all-imply (λ x. IsCaller m run items events (f x) × IsWorker m run items events (g x) (busy x) × F x) (λ x. ((f x).about ≡ about_of run items events) × ((g x).about ≡ about_of run items events))
    (λ x t. (t.0.about, t.1.about)) xs h
