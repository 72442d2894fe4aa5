-- Callers and workers at the start of a graph.
use Rattle.std.proofs.Common.{◌≡◌, ℕ, zero, suc, ◌<◌, ◌≤◌, Bool, true, false, List, [], ◌∷◌, ◌++◌, map, length, All, refl, sym, ap, ◌∙◌, subst, arith, length-append}
use Rattle.std.proofs.lemmas.Bool.{lt-ltb}
use Rattle.std.proofs.lemmas.List.{map-append}
use Rattle.std.proofs.lemmas.List.Elements.{All-nil, All-cons, All-head, All-tail, All-append}
use Rattle.flow_item.specs.declared.event.Event.{Event}
use Rattle.flow_item.specs.declared.event.Party.{Party}
use Rattle.flow_item.specs.declared.event.Party.TheVariants.{Caller, Worker}
use Rattle.flow_item.proofs.Tests.{both_true}
use Rattle.flow_shape.specs.declared.Shape.{Shape}
use Rattle.flow_machine.specs.Bodies.{Meanings}
use Rattle.flow_line.specs.Values.{Sitting, fresh}
use Rattle.flow_pool.specs.Posts.{Each}
use Rattle.flow_book.specs.declared.machine.Run.{Run}
use Rattle.flow_book.specs.Answers.{about_of}
use Rattle.flow_book.specs.Callers.{may_call}
use Rattle.flow_book.specs.Opening.{numbers_below, callers_of, workers_of, fresh_chairs}
use Rattle.flow_crew.specs.Bodies.{KeepsOwn}
use Rattle.flow_crew.specs.Crew.{IsCaller, IsWorker}

pub all-both : {X : Type 0} (P Q : X → Type 0) (xs : List X) → All P xs → All Q xs → All (λ x. P x × Q x) xs
all-both P Q [] p q = All-nil (λ x. P x × Q x)
all-both P Q (x ∷ xs) p q = All-cons (λ x. P x × Q x) x xs (All-head P x xs p, All-head Q x xs q) (all-both P Q xs (All-tail P x xs p) (All-tail Q x xs q))

pub all-unmap : {A B : Type 0} (f : A → B) (P : B → Type 0) (xs : List A) → All P (map f xs) → All (λ x. P (f x)) xs
all-unmap f P [] h = All-nil (λ x. P (f x))
all-unmap f P (x ∷ xs) h = All-cons (λ x. P (f x)) x xs (All-head P (f x) (map f xs) h) (all-unmap f P xs (All-tail P (f x) (map f xs) h))

-- what each of two lists has, if both together have it
pub all-parts : {X : Type 0} (P : X → Type 0) (xs ys : List X) → All P (xs ++ ys) → All P xs × All P ys
all-parts P [] ys h = (All-nil P, h)
all-parts P (x ∷ xs) ys h =
    let rest = all-parts P xs ys (All-tail P x (xs ++ ys) h) in
    (All-cons P x xs (All-head P x (xs ++ ys) h) rest.0, rest.1)

ready-each : {X : Type 0} (P : X → Type 0) (f : ℕ → Party) (g : Party → X) (m : ℕ) → ((n : ℕ) → n < m → P (g (f n))) → (n : ℕ) → n ≤ m → All P (map g (map f (numbers_below n)))
ready-each P f g m h zero le = All-nil P
ready-each {X} P f g m h (suc n) le =
    let last : map g (map f (numbers_below n ++ n ∷ [])) ≡ map g (map f (numbers_below n)) ++ g (f n) ∷ [] =
    ap (map g) (map-append f (numbers_below n) (n ∷ [])) ∙ map-append g (map f (numbers_below n)) (f n ∷ []) in
    let below : n < m = omega (arith, le) in
    subst (λ (xs : List X). All P xs) (sym last)
    (All-append P (map g (map f (numbers_below n))) (g (f n) ∷ []) (ready-each P f g m h n (omega (arith, le))) (All-cons P (g (f n)) [] (h n below) (All-nil P)))

length-each : {X : Type 0} (f : ℕ → Party) (g : Party → X) (n : ℕ) → length (map g (map f (numbers_below n))) ≡ n
length-each f g zero = refl
length-each f g (suc n) =
    let last : map g (map f (numbers_below n ++ n ∷ [])) ≡ map g (map f (numbers_below n)) ++ g (f n) ∷ [] =
    ap (map g) (map-append f (numbers_below n) (n ∷ [])) ∙ map-append g (map f (numbers_below n)) (f n ∷ []) in
    let long = ap length last ∙ length-append (map g (map f (numbers_below n))) (g (f n) ∷ []) in
    let rest = length-each f g n in
    omega (arith, long, rest)

pub callers-there : (run : Run) (items events : ℕ) (cs : List (Sitting Event Run)) → cs ≡ fresh_chairs run items events (callers_of run) → length cs ≡ run.callers
callers-there run items events cs h = ap length h ∙ length-each Caller (fresh (about_of run items events)) run.callers

pub workers-there : (run : Run) (items events : ℕ) (cs : List (Sitting Event Run)) → cs ≡ fresh_chairs run items events (workers_of run) → length cs ≡ run.workers
workers-there run items events cs h = ap length h ∙ length-each Worker (fresh (about_of run items events)) run.workers

-- who made nothing has ended no body
none-ended : (m : Meanings) (shape : Shape) (c : Sitting Event Run) → c.own ≡ [] → KeepsOwn m shape c
none-ended m shape c none before later e is = absurd (by_first before (sym none ∙ is))
  where
    by_first : (before : List Event) → [] ≡ before ++ e ∷ later → ⊥
    by_first [] h = cc
    by_first (x ∷ xs) h = cc

-- callers that did nothing yet may call
pub callers-ready : (m : Meanings) (run : Run) (items events : ℕ) → All (λ c. IsCaller m run items events c × (may_call run c ≡ true)) (fresh_chairs run items events (callers_of run))
callers-ready m run items events =
    ready-each (λ c. IsCaller m run items events c × (may_call run c ≡ true)) Caller (fresh (about_of run items events)) run.callers
    (λ n below. (record { about = refl; caller = lt-ltb n run.callers below; kept = tt }, both_true (lt-ltb n run.callers below) refl)) run.callers (omega arith)

-- and workers run nothing
pub workers-ready : (m : Meanings) (run : Run) (items events : ℕ) → All (λ c. IsWorker m run items events c false) (fresh_chairs run items events (workers_of run))
workers-ready m run items events =
    ready-each (λ c. IsWorker m run items events c false) Worker (fresh (about_of run items events)) run.workers
    (λ n below. record { about = refl; worker = lt-ltb n run.workers below; kept = tt; idle = λ b. refl; bodies = none-ended m run.shape (fresh (about_of run items events) (Worker n)) refl }) run.workers (omega arith)

-- the posts of a pool that was just made
pub all-each : {X : Type 0} (P : X → Type 0) (Q : ℕ → X → Type 0) → ((n : ℕ) (x : X) → Q n x → P x) → (xs : List X) → Each Q xs → All P xs
all-each P Q weaker [] h = All-nil P
all-each P Q weaker (x ∷ xs) h = All-cons P x xs (weaker 0 x (h 0 x (omega arith))) (all-each P (λ k. Q (suc k)) (λ n y q. weaker (suc n) y q) xs (λ k d below. h (suc k) d (omega (arith, below))))

-- who is ready under a chair of the start, behind a post of the pool
pub hired : {W X : Type 0} (chair : W → X) (busy : W → Bool) (C : X → Bool → Type 0) (P : W → Type 0) (ws : List W) → All (λ x. C x false) (map chair ws) → All (λ w. P w × (busy w ≡ false)) ws → All (λ w. C (chair w) (busy w) × P w) ws
hired chair busy C P [] c p = All-nil (λ w. C (chair w) (busy w) × P w)
hired chair busy C P (w ∷ ws) c p =
    let first = All-head (λ w. P w × (busy w ≡ false)) w ws p in
    let idle : C (chair w) (busy w) = subst (λ (b : Bool). C (chair w) b) (sym first.1) (All-head (λ x. C x false) (chair w) (map chair ws) c) in
    All-cons (λ w. C (chair w) (busy w) × P w) w ws (idle, first.0)
    (hired chair busy C P ws (All-tail (λ x. C x false) (chair w) (map chair ws) c) (All-tail (λ w. P w × (busy w ≡ false)) w ws p))
