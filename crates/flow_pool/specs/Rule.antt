-- The rule of a queue, and what each step does to a hand.
use Rattle.std.specs.Prelude.{ℕ, ◌≡◌, ◌==◌, ◌+◌, ◌<◌, ◌⊎◌, Bool, true, false, List, [], ◌∷◌, ◌++◌, All, Option, MatchOption}
use Rattle.std.specs.List.{sum_by, count_by}
use mathlib.Core.Option.{some}
use lib.ListN.{get_elem?}
use Rattle.flow_pool.specs.declared.hand.Hand.{Hand}

abbrev pub hand : Bool → Bool → ℕ → List ℕ → List ℕ → Hand
hand told alone nodes pushes takes = record { told = told; alone = alone; nodes = nodes; pushed = pushes; taken = takes }

-- how many copies of the node x stand in the list
abbrev pub copies : ℕ → List ℕ → ℕ
copies x xs = count_by (λ y. y == x) xs

-- how many copies of it all hands pushed, and how many they took
abbrev pub all_pushed : ℕ → List Hand → ℕ
all_pushed x hands = sum_by (λ h. copies x h.pushed) hands

abbrev pub all_taken : ℕ → List Hand → ℕ
all_taken x hands = sum_by (λ h. copies x h.taken) hands

-- the hand of a queue that was just made
abbrev pub first : Hand
first = hand false true 0 [] []

-- a hand that never pushed or took, and never will
abbrev pub idle : Hand
idle = hand false false 0 [] []

-- the one hand of a queue for the nodes below this number
abbrev pub opened : ℕ → Hand
opened nodes = hand true true nodes [] []

-- a hand beside which there is another one now
abbrev pub sharing : Hand → Hand
sharing h = hand h.told false h.nodes h.pushed h.taken

-- and the other one
abbrev pub shared : Hand → Hand
shared h = hand h.told false h.nodes [] []

abbrev pub pushed : List ℕ → Hand → Hand
pushed xs h = hand h.told h.alone h.nodes (h.pushed ++ xs) h.taken

abbrev pub taken : List ℕ → Hand → Hand
taken xs h = hand h.told h.alone h.nodes h.pushed (h.taken ++ xs)

-- For each node, the copies in the queue and those taken are together those pushed. All of them are nodes of the pool. Beside a hand that is alone there are only idle ones
pub record Balances (items : List ℕ) (hands : List Hand) : Type 0 where
  pub nodes : ℕ
  pub even : (x : ℕ) → all_pushed x hands ≡ all_taken x hands + copies x items
  pub below : All (λ x. x < nodes) items
  pub told : (i : ℕ) (h : Hand) → get_elem? hands i ≡ some h → h.told ≡ true → h.nodes ≡ nodes
  pub fresh : (i : ℕ) (h : Hand) → get_elem? hands i ≡ some h → h.told ≡ false → (h ≡ idle) ⊎ (nodes ≡ 0)
  pub alone : (i j : ℕ) (h other : Hand) → get_elem? hands i ≡ some h → h.alone ≡ true → get_elem? hands j ≡ some other → (j ≡ i) ⊎ (other ≡ idle)

-- the queue was empty, at a moment when the rule held with this hand among all hands
abbrev pub SawEmpty : Hand → Type 0
SawEmpty h = (hands : List Hand) × (i : ℕ) × Balances [] hands × (get_elem? hands i ≡ some h)

-- what asking a queue tells: it was empty at a moment, or a node of the pool left it
abbrev pub HasAsked : Option ℕ → Hand → Hand → Type 0
HasAsked answer old new = MatchOption answer ((new ≡ old) × SawEmpty old) (λ x. (new ≡ taken (x ∷ []) old) × (x < old.nodes))
