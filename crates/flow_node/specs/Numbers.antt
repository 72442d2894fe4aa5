-- The place of a number in a rising list.
use Rattle.std.specs.Prelude.{◌≡◌, ℕ, ◌≤◌, Some, List, ◌++◌, length, take, drop, slice_get}
use Rattle.flow_item.specs.Lists.{with_number}

-- the numbers before this place of a rising list are below the number, and the one at it isn't
pub record IsPlaceFor (numbers : List ℕ) (number at : ℕ) : Type 0 where
  pub within : at ≤ length numbers
  pub before : with_number number numbers ≡ take at numbers ++ with_number number (drop at numbers)
  pub stops : (other : ℕ) → slice_get numbers at ≡ Some other → number ≤ other
