-- The first member of a list that passes a test.
use Rattle.std.specs.Prelude.{◌≡◌, ℕ, ◌<◌, Bool, true, false, List, length, take, slice_index_or}
use Rattle.std.specs.List.{list_any}

-- place k has the first member that passes the test
pub record IsFirst {X : Type 0} (p : X → Bool) (xs : List X) (k : ℕ) : Type 0 where
  pub within : k < length xs
  pub none_before : list_any p (take k xs) ≡ false
  pub here : (d : X) → p (slice_index_or xs k d) ≡ true
