-- The state of a walk over the rows below some sizes.
use Rattle.std.specs.Prelude.{◌≡◌, ℕ, ◌<◌, List}
use Rattle.fin_struct.specs.Places.{rows_count, InRange, place}

-- there are that many rows, and unless the walk is over, the row is the one at the place
pub record IsWalk (sizes row : List ℕ) (at rows : ℕ) : Type 0 where
  pub count : rows ≡ rows_count sizes
  pub in_range : at < rows → InRange sizes row
  pub here : at < rows → place sizes row ≡ at
