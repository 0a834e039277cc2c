use Rattle.std.proofs.Common.{◌≡◌, ℕ, take, nat_eq}
use Rattle.std.specs.List.{list_any}
use Rattle.interp_reader.specs.steps.Filling.{has_place}
use Rattle.interp_reader.proofs.places.given_places.Given as goal

abbrev pub invariant-loop-at : goal.invariant-loop-at
invariant-loop-at l = (k : ℕ) → list_any (nat_eq k) l.places.keys ≡ has_place (take l.at l.rows.entries) k
