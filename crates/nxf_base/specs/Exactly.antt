-- How many things are so.
use Rattle.std.specs.Prelude.{◌≡◌}

-- one thing is so, and no other
abbrev pub ExactlyOne : {A : Type 0} → (A → Type 0) → Type 0
ExactlyOne {A} IsSo = (one : A) × IsSo one × ((other : A) → IsSo other → other ≡ one)
