-- Lists with a separator between each two members.
use Rattle.std.specs.Prelude.{ℕ, zero, suc, List, []}

-- what stands before the member at a place: nothing before the first
abbrev pub before_member : List ℕ → ℕ → List ℕ
before_member separator zero = []
before_member separator (suc at) = separator
