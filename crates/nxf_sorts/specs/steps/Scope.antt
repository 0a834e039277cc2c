-- The variables that enclosing quantifiers bind, each with the number of its sort, the innermost first.
use Rattle.std.specs.Prelude.{ℕ, if◌then◌else◌, List, [], ◌∷◌, ◌++◌, length, Option, None, Some}
use Rattle.nxf_tree.specs.declared.tree.Signature.{Signature}
use Rattle.nxf_tree.specs.Names.{same_text}
use Rattle.nxf_tree.specs.Signature.{sort_at}
use Rattle.nxf_tree.specs.Sorting.{Bound}

abbrev pub Scope : Type 0
Scope = List (List ℕ × ℕ)

-- the level, counted from the outside, and the sort of the innermost binder of the variable
abbrev pub found : Scope → List ℕ → Option (ℕ × ℕ)
found [] x = None
found (b ∷ bs) x = if same_text b.0 x then Some (length bs, b.1) else found bs x

-- without the innermost binder
abbrev pub tail : Scope → Scope
tail [] = []
tail (b ∷ bs) = bs

-- the variables, from the outside in
abbrev pub variables : Scope → List (List ℕ)
variables [] = []
variables (b ∷ bs) = variables bs ++ b.0 ∷ []

-- the variables with their sorts, as good sorting sees them
abbrev pub bound_in : Signature → Scope → Bound
bound_in sig [] = []
bound_in sig (b ∷ bs) = (b.0, sort_at sig.sorts b.1) ∷ bound_in sig bs
