-- When the table of innermost binders agrees with the binders.
use Rattle.std.specs.Prelude.{◌≡◌, ℕ, List, [], ◌∷◌, fold}
use Rattle.std.specs.Map.{lookup}
use Rattle.nxf_tree.specs.Names.{same_text}
use Rattle.nxf_sorts.specs.declared.binders.Binder.{Binder}
use Rattle.nxf_sorts.specs.steps.Scope.{Scope, found}

abbrev pub and_binder : Scope → Binder → Scope
and_binder bs b = (b.name, b.sort) ∷ bs

-- the scope of binders that stand from the outside in
abbrev pub scope_of : List Binder → Scope
scope_of = fold and_binder []

-- each binder after these knows which one it hides
abbrev pub KnowHidden : Scope → List Binder → Type 0
KnowHidden bs [] = Unit {0}
KnowHidden bs (b ∷ more) = (b.hidden ≡ found bs b.name) × KnowHidden (and_binder bs b) more

pub record IsInStep (stack : List Binder) (innermost : List (List ℕ × (ℕ × ℕ))) : Type 0 where
  pub innermost_found : (x : List ℕ) → lookup (same_text x) innermost ≡ found (scope_of stack) x
  pub hidden : KnowHidden [] stack
