-- The conditions of a sort by its number, and what its regime asks of each step along a relation.
use Rattle.std.specs.Prelude.{ℕ, Bool, true, not, List, [], ◌∷◌, Option}
use Rattle.std.specs.List.{find}
use Rattle.nxf_tree.specs.declared.tree.Regime.{Regime}
use Rattle.nxf_tree.specs.declared.tree.Regime.TheVariants.{Constant, Cumulative, Decreasing, Varying}
use Rattle.nxf_tree.specs.Counting.{all_below, implies}
use Rattle.nxf_tree.specs.Rows.{size_at}
use Rattle.nxf_tree.specs.Conditions.{someone_exists, everyone_exists}
use Rattle.fin_struct.specs.declared.condition.Condition.{Condition}
use Rattle.fin_struct.specs.declared.condition.Condition.TheVariants.{Frame, Empty, Union, Monotone, Local, Premise, Conjecture}
use Rattle.fin_struct.specs.KripkeTables.{KripkeTables, related_in, exists_in}

-- what exists at world w exists at world v
abbrev pub keeps : KripkeTables → ℕ → ℕ → ℕ → Bool
keeps view s w v = all_below (size_at view.sizes s) (λ a. implies (exists_in view s w a) (exists_in view s v a))

-- what the regime asks of a step from world w to world v
abbrev pub meets_step : KripkeTables → Regime → ℕ → ℕ → ℕ → Bool
meets_step view Constant s w v = true
meets_step view Cumulative s w v = keeps view s w v
meets_step view Decreasing s w v = keeps view s v w
meets_step view Varying s w v = true

-- each step from world w meets the regime
abbrev pub steps_meet : KripkeTables → Regime → ℕ → ℕ → ℕ → Bool
steps_meet view regime s i w = all_below view.worlds (λ v. implies (related_in view i w v) (meets_step view regime s w v))

-- each step does
abbrev pub goes_along_in : KripkeTables → Regime → ℕ → ℕ → Bool
goes_along_in view regime s i = all_below view.worlds (λ w. steps_meet view regime s i w)

-- whether a condition of a sort with this regime holds; other conditions aren't asked here
abbrev pub meets_in : KripkeTables → Regime → Condition → Bool
meets_in view regime (Frame i scheme) = true
meets_in view regime (Empty s) = someone_exists view.worlds (size_at view.sizes s) (exists_in view s)
meets_in view regime (Union s) = everyone_exists view.worlds (size_at view.sizes s) (exists_in view s)
meets_in view regime (Monotone s i) = goes_along_in view regime s i
meets_in view regime (Local f) = true
meets_in view regime (Premise n) = true
meets_in view regime (Conjecture n) = true

-- the first of the conditions that fails
abbrev pub first_failing : KripkeTables → Regime → List Condition → Option Condition
first_failing view regime conditions = find (λ condition. not (meets_in view regime condition)) conditions

-- the conditions of existence, of each sort that isn't constant
abbrev pub existence_conditions : ℕ → List Condition
existence_conditions s = Empty s ∷ Union s ∷ []
