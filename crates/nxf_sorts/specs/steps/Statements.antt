-- What the numbering of a file's statements gives.
use Rattle.std.specs.Prelude.{◌≡◌, ℕ, true, List, [], ◌∷◌, ◌++◌, None, Some, Result, MatchResult}
use Rattle.std.specs.List.{list_all}
use Rattle.nxf_tree.specs.declared.tree.Formula.{Formula}
use Rattle.nxf_tree.specs.declared.tree.Signature.{Signature}
use Rattle.nxf_tree.specs.declared.tree.Statement.{Statement}
use Rattle.nxf_tree.specs.Faults.{first_fault}
use Rattle.nxf_tree.specs.Sorting.{modal_language}
use Rattle.nxf_tree.specs.Occurrences.{Use, indexes, occurrences_in}
use Rattle.nxf_tree.specs.SortFaults.{formula_fault, formula_statement_fault}
use Rattle.numbered_definitions.specs.declared.node.Numbered.{Numbered}
use Rattle.numbered_definitions.specs.NamedForm.{FormulaStatement, all_named, formulas_from}
use Rattle.formula_cells.specs.Stored.{Stored, formulas_in}
use Rattle.nxf_signatures.specs.Naming.{Naming}
use Rattle.nxf_sorts.specs.declared.error.SortError.{SortError}
use Rattle.nxf_sorts.specs.declared.fault.Fault.{Fault}
use Rattle.nxf_sorts.specs.Judging.{IsFileFault}
use Rattle.nxf_sorts.specs.steps.Numbering.{IsFault, KnowsIndexes}

-- each index that occurs in the statements is one of the signature's
abbrev pub KnowsFile : Signature → List Statement → Type 0
KnowsFile sig ss = list_all (modal_language sig).knows_index (indexes (occurrences_in ss)) ≡ true

-- the formula has no fault, and stands for itself behind the old ones
pub record Adds (sig : Signature) (us : List Use) (k : ℕ) (name : List ℕ) (f : Formula) (old new : List Numbered) : Type 0 where
  pub no_fault : formula_fault (modal_language sig) us [] f ≡ None
  pub named : KnowsIndexes sig f → (fs : List FormulaStatement) → all_named sig old ≡ Some fs → all_named sig new ≡ Some (fs ++ record { place = k; name = name; formula = f } ∷ [])

pub record NumbersStatement (sig : Signature) (us : List Use) (k : ℕ) (s : Statement) (old new : List Numbered) : Type 0 where
  pub no_fault : formula_statement_fault (modal_language sig) us s ≡ None
  pub named : KnowsFile sig (s ∷ []) → (fs : List FormulaStatement) → all_named sig old ≡ Some fs → all_named sig new ≡ Some (fs ++ formulas_from k (s ∷ []))

pub record NumbersFile (sig : Signature) (us : List Use) (ss : List Statement) (ns : List Numbered) : Type 0 where
  pub no_fault : first_fault (λ before s. formula_statement_fault (modal_language sig) us s) 1 [] ss ≡ None
  pub named : KnowsFile sig ss → all_named sig ns ≡ Some (formulas_from 1 ss)

-- Calls that are given the names of a file. The formula, or that of the statement, comes behind the old ones; or the error is its first fault.
abbrev pub AddsFormula : Naming → ℕ → List ℕ → Formula → Stored → Stored → Result (Unit {0}) Fault → Type 0
AddsFormula names k name f old new r =
    MatchResult r (λ _. Adds names.signature names.declared k name f (formulas_in old) (formulas_in new))
    (IsFault (formula_fault (modal_language names.signature) names.declared [] f))

abbrev pub AddsStatement : Naming → ℕ → Statement → Stored → Stored → Result (Unit {0}) Fault → Type 0
AddsStatement names k s old new r =
    MatchResult r (λ _. NumbersStatement names.signature names.declared k s (formulas_in old) (formulas_in new))
    (IsFault (formula_statement_fault (modal_language names.signature) names.declared s))

-- the cells stand for the formulas of the statements; or the error is the first fault of a formula
abbrev pub NumbersStatements : Naming → List Statement → Result Stored SortError → Type 0
NumbersStatements names ss r =
    MatchResult r (λ cells. NumbersFile names.signature names.declared ss (formulas_in cells))
    (IsFileFault (first_fault (λ before s. formula_statement_fault (modal_language names.signature) names.declared s) 1 [] ss))
