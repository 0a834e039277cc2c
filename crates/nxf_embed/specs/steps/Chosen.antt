-- The formulas of a file that have a part, as statements of the printed problem.
use Rattle.std.specs.Prelude.{◌≡◌, ℕ, nat_eq, if◌then◌else◌, List, [], ◌∷◌, ◌++◌, codes, drop, slice_get, Some}
use Rattle.nxf_tree.specs.declared.tree.Signature.{Signature}
use Rattle.nxf_tree.specs.declared.tree.Part.{Part}
use Rattle.nxf_tree.specs.declared.tree.Part.TheVariants.{Premise, Conjecture}
use Rattle.nxf_tree.specs.declared.tree.PartEntry.{PartEntry}
use Rattle.nxf_tree.specs.declared.tree.Formula.{Formula}
use Rattle.nxf_tree.specs.declared.tree.Statement.{Statement}
use Rattle.nxf_tree.specs.Embedding.{embedded}
use Rattle.nxf_tree.specs.Problem.{statement_of}
use Rattle.numbered_definitions.specs.declared.node.Numbered.{Numbered}
use Rattle.numbered_definitions.specs.NamedForm.{FormulaStatement, named, named_form, all_named}
use Rattle.formula_cells.specs.Checked.{CheckedFile}

-- a formula with its part: the conjecture stays one, and a premise becomes an axiom
abbrev pub part_statement : Signature → List ℕ → Formula → Part → Statement
part_statement sig name f (Premise scope) = statement_of name (codes "axiom") (embedded sig scope f)
part_statement sig name f (Conjecture scope) = statement_of name (codes "conjecture") (embedded sig scope f)

-- the formulas whose places have parts; both lists are in the order of places
abbrev pub chosen : Signature → List FormulaStatement → List PartEntry → List Statement
chosen sig [] ps = []
chosen sig (f ∷ fs) [] = []
chosen sig (f ∷ fs) (p ∷ ps) =
    if nat_eq p.place f.place then part_statement sig f.name f.formula p.part ∷ chosen sig fs ps else chosen sig fs (p ∷ ps)

-- the formulas of the checked file that have parts come behind the old statements
abbrev pub AddsChosen : CheckedFile → List PartEntry → List Statement → List Statement → Type 0
AddsChosen checked parts old new = (fs : List FormulaStatement) → all_named checked.signature checked.formulas ≡ Some fs → new ≡ old ++ chosen checked.signature fs parts

-- of the formulas from a place on and the parts from the next one on, what is added for that formula comes first
abbrev pub AddsNext : CheckedFile → ℕ → List PartEntry → ℕ → List Statement → List Statement → ℕ → Type 0
AddsNext checked at parts next old new after =
    (n : Numbered) → slice_get checked.formulas at ≡ Some n → (f : FormulaStatement) → named checked.signature n ≡ Some f
    → (fs : List FormulaStatement) → new ++ chosen checked.signature fs (drop after parts) ≡ old ++ chosen checked.signature (f ∷ fs) (drop next parts)

-- the statement of the formula at a place with this part
abbrev pub IsStatementAt : CheckedFile → ℕ → Part → Statement → Type 0
IsStatementAt checked at part made =
    (n : Numbered) → slice_get checked.formulas at ≡ Some n → (f : Formula) → named_form checked.signature [] n.node ≡ Some f → made ≡ part_statement checked.signature n.name f part
