-- What numbering is asked and what it puts: terms and formulas that are well sorted under quantifiers of some variables, and the numbered ones that
-- stand for them. The variables stand from the outside in.
use Rattle.std.specs.Prelude.{◌≡◌, ℕ, true, List, [], ◌∷◌, ◌++◌, map, Some, is_some}
use Rattle.std.specs.List.{list_all, All}
use Rattle.nxf_tree.specs.declared.tree.ClassicalSignature.{ClassicalSignature}
use Rattle.nxf_tree.specs.declared.tree.Term.{Term, Var}
use Rattle.nxf_tree.specs.declared.tree.Formula.{Formula}
use Rattle.nxf_tree.specs.Sorting.{Bound, sort_of, classical_language}
use Rattle.numbered_definitions.specs.declared.node.NTerm.{NTerm}
use Rattle.numbered_definitions.specs.declared.node.Node.{Node}
use Rattle.numbered_definitions.specs.declared.node.Numbered.{Numbered}
use Rattle.formula_cells.specs.Stored.{Stored, IsTerm, term_at, formulas_in}
use Rattle.formula_cells.specs.Putting.{Grows}
use Rattle.classical_evaluation_definitions.specs.ClassicalFaults.{RoleFormula}
use Rattle.classical_evaluation_definitions.specs.ClassicalForm.{named_term, named_terms, named_form, named_forms}
use Rattle.classical_evaluation_definitions.specs.ClassicalSorting.{is_classical}
use Rattle.classical_numbering.specs.Prepared.{StandsFor, meant_by, role_formula}

-- bound variables, from the outside in
abbrev pub variables_of : Bound → List (List ℕ)
variables_of [] = []
variables_of (b ∷ bs) = variables_of bs ++ b.0 ∷ []

-- the term has a sort under quantifiers of these variables, or each of the terms has one
pub record HasSort (csig : ClassicalSignature) (xs : List (List ℕ)) (t : Term) : Type 0 where
  pub bound : Bound
  pub variables : variables_of bound ≡ xs
  pub sort : is_some (sort_of (classical_language csig) bound t) ≡ true

pub record HaveSorts (csig : ClassicalSignature) (xs : List (List ℕ)) (ts : List Term) : Type 0 where
  pub bound : Bound
  pub variables : variables_of bound ≡ xs
  pub sorts : list_all is_some (map (sort_of (classical_language csig) bound) ts) ≡ true

-- the formula is well sorted under them, or each of the formulas is
pub record IsSortedUnder (csig : ClassicalSignature) (xs : List (List ℕ)) (f : Formula) : Type 0 where
  pub bound : Bound
  pub variables : variables_of bound ≡ xs
  pub sorted : is_classical (classical_language csig) bound f ≡ true

pub record AreSortedUnder (csig : ClassicalSignature) (xs : List (List ℕ)) (fs : List Formula) : Type 0 where
  pub bound : Bound
  pub variables : variables_of bound ≡ xs
  pub sorted : list_all (is_classical (classical_language csig) bound) fs ≡ true

-- the numbered one stands for a variable, a term, terms, a formula, formulas
abbrev pub IsVariable : List (List ℕ) → List ℕ → NTerm → Type 0
IsVariable xs x n = (csig : ClassicalSignature) → named_term csig xs n ≡ Some (Var x)

abbrev pub NamesTerm : ClassicalSignature → List (List ℕ) → Term → NTerm → Type 0
NamesTerm csig xs t n = named_term csig xs n ≡ Some t

abbrev pub NamesTerms : ClassicalSignature → List (List ℕ) → List Term → List NTerm → Type 0
NamesTerms csig xs ts ns = named_terms csig xs ns ≡ Some ts

abbrev pub NamesFormula : ClassicalSignature → List (List ℕ) → Formula → Node → Type 0
NamesFormula csig xs f n = named_form csig xs n ≡ Some f

abbrev pub NamesFormulas : ClassicalSignature → List (List ℕ) → List Formula → List Node → Type 0
NamesFormulas csig xs fs ns = named_forms csig xs ns ≡ Some fs

-- two terms were put as cells, which stand for these
pub record PutsSides (csig : ClassicalSignature) (xs : List (List ℕ)) (t u : Term) (old new : Stored) (sides : ℕ × ℕ) : Type 0 where
  pub grows : Grows old new
  pub left_term : IsTerm new sides.0
  pub right_term : IsTerm new sides.1
  pub left : NamesTerm csig xs t (term_at new sides.0)
  pub right : NamesTerm csig xs u (term_at new sides.1)

-- formulas with these roles come behind those of the file, and the formulas of the file still stand for well-sorted ones
abbrev pub Stands : ClassicalSignature → Numbered → Type 0
Stands csig n = StandsFor csig n.node (meant_by csig n.node)

pub record AddsFormulas (csig : ClassicalSignature) (fs : List RoleFormula) (old new : Stored) : Type 0 where
  pub formulas : map (role_formula csig) (formulas_in new) ≡ map (role_formula csig) (formulas_in old) ++ fs
  pub stand : All (Stands csig) (formulas_in old) → All (Stands csig) (formulas_in new)
