-- Only the types that declarations give matter for the faults of formulas.
use Rattle.std.proofs.Common.{◌≡◌, ℕ, suc, Bool, true, false, List, [], ◌∷◌, ◌++◌, length, None, Some, refl, ap}
use Rattle.std.specs.Prelude.{codes, if◌then◌else◌, is_some}
use Rattle.std.specs.Option.{option_map, option_or}
use Rattle.nxf_base.specs.declared.status.SortKind.TheVariants.{DoubleName, Mismatch}
use Rattle.nxf_tree.specs.declared.tree.SortName.{SortName}
use Rattle.nxf_tree.specs.declared.tree.SortName.TheVariants.{User}
use Rattle.nxf_tree.specs.declared.tree.Body.TheVariants.{Formula as IsFormula, Typing as IsTyping, Logic as IsLogic}
use Rattle.nxf_tree.specs.declared.tree.Statement.{Statement}
use Rattle.nxf_tree.specs.declared.tree.Statement.TheVariants.{Annotated, Include}
use Rattle.nxf_tree.specs.declared.tree.Term.{Term, Var, App', Row_of-Term, end_of-Term, more_of-Term}
use Rattle.nxf_tree.specs.declared.tree.Formula.{Formula, True, False, Atom, Same, Differ, And', Or', Distinct, Row_of-Formula, end_of-Formula, more_of-Formula}
use Rattle.nxf_tree.specs.Shapes.{Not1, Pair2, Quant1, Modal1}
use Rattle.nxf_tree.specs.Faults.{first_fault}
use Rattle.nxf_tree.specs.Sorting.{Language, Bound, have_one_sort, sort_of}
use Rattle.nxf_tree.specs.Occurrences.{Use, row_length}
use Rattle.nxf_tree.specs.SignatureOf.{type_in}
use Rattle.nxf_tree.specs.SortFaults.{SortFault, unknown_sort, is_right_use, symbol_fault, argument_types, wrong_sort, term_fault, row_fault, arguments_fault, equation_fault, formula_fault, formulas_fault, formula_statement_fault}

module _ (L : Language) (us vs : List Use) (same : (f : List ℕ) → type_in us f ≡ type_in vs f) where
  symbol_same : (f : List ℕ) (count : ℕ) (function : Bool) → symbol_fault L us f count function ≡ symbol_fault L vs f count function
  symbol_same f count function = λ i.
      if L.knows_sort (User f) then Some (DoubleName, f) else (if is_right_use (L.type_of f) count function then None else (if is_some (same f i) then Some (Mismatch, f) else Some (DoubleName, f)))

  mutual
    term_same : (t : Term) (b : Bound) → term_fault L us b t ≡ term_fault L vs b t
    term_same (Var x) b = refl
    term_same (App' f shape ts) b = λ i. option_or (symbol_same f (row_length ts) true i) (row_same ts b f (argument_types (L.type_of f)) i)

    row_same : {m : _} (ts : Row_of-Term m) (b : Bound) (f : List ℕ) (wanted : List SortName) → row_fault L us b f wanted ts ≡ row_fault L vs b f wanted ts
    row_same end_of-Term b f wanted = refl
    row_same (more_of-Term t ts) b f [] = refl
    row_same (more_of-Term t ts) b f (s ∷ wanted) = λ i. option_or (term_same t b i) (option_or (wrong_sort f s (sort_of L b t)) (row_same ts b f wanted i))

  terms_same : (ts : List Term) (b : Bound) (f : List ℕ) (wanted : List SortName) → arguments_fault L us b f wanted ts ≡ arguments_fault L vs b f wanted ts
  terms_same [] b f wanted = refl
  terms_same (t ∷ ts) b f [] = refl
  terms_same (t ∷ ts) b f (s ∷ wanted) = λ i. option_or (term_same t b i) (option_or (wrong_sort f s (sort_of L b t)) (terms_same ts b f wanted i))

  equation_same : (t u : Term) (b : Bound) → equation_fault L us b t u ≡ equation_fault L vs b t u
  equation_same t u b = λ i. option_or (term_same t b i) (option_or (term_same u b i) (if have_one_sort (sort_of L b t) (sort_of L b u) then None else Some (Mismatch, codes "=")))

  mutual
    formula_same : (f : Formula) (b : Bound) → formula_fault L us b f ≡ formula_fault L vs b f
    formula_same True b = refl
    formula_same False b = refl
    formula_same (Atom p ts) b = λ i. option_or (symbol_same p (length ts) false i) (terms_same ts b p (argument_types (L.type_of p)) i)
    formula_same (Same t u) b = equation_same t u b
    formula_same (Differ t u) b = equation_same t u b
    formula_same (Not1 f) b = formula_same f b
    formula_same (And' shape fs) b = formulas_same fs b
    formula_same (Or' shape fs) b = formulas_same fs b
    formula_same (Pair2 op f g) b = λ i. option_or (formula_same f b i) (formula_same g b i)
    formula_same (Quant1 q x s f) b = ap (option_or (unknown_sort L s)) (formula_same f ((x, s) ∷ b))
    formula_same (Modal1 m j f) b = formula_same f b
    formula_same (Distinct ts) b = refl

    formulas_same : {m : _} (fs : Row_of-Formula m) (b : Bound) → formulas_fault L us b fs ≡ formulas_fault L vs b fs
    formulas_same end_of-Formula b = refl
    formulas_same (more_of-Formula f fs) b = λ i. option_or (formula_same f b i) (formulas_same fs b i)

  statement_same : (s : Statement) → formula_statement_fault L us s ≡ formula_statement_fault L vs s
  statement_same (Annotated name role (IsFormula f)) = formula_same f []
  statement_same (Annotated name role (IsTyping t)) = refl
  statement_same (Annotated name role (IsLogic l)) = refl
  statement_same (Include file names) = refl

  pub statements_same : (k : ℕ) (before ss : List Statement) → first_fault (λ earlier s. formula_statement_fault L us s) k before ss ≡ first_fault (λ earlier s. formula_statement_fault L vs s) k before ss
  statements_same k before [] = refl
  statements_same k before (s ∷ ss) = λ i. option_or (option_map (λ (fault : SortFault). (k, fault)) (statement_same s i)) (statements_same (suc k) (before ++ s ∷ []) ss i)
