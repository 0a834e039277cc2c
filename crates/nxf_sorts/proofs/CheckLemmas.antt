-- The steps of the sort check, and what they say of the whole.
use Rattle.std.proofs.Common.{◌≡◌, ℕ, suc, ◌≤◌, true, List, [], ◌∷◌, ◌++◌, length, Option, None, Some, refl, sym, ap, ◌∙◌, subst, arith}
use Rattle.std.specs.Prelude.{max, Result, Ok, Err}
use Rattle.std.specs.Result.{IsErrAnd}
use Rattle.std.specs.Option.{option_map, option_or}
use Rattle.std.specs.List.{list_all, All}
use Rattle.std.proofs.lemmas.Bool.{and_parts}
use Rattle.std.proofs.lemmas.List.Elements.{All-nil, All-cons}
use Rattle.nxf_tree.specs.declared.tree.Body.TheVariants.{Formula as IsFormula, Typing as IsTyping, Logic as IsLogic}
use Rattle.nxf_tree.specs.declared.tree.Statement.{Statement}
use Rattle.nxf_tree.specs.declared.tree.Statement.TheVariants.{Annotated, Include}
use Rattle.nxf_tree.specs.declared.tree.Formula.{Formula}
use Rattle.nxf_tree.specs.declared.tree.Signature.{Signature}
use Rattle.nxf_tree.specs.Depth.{formula_depth}
use Rattle.nxf_tree.specs.FileDepth.{statement_depth, statement_list_depth}
use Rattle.nxf_tree.specs.Weight.{statement_list_weight}
use Rattle.nxf_tree.specs.Sorting.{modal_language, is_sorted, statement_is_sorted}
use Rattle.nxf_tree.specs.SortFaults.{SortFault}
use Rattle.nxf_sorts.specs.declared.error.SortError.{SortError}
use Rattle.nxf_sorts.specs.declared.error.SortError.TheVariants.{Kind, Memory}
use Rattle.numbered_definitions.specs.declared.node.Numbered.{Numbered}
use Rattle.numbered_definitions.specs.NamedForm.{both, FormulaStatement, named_form, named, all_named, formulas_from, IsSortedFormula}
use Rattle.formula_cells.specs.Checked.{deepest}
use Rattle.nxf_sorts.specs.Judging.{IsFileFault, JudgesFile}

pub list_depth_after : (ss : List Statement) (s : Statement) → statement_list_depth (ss ++ s ∷ []) ≡ max (statement_list_depth ss) (statement_depth s)
list_depth_after [] s = omega arith
list_depth_after (t ∷ ss) s = ap (max (statement_depth t)) (list_depth_after ss s) ∙ omega arith

-- the deepest formula of a file
pub deepest_is : (k : ℕ) (ss : List Statement) → deepest (formulas_from k ss) ≡ statement_list_depth ss
deepest_is k [] = refl
deepest_is k (Annotated name role (IsFormula f) ∷ ss) = ap (max (formula_depth f)) (deepest_is (suc k) ss)
deepest_is k (Annotated name role (IsTyping t) ∷ ss) = deepest_is (suc k) ss ∙ omega arith
deepest_is k (Annotated name role (IsLogic l) ∷ ss) = deepest_is (suc k) ss ∙ omega arith
deepest_is k (Include file names ∷ ss) = deepest_is (suc k) ss ∙ omega arith

-- the first of the steps that has a fault
pub file_first : (o p : Option (ℕ × SortFault)) (e : SortError) → IsFileFault o e → IsFileFault (option_or o p) e
file_first o p (Kind kind place name) h = ap (λ q. option_or q p) h
file_first o p Memory h = tt

pub file_then : (o p : Option (ℕ × SortFault)) (e : SortError) → o ≡ None → IsFileFault p e → IsFileFault (option_or o p) e
file_then o p e none h = subst (λ q. IsFileFault q e) (sym (ap (λ q. option_or q p) none)) h

pub file_is : (o p : Option (ℕ × SortFault)) (e : SortError) → o ≡ p → IsFileFault p e → IsFileFault o e
file_is o p e is h = subst (λ q. IsFileFault q e) (sym is) h

-- a call ends with the fault that a call in it ended with
pub refused_by : {X : Type 0} (r : Result X SortError) (o : Option (ℕ × SortFault)) (e : SortError) → IsErrAnd r (λ (x : SortError). x ≡ e) → IsFileFault o e → JudgesFile o r
refused_by (Ok x) o e is h = absurd is
refused_by (Err x) o e is h = subst (IsFileFault o) (sym is) h

-- the numbered formulas of a well-sorted file are well sorted
abbrev AllSorted : Signature → List FormulaStatement → Type 0
AllSorted sig [] = Unit {0}
AllSorted sig (f ∷ fs) = (is_sorted (modal_language sig) [] f.formula ≡ true) × AllSorted sig fs

file_sorted : (sig : Signature) (k : ℕ) (ss : List Statement) → list_all (statement_is_sorted (modal_language sig)) ss ≡ true → AllSorted sig (formulas_from k ss)
file_sorted sig k [] h = tt
file_sorted sig k (Annotated name role (IsFormula f) ∷ ss) h =
    let parts : (is_sorted (modal_language sig) [] f ≡ true) × (list_all (statement_is_sorted (modal_language sig)) ss ≡ true) = and_parts _ _ h in (parts.0, file_sorted sig (suc k) ss parts.1)
file_sorted sig k (Annotated name role (IsTyping t) ∷ ss) h = file_sorted sig (suc k) ss h
file_sorted sig k (Annotated name role (IsLogic l) ∷ ss) h = file_sorted sig (suc k) ss h
file_sorted sig k (Include file names ∷ ss) h = file_sorted sig (suc k) ss h

one_sorted : (sig : Signature) (n : Numbered) (f : FormulaStatement) → named sig n ≡ Some f → is_sorted (modal_language sig) [] f.formula ≡ true → IsSortedFormula sig n.node
one_sorted sig n f h s = by (named_form sig [] n.node) refl h
  where
    by : (o : Option Formula) → named_form sig [] n.node ≡ o → option_map (λ (g : Formula). record { place = n.place; name = n.name; formula = g }) o ≡ Some f → IsSortedFormula sig n.node
    by None is e = absurd cc
    by (Some g) is e =
        let same : ◌≡◌ {A = FormulaStatement} (record { place = n.place; name = n.name; formula = g }) f = cc in
        record { formula = g; named = is; sorted = ap (λ (x : FormulaStatement). is_sorted (modal_language sig) [] x.formula) same ∙ s }

numbered_sorted : (sig : Signature) (ns : List Numbered) (fs : List FormulaStatement) → all_named sig ns ≡ Some fs → AllSorted sig fs → All (λ (n : Numbered). IsSortedFormula sig n.node) ns
numbered_sorted sig [] fs h s = All-nil (λ (n : Numbered). IsSortedFormula sig n.node)
numbered_sorted sig (n ∷ ns) fs h s = by (named sig n) refl (all_named sig ns) (numbered_sorted sig ns) fs h s
  where
    by : (o : Option FormulaStatement) → named sig n ≡ o → (p : Option (List FormulaStatement)) → ((gs : List FormulaStatement) → p ≡ Some gs → AllSorted sig gs → All (λ (m : Numbered). IsSortedFormula sig m.node) ns)
        → (gs : List FormulaStatement) → both (λ f fs. f ∷ fs) o p ≡ Some gs → AllSorted sig gs → All (λ (m : Numbered). IsSortedFormula sig m.node) (n ∷ ns)
    by None is p next gs e t = absurd cc
    by (Some f) is None next gs e t = absurd cc
    by (Some f) is (Some more) next gs e t =
        let same : ◌≡◌ {A = List FormulaStatement} (f ∷ more) gs = cc in
        let parts : (is_sorted (modal_language sig) [] f.formula ≡ true) × AllSorted sig more = subst (AllSorted sig) (sym same) t in
        All-cons (λ (m : Numbered). IsSortedFormula sig m.node) n ns (one_sorted sig n f is parts.0) (next more refl parts.1)

pub all_sorted : (sig : Signature) (k : ℕ) (ss : List Statement) (ns : List Numbered) → list_all (statement_is_sorted (modal_language sig)) ss ≡ true → all_named sig ns ≡ Some (formulas_from k ss) → All (λ (n : Numbered). IsSortedFormula sig n.node) ns
all_sorted sig k ss ns h e = numbered_sorted sig ns (formulas_from k ss) e (file_sorted sig k ss h)

pub depth_is : (sig : Signature) (ss : List Statement) (ns : List Numbered) (depth : ℕ) → depth ≡ statement_list_depth ss → all_named sig ns ≡ Some (formulas_from 1 ss) → (fs : List FormulaStatement) → all_named sig ns ≡ Some fs → depth ≡ deepest fs
depth_is sig ss ns depth h e fs k =
    let same : ◌≡◌ {A = List FormulaStatement} (formulas_from 1 ss) fs = own (sym e ∙ k) in
    h ∙ sym (deepest_is 1 ss) ∙ ap deepest same
  where
    own : {a b : List FormulaStatement} → ◌≡◌ {A = Option (List FormulaStatement)} (Some a) (Some b) → a ≡ b
    own x = cc

-- a file has no more statements than its weight
pub few_statements : (ss : List Statement) → length ss ≤ statement_list_weight ss
few_statements [] = omega arith
few_statements (Annotated name role b ∷ ss) = omega (arith, few_statements ss)
few_statements (Include file names ∷ ss) = omega (arith, few_statements ss)
