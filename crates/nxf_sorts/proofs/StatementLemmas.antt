-- The formulas of a file's statements.
use Rattle.std.proofs.Common.{◌≡◌, ℕ, suc, ◌+◌, ◌<◌, Bool, true, List, [], ◌∷◌, ◌++◌, length, get_or, Option, None, Some, refl, sym, ap, ◌∙◌, arith, append-nil}
use Rattle.std.specs.Prelude.{zero}
use Rattle.std.specs.Option.{option_map}
use Rattle.std.specs.List.{list_all}
use Rattle.std.proofs.lemmas.Bool.{and_parts}
use Rattle.std.proofs.lemmas.List.Folds.{list_all-append}
use Rattle.nxf_tree.specs.declared.tree.Body.TheVariants.{Formula as IsFormula, Typing as IsTyping, Logic as IsLogic}
use Rattle.nxf_tree.specs.declared.tree.Statement.{Statement}
use Rattle.nxf_tree.specs.declared.tree.Statement.TheVariants.{Annotated, Include}
use Rattle.nxf_tree.specs.declared.tree.Formula.{Formula}
use Rattle.nxf_tree.specs.declared.tree.IndexName.{IndexName}
use Rattle.nxf_tree.specs.declared.tree.Signature.{Signature}
use Rattle.nxf_tree.specs.Sorting.{modal_language}
use Rattle.nxf_tree.specs.Occurrences.{Use, indexes, statement_occurrences, occurrences_in}
use Rattle.signature_laws.proofs.NoFault.{index-append}
use Rattle.numbered_definitions.specs.declared.node.Node.{Node}
use Rattle.numbered_definitions.specs.declared.node.Numbered.{Numbered}
use Rattle.numbered_definitions.specs.NamedForm.{both, FormulaStatement, named, all_named, formulas_from}
use Rattle.nxf_sorts.specs.steps.Numbering.{NumbersFormula}
use Rattle.nxf_sorts.specs.steps.Statements.{KnowsFile, Adds}

-- one more numbered formula
all_push : (sig : Signature) (old : List Numbered) (fs : List FormulaStatement) (n : Numbered) (f : FormulaStatement) → all_named sig old ≡ Some fs → named sig n ≡ Some f → all_named sig (old ++ n ∷ []) ≡ Some (fs ++ f ∷ [])
all_push sig [] fs n f h k =
    let is : ◌≡◌ {A = List FormulaStatement} [] fs = cc in
    ap (λ o. both (λ u us. u ∷ us) o (Some [])) k ∙ ap (λ us. Some (us ++ f ∷ [])) is
all_push sig (m ∷ old) fs n f h k = by (named sig m) (all_named sig old) (all_named sig (old ++ n ∷ [])) (λ us e. all_push sig old us n f e k) h
  where
    by : (o : Option FormulaStatement) (p q : Option (List FormulaStatement)) → ((us : List FormulaStatement) → p ≡ Some us → q ≡ Some (us ++ f ∷ [])) → both (λ u us. u ∷ us) o p ≡ Some fs → both (λ u us. u ∷ us) o q ≡ Some (fs ++ f ∷ [])
    by None p q next e = absurd cc
    by (Some u) None q next e = absurd cc
    by (Some u) (Some us) q next e =
        let is : ◌≡◌ {A = List FormulaStatement} (u ∷ us) fs = cc in
        ap (both (λ v vs. v ∷ vs) (Some u)) (next us refl) ∙ ap (λ vs. Some (vs ++ f ∷ [])) is

pub adds : (sig : Signature) (us : List Use) (k : ℕ) (name : List ℕ) (f : Formula) (old : List Numbered) (n : Node) → NumbersFormula sig us [] f n → Adds sig us k name f old (old ++ record { place = k; name = name; node = n } ∷ [])
adds sig us k name f old n h = record {
  no_fault = h.no_fault;
  named = λ known fs e. all_push sig old fs _ _ e (ap (option_map (λ (g : Formula). record { place = k; name = name; formula = g })) (h.named known));
}

pub from_append : (k : ℕ) (xs ys : List Statement) → formulas_from k (xs ++ ys) ≡ formulas_from k xs ++ formulas_from (k + length xs) ys
from_append k [] ys = let e : k ≡ k + 0 = omega arith in ap (λ n. formulas_from n ys) e
from_append k (x ∷ xs) ys = by x (from_append (suc k) xs ys)
  where
    next : suc k + length xs ≡ k + length (x ∷ xs)
    next = omega arith

    by : (s : Statement) → formulas_from (suc k) (xs ++ ys) ≡ formulas_from (suc k) xs ++ formulas_from (suc k + length xs) ys → formulas_from k (s ∷ (xs ++ ys)) ≡ formulas_from k (s ∷ xs) ++ formulas_from (k + length (x ∷ xs)) ys
    by (Annotated name role (IsFormula f)) h = ap (λ l. record { place = k; name = name; formula = f } ∷ l) (h ∙ ap (λ n. formulas_from (suc k) xs ++ formulas_from n ys) next)
    by (Annotated name role (IsTyping t)) h = h ∙ ap (λ n. formulas_from (suc k) xs ++ formulas_from n ys) next
    by (Annotated name role (IsLogic l)) h = h ∙ ap (λ n. formulas_from (suc k) xs ++ formulas_from n ys) next
    by (Include file names) h = h ∙ ap (λ n. formulas_from (suc k) xs ++ formulas_from n ys) next

module _ (sig : Signature) where
  abbrev known_in : List IndexName → Bool
  known_in = list_all (modal_language sig).knows_index

  known_split : (s : Statement) (ss : List Statement) → KnowsFile sig (s ∷ ss) → KnowsFile sig (s ∷ []) × KnowsFile sig ss
  known_split s ss h =
      let parts : (known_in (indexes (statement_occurrences s)) ≡ true) × (known_in (indexes (occurrences_in ss)) ≡ true) =
      and_parts _ _ (sym (ap known_in (index-append (statement_occurrences s) (occurrences_in ss)) ∙ list_all-append (modal_language sig).knows_index (indexes (statement_occurrences s)) (indexes (occurrences_in ss))) ∙ h) in
      (ap (λ os. known_in (indexes os)) (append-nil (statement_occurrences s)) ∙ parts.0, parts.1)

  pub known_at : (ss : List Statement) (i : ℕ) (d : Statement) → i < length ss → KnowsFile sig ss → KnowsFile sig (get_or ss i d ∷ [])
  known_at [] i d lt h = absurd (omega (arith, lt))
  known_at (s ∷ ss) zero d lt h = (known_split s ss h).0
  known_at (s ∷ ss) (suc i) d lt h = known_at ss i d (omega (arith, lt)) (known_split s ss h).1
