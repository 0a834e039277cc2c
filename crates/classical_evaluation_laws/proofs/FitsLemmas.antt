-- A numbered classical formula that stands for a well-sorted one fits.
use Rattle.std.proofs.Common.{◌≡◌, ℕ, zero, suc, ◌<◌, ◌≤◌, true, List, [], ◌∷◌, ◌++◌, length, refl, sym, ap, ◌∙◌, subst, arith}
use Rattle.std.specs.Prelude.{◌&&◌, if◌then◌else◌, map, slice_get, Option, None, Some, is_some}
use Rattle.std.specs.Option.{IsSome, option_map, is_none}
use Rattle.std.specs.List.{list_all, All as Each}
use Rattle.std.proofs.lemmas.Option.{slice_get_within, get_or_from_slice_get}
use Rattle.std.proofs.lemmas.List.{length-map}
use Rattle.nxf_tree.specs.declared.tree.ClassicalSignature.{ClassicalSignature}
use Rattle.nxf_tree.specs.declared.tree.TableEntry.{TableEntry}
use Rattle.nxf_tree.specs.declared.tree.SortName.{SortName}
use Rattle.nxf_tree.specs.declared.tree.SortName.TheVariants.{User}
use Rattle.nxf_tree.specs.declared.tree.Term.{Term, Var, App}
use Rattle.nxf_tree.specs.declared.tree.Formula.{Formula, Atom, Same, Differ, Not, And, Or, Pair, Quant, Distinct}
use Rattle.nxf_tree.specs.Shapes.{Not_is, Pair_is, Quant_is}
use Rattle.nxf_tree.specs.Names.{actual_name, world_name}
use Rattle.nxf_tree.specs.Rows.{Shape, size_at, AllBelow, AreSizes}
use Rattle.nxf_tree.specs.Problem.{classical_sort_at}
use Rattle.nxf_tree.specs.Classical.{ClassicalModel}
use Rattle.nxf_tree.specs.Sorting.{SymbolType, Language, Bound as Sorts, is_sort, fit, applied_sort, is_atom, have_one_sort, sort_of, table_type_among, classical_language}
use Rattle.name_laws.proofs.Spelling.{same_text-refl, true-false}
use Rattle.name_laws.proofs.Types.{split}
use Rattle.name_laws.proofs.SortedFormulas.{sort_of-App}
use Rattle.fin_struct.specs.Places.{InRange}
use Rattle.fin_struct.specs.Cells.{bound_of, cell, table_at}
use Rattle.fin_struct.specs.StructureTables.{StructureTables, IsStructure, IsFor}
use Rattle.classical_signature_laws.specs.ClassicalSignatures.{GivesBelow}
use Rattle.structure_laws.specs.ClassicalNamed.{ReadsByPrintedName}
use Rattle.structure_laws.proofs.ClassicalNames.{printed-names-law}
use Rattle.fin_struct.proofs.CallerLemmas.{InRange-length}
use Rattle.numbered_definitions.specs.declared.node.NTerm.{NTerm, Bound, Row_of-NTerm, end_of-NTerm, more_of-NTerm}
use Rattle.numbered_definitions.specs.declared.node.NTerm as numbered
use Rattle.numbered_definitions.specs.declared.node.Node.{Node, Row_of-Node, end_of-Node, more_of-Node}
use Rattle.numbered_definitions.specs.declared.node.Node as node
use Rattle.numbered_definitions.specs.NamedForm.{NodeNot, NodePair, NodeQuant, NodeModal, variable}
use Rattle.classical_evaluation_definitions.specs.ClassicalForm.{table_name, named_term, named_row, named_terms, named_form, named_nodes}
use Rattle.classical_evaluation_definitions.specs.ClassicalMeaning.{node_value, node_values}
use Rattle.classical_evaluation_definitions.specs.ClassicalFitting.{IsRow, TermFits, TermsFit, Fits, AllFit}
use Rattle.classical_evaluation_definitions.specs.ClassicalSorting.{is_classical, IsGoodTable, IsWellFormedClassical}
use Rattle.evaluation_laws.specs.EvaluationLaws.{inside_out}
use Rattle.classical_evaluation_definitions.specs.ClassicalFaults.{model_of}
use Rattle.numbered_definitions.proofs.CallerLemmas.{mapped, joined}
use Rattle.evaluation_laws.proofs.SortValues.{cell-below, InSorts, InSorts-length, InSorts-at, InSorts-push, is_sort-some, one-sort, no-gives, fit-chosen, all-more}
use Rattle.evaluation_laws.proofs.Levels.{level-sort, inside_out-push, both-longer}
use Rattle.classical_evaluation_laws.proofs.SatCases.{sorted_of_And, sorted_of_Or}
use Rattle.classical_evaluation_laws.proofs.TableNames.{tables-different, not-actual, table-in, shape-at}
use Rattle.classical_evaluation_laws.proofs.TableTypes.{table_type, sort-at, type-place}

some-sort : (o : Option SortName) → is_some o ≡ true → (s : SortName) × (o ≡ Some s)
some-sort None h = absurd (true-false (sym h))
some-sort (Some s) h = (s, refl)

same-some : (s r : SortName) → Some s ≡ Some r → s ≡ r
same-some s r e = cc

more-sizes : {A : Type 0} (sorts : List A) (sizes : List ℕ) → AreSizes sorts sizes → length sorts ≡ length sizes
more-sizes [] [] h = refl
more-sizes [] (size ∷ sizes) h = absurd h
more-sizes (x ∷ sorts) [] h = absurd h
more-sizes (x ∷ sorts) (size ∷ sizes) h = ap suc (more-sizes sorts sizes h.1)

module _ (csig : ClassicalSignature) (view : StructureTables) (wf : IsWellFormedClassical csig) (is : IsStructure view) (over : IsFor csig view) where
  abbrev S : ClassicalModel
  S = model_of csig view

  abbrev L : Language
  L = classical_language csig

  by_name : ReadsByPrintedName csig view S
  by_name = printed-names-law csig view wf.different is over

  abbrev actual_type : SymbolType
  actual_type = record { args = []; gives = Some (User world_name) }

  type-at : (t : ℕ) (entry : TableEntry) → slice_get csig.tables t ≡ Some entry → L.type_of entry.name ≡ Some (table_type csig.sorts entry)
  type-at t entry at =
      ap (λ b. if b then Some (record { args = []; gives = Some (User world_name) }) else table_type_among csig.sorts csig.tables entry.name) (not-actual csig wf.different t entry at)
      ∙ type-place csig.sorts csig.tables (tables-different csig wf.different) t entry at

  good-at : (t : ℕ) (entry : TableEntry) → slice_get csig.tables t ≡ Some entry → IsGoodTable (length csig.sorts) entry
  good-at t entry at = subst (IsGoodTable (length csig.sorts)) (get_or_from_slice_get csig.tables t entry entry at) (wf.tables t entry (slice_get_within csig.tables t entry at))

  size-of : (k : ℕ) → k < length csig.sorts → S.size (classical_sort_at csig.sorts k) ≡ size_at view.sizes k
  size-of k h = by_name.size k (classical_sort_at csig.sorts k) (sort-at csig.sorts k h)

  sizes-at : (t : ℕ) (entry : TableEntry) → slice_get csig.tables t ≡ Some entry → (table_at view.tables t).sizes ≡ map (size_at view.sizes) entry.args
  sizes-at t entry at = ap (λ (s : Shape). s.sizes) (shape-at csig view over t entry at)

  values-at : (t : ℕ) (entry : TableEntry) → slice_get csig.tables t ≡ Some entry → (table_at view.tables t).values ≡ option_map (size_at view.sizes) entry.gives
  values-at t entry at = ap (λ (s : Shape). s.values) (shape-at csig view over t entry at)

  few-args : (t : ℕ) (entry : TableEntry) (row : List ℕ) → slice_get csig.tables t ≡ Some entry → InRange (map (size_at view.sizes) entry.args) row → length row ≤ 1001
  few-args t entry row at h = omega (arith, (good-at t entry at).few, InRange-length (map (size_at view.sizes) entry.args) row h, length-map entry.args (size_at view.sizes))

  row-there : (t : ℕ) (entry : TableEntry) (row : List ℕ) → slice_get csig.tables t ≡ Some entry → InRange (map (size_at view.sizes) entry.args) row → IsRow view t row
  row-there t entry row at h = record {
    table_in = table-in csig view over t entry at;
    row_in = subst (λ sizes. InRange sizes row) (sym (sizes-at t entry at)) h;
    few = few-args t entry row at h;
  }

  function-there : (t : ℕ) (entry : TableEntry) (g : ℕ) → slice_get csig.tables t ≡ Some entry → entry.gives ≡ Some g → IsSome (table_at view.tables t).values
  function-there t entry g at gives = subst (λ (o : Option ℕ). IsSome o) (sym (values-at t entry at ∙ ap (option_map (size_at view.sizes)) gives)) refl

  predicate-there : (t : ℕ) (entry : TableEntry) → slice_get csig.tables t ≡ Some entry → entry.gives ≡ None → (table_at view.tables t).values ≡ None
  predicate-there t entry at gives = values-at t entry at ∙ ap (option_map (size_at view.sizes)) gives

  function-value : (t : ℕ) (entry : TableEntry) (g : ℕ) (row : List ℕ) → slice_get csig.tables t ≡ Some entry → entry.gives ≡ Some g → IsRow view t row → cell (table_at view.tables t) row < S.size (classical_sort_at csig.sorts g)
  function-value t entry g row at gives fits =
      let bound : bound_of (table_at view.tables t).values ≡ size_at view.sizes g = ap bound_of (values-at t entry at ∙ ap (option_map (size_at view.sizes)) gives) in
      let below : g < length csig.sorts = subst (GivesBelow (length csig.sorts)) gives (good-at t entry at).gives in
      omega (arith, cell-below (table_at view.tables t) row (is.filled t fits.table_in) fits.row_in, bound, size-of g below)

  module _ (xs : List (List ℕ)) (ss : List SortName) (e : List ℕ) (long : length xs ≡ length ss) (values : InSorts S.size ss e) where
    abbrev B : Sorts
    B = inside_out xs ss

    -- `mk_actual` has no arguments, and its value is one of the worlds
    actual-fits : {P : Type 0} (f : List ℕ) (ts : List Term) (s : SortName) → actual_name ≡ f → sort_of L B (App f ts) ≡ Some s → (fit [] (map (sort_of L B) ts) ≡ true → view.actual < S.size s → P) → P
    actual-fits f ts s same h chosen =
        let type : L.type_of f ≡ Some actual_type = ap (λ g. L.type_of g) (sym same) ∙ ap (λ b. if b then Some actual_type else table_type_among csig.sorts csig.tables actual_name) (same_text-refl actual_name) in
        let applied : applied_sort (Some actual_type) (map (sort_of L B) ts) ≡ Some s = ap (λ o. applied_sort o (map (sort_of L B) ts)) (sym type) ∙ sym (sort_of-App L B f ts) ∙ h in
        fit-chosen (fit [] (map (sort_of L B) ts)) (Some (User world_name)) s applied (λ fits gives.
        let size : S.size s ≡ size_at view.sizes 0 = ap S.size (sym (same-some _ _ gives)) ∙ by_name.size 0 (User world_name) wf.worlds in
        chosen fits (omega (arith, is.actual_in, size)))

    mutual
      pub term-fits : (n : NTerm) (t : Term) (s : SortName) → named_term csig xs n ≡ Some t → sort_of L B t ≡ Some s → TermFits view e n × (node_value view e n < S.size s)
      term-fits (Bound k) t s h sort =
          mapped Var (variable xs k) t h (λ x at is.
          let found = level-sort xs ss k x at long in
          let own : slice_get ss k ≡ Some s = sym found.0 ∙ ap (sort_of L B) is ∙ sort in
          (omega (arith, found.1, InSorts-length S.size ss e values), InSorts-at S.size ss e k s values own))
      term-fits (numbered.App' zero shape ns) t s h sort =
          joined App (Some actual_name) (named_row csig xs ns) t h (λ f ts at rest is.
          let same : actual_name ≡ f = cc in
          actual-fits f ts s same (ap (sort_of L B) is ∙ sort) (λ fits below. (((row-fits ns ts [] rest tt fits).0, tt), below)))
      term-fits (numbered.App' (suc y) shape ns) t s h sort =
          joined App (table_name csig y) (named_row csig xs ns) t h (λ f ts at rest is.
          mapped (λ (entry : TableEntry). entry.name) (slice_get csig.tables y) f at (λ entry place name.
          let type : L.type_of f ≡ Some (table_type csig.sorts entry) = ap L.type_of (sym name) ∙ type-at y entry place in
          let applied : applied_sort (Some (table_type csig.sorts entry)) (map (sort_of L B) ts) ≡ Some s = ap (λ o. applied_sort o (map (sort_of L B) ts)) (sym type) ∙ sym (sort_of-App L B f ts) ∙ ap (sort_of L B) is ∙ sort in
          fit-chosen (fit (map (classical_sort_at csig.sorts) entry.args) (map (sort_of L B) ts)) (option_map (classical_sort_at csig.sorts) entry.gives) s applied (λ fits gives.
          mapped (classical_sort_at csig.sorts) entry.gives s gives (λ g given same.
          let row = row-fits ns ts entry.args rest (good-at y entry place).args fits in
          let found = row-there y entry (node_values view e ns) place row.1 in
          ((row.0, (function-there y entry g place given, found)), subst (λ r. cell (table_at view.tables y) (node_values view e ns) < S.size r) same (function-value y entry g (node_values view e ns) place given found))))))

      pub row-fits : {m : _} (ns : Row_of-NTerm m) (ts : List Term) (args : List ℕ) → named_row csig xs ns ≡ Some ts → AllBelow (length csig.sorts) args → fit (map (classical_sort_at csig.sorts) args) (map (sort_of L B) ts) ≡ true
          → TermsFit view e ns × InRange (map (size_at view.sizes) args) (node_values view e ns)
      row-fits end_of-NTerm ts [] h range fits = (tt, tt)
      row-fits end_of-NTerm ts (a ∷ args) h range fits = let is : ◌≡◌ {A = List Term} [] ts = cc in absurd (true-false (sym (ap (λ us. fit (map (classical_sort_at csig.sorts) (a ∷ args)) (map (sort_of L B) us)) is ∙ fits)))
      row-fits (more_of-NTerm n ns) ts [] h range fits =
          joined (λ t us. t ∷ us) (named_term csig xs n) (named_row csig xs ns) ts h (λ t us at rest is.
          absurd (true-false (sym (ap (λ vs. fit [] (map (sort_of L B) vs)) is ∙ fits))))
      row-fits (more_of-NTerm n ns) ts (a ∷ args) h range fits =
          joined (λ t us. t ∷ us) (named_term csig xs n) (named_row csig xs ns) ts h (λ t us at rest is.
          let both : is_sort (classical_sort_at csig.sorts a) (sort_of L B t) && fit (map (classical_sort_at csig.sorts) args) (map (sort_of L B) us) ≡ true = ap (λ vs. fit (map (classical_sort_at csig.sorts) (a ∷ args)) (map (sort_of L B) vs)) is ∙ fits in
          let parts = split _ _ both in
          let first = term-fits n t (classical_sort_at csig.sorts a) at (is_sort-some (classical_sort_at csig.sorts a) (sort_of L B t) parts.0) in
          let later = row-fits ns us args rest range.1 parts.1 in
          ((first.0, later.0), (omega (arith, first.1, size-of a range.0), later.1)))

    pub list-fits : (ns : List NTerm) (ts : List Term) (args : List ℕ) → named_terms csig xs ns ≡ Some ts → AllBelow (length csig.sorts) args → fit (map (classical_sort_at csig.sorts) args) (map (sort_of L B) ts) ≡ true
        → Each (TermFits view e) ns × InRange (map (size_at view.sizes) args) (map (node_value view e) ns)
    list-fits [] ts [] h range fits = (λ k d l. absurd (omega (arith, l)), tt)
    list-fits [] ts (a ∷ args) h range fits = let is : ◌≡◌ {A = List Term} [] ts = cc in absurd (true-false (sym (ap (λ us. fit (map (classical_sort_at csig.sorts) (a ∷ args)) (map (sort_of L B) us)) is ∙ fits)))
    list-fits (n ∷ ns) ts [] h range fits =
        joined (λ t us. t ∷ us) (named_term csig xs n) (named_terms csig xs ns) ts h (λ t us at rest is.
        absurd (true-false (sym (ap (λ vs. fit [] (map (sort_of L B) vs)) is ∙ fits))))
    list-fits (n ∷ ns) ts (a ∷ args) h range fits =
        joined (λ t us. t ∷ us) (named_term csig xs n) (named_terms csig xs ns) ts h (λ t us at rest is.
        let both : is_sort (classical_sort_at csig.sorts a) (sort_of L B t) && fit (map (classical_sort_at csig.sorts) args) (map (sort_of L B) us) ≡ true = ap (λ vs. fit (map (classical_sort_at csig.sorts) (a ∷ args)) (map (sort_of L B) vs)) is ∙ fits in
        let parts = split _ _ both in
        let first = term-fits n t (classical_sort_at csig.sorts a) at (is_sort-some (classical_sort_at csig.sorts a) (sort_of L B t) parts.0) in
        let later = list-fits ns us args rest range.1 parts.1 in
        (all-more (TermFits view e) n ns first.0 later.0, (omega (arith, first.1, size-of a range.0), later.1)))

    -- terms that have sorts
    pub distinct-fits : (ns : List NTerm) (ts : List Term) → named_terms csig xs ns ≡ Some ts → list_all is_some (map (sort_of L B) ts) ≡ true → Each (TermFits view e) ns
    distinct-fits [] ts h sorted = λ k d l. absurd (omega (arith, l))
    distinct-fits (n ∷ ns) ts h sorted =
        joined (λ t us. t ∷ us) (named_term csig xs n) (named_terms csig xs ns) ts h (λ t us at rest is.
        let parts : (is_some (sort_of L B t) ≡ true) × (list_all is_some (map (sort_of L B) us) ≡ true) = split _ _ (ap (λ vs. list_all is_some (map (sort_of L B) vs)) is ∙ sorted) in
        let one = some-sort (sort_of L B t) parts.0 in
        all-more (TermFits view e) n ns (term-fits n t one.0 at one.1).0 (distinct-fits ns us rest parts.1))

    pub sides-fit : (a b : NTerm) (t u : Term) → named_term csig xs a ≡ Some t → named_term csig xs b ≡ Some u → have_one_sort (sort_of L B t) (sort_of L B u) ≡ true → TermFits view e a × TermFits view e b
    sides-fit a b t u p q h =
        let one = one-sort _ _ h in
        ((term-fits a t one.sort p one.left).0, (term-fits b u one.sort q one.right).0)

    pub atom-fits : (y : ℕ) (ns : List NTerm) (p : List ℕ) (ts : List Term) → table_name csig y ≡ Some p → named_terms csig xs ns ≡ Some ts → is_atom (L.type_of p) (map (sort_of L B) ts) ≡ true → Fits view e (node.Atom (suc y) ns)
    atom-fits y ns p ts at rest h =
        mapped (λ (entry : TableEntry). entry.name) (slice_get csig.tables y) p at (λ entry place name.
        let type : L.type_of p ≡ Some (table_type csig.sorts entry) = ap L.type_of (sym name) ∙ type-at y entry place in
        let parts : (is_none (option_map (classical_sort_at csig.sorts) entry.gives) ≡ true) × (fit (map (classical_sort_at csig.sorts) entry.args) (map (sort_of L B) ts) ≡ true) = split _ _ (ap (λ o. is_atom o (map (sort_of L B) ts)) (sym type) ∙ h) in
        let row = list-fits ns ts entry.args rest (good-at y entry place).args parts.1 in
        (row.0, (predicate-there y entry place (no-gives (classical_sort_at csig.sorts) entry.gives parts.0), row-there y entry (map (node_value view e) ns) place row.1)))

  mutual
    pub formula-fits : (n : Node) (xs : List (List ℕ)) (ss : List SortName) (e : List ℕ) (f : Formula) → named_form csig xs n ≡ Some f → is_classical L (inside_out xs ss) f ≡ true → length xs ≡ length ss → InSorts S.size ss e → Fits view e n
    formula-fits node.True xs ss e f h sorted long values = tt
    formula-fits node.False xs ss e f h sorted long values = tt
    formula-fits (node.Atom zero ns) xs ss e f h sorted long values =
        mapped Distinct (named_terms csig xs ns) f h (λ ts at same.
        (distinct-fits xs ss e long values ns ts at (ap (is_classical L (inside_out xs ss)) same ∙ sorted), tt))
    formula-fits (node.Atom (suc y) ns) xs ss e f h sorted long values =
        joined Atom (table_name csig y) (named_terms csig xs ns) f h (λ p ts at rest same.
        atom-fits xs ss e long values y ns p ts at rest (ap (is_classical L (inside_out xs ss)) same ∙ sorted))
    formula-fits (node.Same a b) xs ss e f h sorted long values =
        joined Same (named_term csig xs a) (named_term csig xs b) f h (λ t u at rest same.
        sides-fit xs ss e long values a b t u at rest (ap (is_classical L (inside_out xs ss)) same ∙ sorted))
    formula-fits (node.Differ a b) xs ss e f h sorted long values =
        joined Differ (named_term csig xs a) (named_term csig xs b) f h (λ t u at rest same.
        sides-fit xs ss e long values a b t u at rest (ap (is_classical L (inside_out xs ss)) same ∙ sorted))
    formula-fits (NodeNot n) xs ss e f h sorted long values =
        mapped Not (named_form csig xs n) f h (λ g at same.
        formula-fits n xs ss e g at (ap (is_classical L (inside_out xs ss)) (sym (Not_is g) ∙ same) ∙ sorted) long values)
    formula-fits (node.And' shape ns) xs ss e f h sorted long values =
        mapped And (named_nodes csig xs ns) f h (λ gs at same.
        formulas-fit ns xs ss e gs at (sym (sorted_of_And L (inside_out xs ss) gs) ∙ ap (is_classical L (inside_out xs ss)) same ∙ sorted) long values)
    formula-fits (node.Or' shape ns) xs ss e f h sorted long values =
        mapped Or (named_nodes csig xs ns) f h (λ gs at same.
        formulas-fit ns xs ss e gs at (sym (sorted_of_Or L (inside_out xs ss) gs) ∙ ap (is_classical L (inside_out xs ss)) same ∙ sorted) long values)
    formula-fits (NodePair op a b) xs ss e f h sorted long values =
        joined (Pair op) (named_form csig xs a) (named_form csig xs b) f h (λ g k at rest same.
        let parts : (is_classical L (inside_out xs ss) g ≡ true) × (is_classical L (inside_out xs ss) k ≡ true) = split _ _ (ap (is_classical L (inside_out xs ss)) (sym (Pair_is op g k) ∙ same) ∙ sorted) in
        (formula-fits a xs ss e g at parts.0 long values, formula-fits b xs ss e k rest parts.1 long values))
    formula-fits (NodeQuant q k x n) xs ss e f h sorted long values =
        joined (Quant q x) (slice_get csig.sorts k) (named_form csig (xs ++ x ∷ []) n) f h (λ s g at rest same.
        let parts : (L.knows_sort s ≡ true) × (is_classical L ((x, s) ∷ inside_out xs ss) g ≡ true) = split _ _ (ap (is_classical L (inside_out xs ss)) (sym (Quant_is q x s g) ∙ same) ∙ sorted) in
        let body : is_classical L (inside_out (xs ++ x ∷ []) (ss ++ s ∷ [])) g ≡ true = ap (λ b. is_classical L b g) (inside_out-push xs ss x s long) ∙ parts.1 in (
          omega (arith, more-sizes csig.sorts view.sizes over.sorts, slice_get_within csig.sorts k s at),
          λ a below. formula-fits n (xs ++ x ∷ []) (ss ++ s ∷ []) (e ++ a ∷ []) g rest body (both-longer xs ss x s long) (InSorts-push S.size ss e s a values (omega (arith, below, by_name.size k s at))),
        ))
    formula-fits (NodeModal m i n) xs ss e f h sorted long values = absurd cc

    pub formulas-fit : {m : _} (ns : Row_of-Node m) (xs : List (List ℕ)) (ss : List SortName) (e : List ℕ) (fs : List Formula) → named_nodes csig xs ns ≡ Some fs → list_all (is_classical L (inside_out xs ss)) fs ≡ true → length xs ≡ length ss → InSorts S.size ss e → AllFit view e ns
    formulas-fit end_of-Node xs ss e fs h sorted long values = tt
    formulas-fit (more_of-Node n ns) xs ss e fs h sorted long values =
        joined (λ t us. t ∷ us) (named_form csig xs n) (named_nodes csig xs ns) fs h (λ g gs at rest same.
        let parts : (is_classical L (inside_out xs ss) g ≡ true) × (list_all (is_classical L (inside_out xs ss)) gs ≡ true) = split _ _ (ap (list_all (is_classical L (inside_out xs ss))) same ∙ sorted) in
        (formula-fits n xs ss e g at parts.0 long values, formulas-fit ns xs ss e gs rest parts.1 long values))
