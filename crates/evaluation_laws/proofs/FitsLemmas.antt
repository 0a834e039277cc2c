-- A numbered formula that stands for a well-sorted one fits.
use Rattle.std.proofs.Common.{◌≡◌, ℕ, ◌<◌, ◌≤◌, Bool, true, false, List, [], ◌∷◌, ◌++◌, length, get_or, refl, sym, ap, ◌∙◌, subst, arith}
use Rattle.std.specs.Prelude.{◌&&◌, if◌then◌else◌, map, slice_get, Option, None, Some}
use Rattle.std.specs.Option.{IsSome, option_map, is_none}
use Rattle.std.specs.List.{list_all, All as Each}
use Rattle.std.proofs.lemmas.Option.{slice_get_within, get_or_from_slice_get}
use Rattle.std.proofs.lemmas.List.{length-map}
use Rattle.nxf_tree.specs.declared.tree.Signature.{Signature}
use Rattle.nxf_tree.specs.declared.tree.SortEntry.{SortEntry}
use Rattle.nxf_tree.specs.declared.tree.SymbolEntry.{SymbolEntry}
use Rattle.nxf_tree.specs.declared.tree.IndexEntry.{IndexEntry}
use Rattle.nxf_tree.specs.declared.tree.SortName.{SortName}
use Rattle.nxf_tree.specs.declared.tree.Designation.{Designation}
use Rattle.nxf_tree.specs.declared.tree.Term.{Term, Var, App}
use Rattle.nxf_tree.specs.declared.tree.Formula.{Formula, Atom, Same, Differ, Not, And, Or, Pair, Quant, Modal, Row_of-Formula, end_of-Formula, more_of-Formula}
use Rattle.nxf_tree.specs.declared.tree.Formula.TheBlock.{hidden-the_row-Formula-1, items-the_row-Formula, items_hidden-the_row-Formula-1}
use Rattle.nxf_tree.specs.Shapes.{Not_is, Pair_is, Quant_is, Modal_is}
use Rattle.nxf_tree.specs.Signature.{sort_at, takes_world, world_in_front}
use Rattle.nxf_tree.specs.Rows.{Shape, size_at}
use Rattle.nxf_tree.specs.Kripke.{KripkeModel}
use Rattle.nxf_tree.specs.Sorting.{Language, Bound as Sorts, is_sort, fit, applied_sort, is_atom, have_one_sort, sort_of, is_sorted, are_sorted, modal_language, in_range, gives_in_range}
use Rattle.nxf_tree.specs.WellFormed.{IsWellFormed, has_sorts_in_range}
use Rattle.name_laws.proofs.Spelling.{true-false}
use Rattle.name_laws.proofs.Types.{own_type, split}
use Rattle.name_laws.proofs.SortedFormulas.{sort_of-App}
use Rattle.name_laws.proofs.GoodSymbols.{parts-of-names}
use Rattle.classical_syntax.proofs.CallerLemmas.{sort_at-place}
use Rattle.fin_struct.specs.Places.{InRange}
use Rattle.fin_struct.specs.Cells.{bound_of}
use Rattle.fin_struct.specs.KripkeTables.{KripkeTables, IsKripke, IsKripkeFor, symbol_number, symbol_table, symbol_row, takes_world_in, value_in}
use Rattle.structure_laws.specs.KripkeLaws.{HasPlaces, ReadsByName}
use Rattle.fin_struct.proofs.CallerLemmas.{InRange-length, symbol_in}
use Rattle.structure_laws.proofs.KripkeNames.{names-law, places-law}
use Rattle.numbered_definitions.specs.declared.node.NTerm.{NTerm, Bound, Row_of-NTerm, end_of-NTerm, more_of-NTerm}
use Rattle.numbered_definitions.specs.declared.node.NTerm as numbered
use Rattle.numbered_definitions.specs.declared.node.Node.{Node, Row_of-Node, end_of-Node, more_of-Node}
use Rattle.numbered_definitions.specs.declared.node.Node as node
use Rattle.numbered_definitions.specs.NamedForm.{NodeNot, NodePair, NodeQuant, NodeModal, variable, symbol_name, sort_name, index_name, named_term, named_row, named_terms, named_form, named_nodes}
use Rattle.kripke_evaluation_definitions.specs.NumberedMeaning.{node_value, node_values}
use Rattle.kripke_evaluation_definitions.specs.Fitting.{IsFunctionRow, IsPredicateRow, TermFits, TermsFit, Fits, AllFit}
use Rattle.kripke_evaluation_definitions.specs.FileConditions.{model_of}
use Rattle.evaluation_laws.specs.EvaluationLaws.{inside_out}
use Rattle.numbered_definitions.proofs.CallerLemmas.{mapped, joined}
use Rattle.evaluation_laws.proofs.SortValues.{cell-below, InSorts, InSorts-length, InSorts-at, InSorts-push, is_sort-some, one-sort, no-gives, fit-chosen, all-more}
use Rattle.evaluation_laws.proofs.Levels.{level-sort, inside_out-push, both-longer}
use Rattle.evaluation_laws.proofs.SymbolTypes.{passes-at, sort-there, type-place}

-- a row with a world in front, or without
in-front : (c d : Bool) (n w : ℕ) (sizes args : List ℕ) → d ≡ c → w < n → InRange sizes args → InRange (if c then n ∷ sizes else sizes) (if d then w ∷ args else args)
in-front c true n w sizes args e l h = subst (λ b. InRange (if b then n ∷ sizes else sizes) (w ∷ args)) e (l, h)
in-front c false n w sizes args e l h = subst (λ b. InRange (if b then n ∷ sizes else sizes) args) e h

predicate-front : (gives : Option ℕ) (d : Designation) → gives ≡ None → world_in_front gives d ≡ true
predicate-front gives d e = ap (λ g. world_in_front g d) e

module _ (L : Language) (b : Sorts) where
  sorted_of_row : {m : _} (fs : Row_of-Formula m) → are_sorted L b fs ≡ list_all (is_sorted L b) (items-the_row-Formula _ fs)
  sorted_of_row end_of-Formula = refl
  sorted_of_row (more_of-Formula f fs) = ap (λ c. is_sorted L b f && c) (sorted_of_row fs)

  sorted_of_And : (fs : List Formula) → is_sorted L b (And fs) ≡ list_all (is_sorted L b) fs
  sorted_of_And fs = sorted_of_row (hidden-the_row-Formula-1 fs) ∙ ap (list_all (is_sorted L b)) (items_hidden-the_row-Formula-1 fs)

  sorted_of_Or : (fs : List Formula) → is_sorted L b (Or fs) ≡ list_all (is_sorted L b) fs
  sorted_of_Or fs = sorted_of_row (hidden-the_row-Formula-1 fs) ∙ ap (list_all (is_sorted L b)) (items_hidden-the_row-Formula-1 fs)

module _ (sig : Signature) (view : KripkeTables) (wf : IsWellFormed sig) (is : IsKripke view) (over : IsKripkeFor sig view) where
  abbrev K : KripkeModel
  K = model_of sig view

  abbrev L : Language
  L = modal_language sig

  reads : ReadsByName sig view K
  reads = names-law sig view wf.different is over

  places : HasPlaces sig view
  places = places-law sig view is over

  type-at : (y : ℕ) (entry : SymbolEntry) → slice_get sig.symbols y ≡ Some entry → L.type_of entry.name ≡ Some (own_type sig.sorts entry)
  type-at y entry at = type-place sig.sorts sig.symbols (parts-of-names sig wf.different).symbols y entry at

  size-of : (k : ℕ) → in_range sig.sorts k ≡ true → K.size (sort_at sig.sorts k) ≡ size_at view.sizes k
  size-of k h =
      let there = sort-there sig.sorts k h in
      ap K.size (sort_at-place sig.sorts k there.entry there.at) ∙ reads.size k there.entry there.at

  -- the numbers of sorts in a symbol's type
  args-in : (y : ℕ) (entry : SymbolEntry) → slice_get sig.symbols y ≡ Some entry → list_all (in_range sig.sorts) entry.args ≡ true
  args-in y entry at = (split _ _ (passes-at (has_sorts_in_range sig) sig.symbols y entry wf.in_range at)).0

  gives-in : (y : ℕ) (entry : SymbolEntry) (g : ℕ) → slice_get sig.symbols y ≡ Some entry → entry.gives ≡ Some g → in_range sig.sorts g ≡ true
  gives-in y entry g at e = ap (gives_in_range sig.sorts) (sym e) ∙ (split _ _ (passes-at (has_sorts_in_range sig) sig.symbols y entry wf.in_range at)).1

  few-args : (y : ℕ) (entry : SymbolEntry) (args : List ℕ) → slice_get sig.symbols y ≡ Some entry → InRange (map (size_at view.sizes) entry.args) args → length args ≤ 1000
  few-args y entry args at h =
      let few : length (get_or sig.symbols y entry).args ≤ 1000 = wf.arguments y entry (slice_get_within sig.symbols y entry at) in
      let own : length entry.args ≤ 1000 = subst (λ (e : SymbolEntry). length e.args ≤ 1000) (get_or_from_slice_get sig.symbols y entry entry at) few in
      omega (arith, own, InRange-length (map (size_at view.sizes) entry.args) args h, length-map entry.args (size_at view.sizes))

  symbol-below : (y : ℕ) (entry : SymbolEntry) → slice_get sig.symbols y ≡ Some entry → y < length view.world_first
  symbol-below y entry at = omega (arith, places.symbols, slice_get_within sig.symbols y entry at)

  sizes-at : (y : ℕ) (entry : SymbolEntry) → slice_get sig.symbols y ≡ Some entry → (symbol_table view y).sizes ≡ (if takes_world entry then view.worlds ∷ map (size_at view.sizes) entry.args else map (size_at view.sizes) entry.args)
  sizes-at y entry at = ap (λ (s : Shape). s.sizes) (places.shapes y entry at)

  values-at : (y : ℕ) (entry : SymbolEntry) → slice_get sig.symbols y ≡ Some entry → (symbol_table view y).values ≡ option_map (size_at view.sizes) entry.gives
  values-at y entry at = ap (λ (s : Shape). s.values) (places.shapes y entry at)

  function-row : (y : ℕ) (entry : SymbolEntry) (g w : ℕ) (args : List ℕ) → slice_get sig.symbols y ≡ Some entry → entry.gives ≡ Some g → w < view.worlds → InRange (map (size_at view.sizes) entry.args) args → IsFunctionRow view y w args
  function-row y entry g w args at gives here h = record {
    symbol_in = symbol-below y entry at;
    function = subst (λ (o : Option ℕ). IsSome o) (sym (values-at y entry at ∙ ap (option_map (size_at view.sizes)) gives)) refl;
    row_in = subst (λ sizes. InRange sizes (symbol_row view y w args)) (sym (sizes-at y entry at)) (in-front (takes_world entry) (takes_world_in view y) view.worlds w (map (size_at view.sizes) entry.args) args (places.world_first y entry at) here h);
    few = few-args y entry args at h;
  }

  function-value : (y : ℕ) (entry : SymbolEntry) (g w : ℕ) (args : List ℕ) → slice_get sig.symbols y ≡ Some entry → entry.gives ≡ Some g → IsFunctionRow view y w args → value_in view y w args < K.size (sort_at sig.sorts g)
  function-value y entry g w args at gives row =
      let filled = is.filled (symbol_number view y) (symbol_in view y is row.symbol_in) in
      let bound : bound_of (symbol_table view y).values ≡ size_at view.sizes g = ap bound_of (values-at y entry at ∙ ap (option_map (size_at view.sizes)) gives) in
      omega (arith, cell-below (symbol_table view y) (symbol_row view y w args) filled row.row_in, bound, size-of g (gives-in y entry g at gives))

  predicate-row : (y : ℕ) (entry : SymbolEntry) (w : ℕ) (args : List ℕ) → slice_get sig.symbols y ≡ Some entry → entry.gives ≡ None → w < view.worlds → InRange (map (size_at view.sizes) entry.args) args → IsPredicateRow view y w args
  predicate-row y entry w args at gives here h = record {
    symbol_in = symbol-below y entry at;
    predicate = values-at y entry at ∙ ap (option_map (size_at view.sizes)) gives;
    row_in = subst (λ sizes. InRange sizes (w ∷ args)) (sym (sizes-at y entry at ∙ ap (λ b. if b then view.worlds ∷ map (size_at view.sizes) entry.args else map (size_at view.sizes) entry.args) (predicate-front entry.gives entry.designation gives))) (here, h);
    few = few-args y entry args at h;
  }

  module _ (xs : List (List ℕ)) (ss : List SortName) (e : List ℕ) (long : length xs ≡ length ss) (values : InSorts K.size ss e) (w : ℕ) (here : w < view.worlds) where
    abbrev B : Sorts
    B = inside_out xs ss

    mutual
      pub term-fits : (n : NTerm) (t : Term) (s : SortName) → named_term sig xs n ≡ Some t → sort_of L B t ≡ Some s → TermFits view w e n × (node_value view w e n < K.size s)
      term-fits (Bound k) t s h sort =
          mapped Var (variable xs k) t h (λ x at is.
          let found = level-sort xs ss k x at long in
          let own : slice_get ss k ≡ Some s = sym found.0 ∙ ap (sort_of L B) is ∙ sort in
          (omega (arith, found.1, InSorts-length K.size ss e values), InSorts-at K.size ss e k s values own))
      term-fits (numbered.App' y shape ns) t s h sort =
          joined App (symbol_name sig y) (named_row sig xs ns) t h (λ f ts at rest is.
          mapped (λ (entry : SymbolEntry). entry.name) (slice_get sig.symbols y) f at (λ entry place name.
          let type : L.type_of f ≡ Some (own_type sig.sorts entry) = ap L.type_of (sym name) ∙ type-at y entry place in
          let applied : applied_sort (Some (own_type sig.sorts entry)) (map (sort_of L B) ts) ≡ Some s = ap (λ o. applied_sort o (map (sort_of L B) ts)) (sym type) ∙ sym (sort_of-App L B f ts) ∙ ap (sort_of L B) is ∙ sort in
          fit-chosen (fit (map (sort_at sig.sorts) entry.args) (map (sort_of L B) ts)) (option_map (sort_at sig.sorts) entry.gives) s applied (λ fits gives.
          mapped (sort_at sig.sorts) entry.gives s gives (λ g given same.
          let row = row-fits ns ts entry.args rest (args-in y entry place) fits in
          let found = function-row y entry g w (node_values view w e ns) place given here row.1 in
          ((row.0, found), subst (λ r. value_in view y w (node_values view w e ns) < K.size r) same (function-value y entry g w (node_values view w e ns) place given found))))))

      pub row-fits : {m : _} (ns : Row_of-NTerm m) (ts : List Term) (args : List ℕ) → named_row sig xs ns ≡ Some ts → list_all (in_range sig.sorts) args ≡ true → fit (map (sort_at sig.sorts) args) (map (sort_of L B) ts) ≡ true
          → TermsFit view w e ns × InRange (map (size_at view.sizes) args) (node_values view w e ns)
      row-fits end_of-NTerm ts [] h range fits = (tt, tt)
      row-fits end_of-NTerm ts (a ∷ args) h range fits = let is : ◌≡◌ {A = List Term} [] ts = cc in absurd (true-false (sym (ap (λ us. fit (map (sort_at sig.sorts) (a ∷ args)) (map (sort_of L B) us)) is ∙ fits)))
      row-fits (more_of-NTerm n ns) ts [] h range fits =
          joined (λ t us. t ∷ us) (named_term sig xs n) (named_row sig xs ns) ts h (λ t us at rest is.
          absurd (true-false (sym (ap (λ vs. fit [] (map (sort_of L B) vs)) is ∙ fits))))
      row-fits (more_of-NTerm n ns) ts (a ∷ args) h range fits =
          joined (λ t us. t ∷ us) (named_term sig xs n) (named_row sig xs ns) ts h (λ t us at rest is.
          let both : is_sort (sort_at sig.sorts a) (sort_of L B t) && fit (map (sort_at sig.sorts) args) (map (sort_of L B) us) ≡ true = ap (λ vs. fit (map (sort_at sig.sorts) (a ∷ args)) (map (sort_of L B) vs)) is ∙ fits in
          let parts = split _ _ both in
          let ranges = split (in_range sig.sorts a) _ range in
          let first = term-fits n t (sort_at sig.sorts a) at (is_sort-some (sort_at sig.sorts a) (sort_of L B t) parts.0) in
          let later = row-fits ns us args rest ranges.1 parts.1 in
          ((first.0, later.0), (omega (arith, first.1, size-of a ranges.0), later.1)))

    pub list-fits : (ns : List NTerm) (ts : List Term) (args : List ℕ) → named_terms sig xs ns ≡ Some ts → list_all (in_range sig.sorts) args ≡ true → fit (map (sort_at sig.sorts) args) (map (sort_of L B) ts) ≡ true
        → Each (TermFits view w e) ns × InRange (map (size_at view.sizes) args) (map (node_value view w e) ns)
    list-fits [] ts [] h range fits = (λ k d l. absurd (omega (arith, l)), tt)
    list-fits [] ts (a ∷ args) h range fits = let is : ◌≡◌ {A = List Term} [] ts = cc in absurd (true-false (sym (ap (λ us. fit (map (sort_at sig.sorts) (a ∷ args)) (map (sort_of L B) us)) is ∙ fits)))
    list-fits (n ∷ ns) ts [] h range fits =
        joined (λ t us. t ∷ us) (named_term sig xs n) (named_terms sig xs ns) ts h (λ t us at rest is.
        absurd (true-false (sym (ap (λ vs. fit [] (map (sort_of L B) vs)) is ∙ fits))))
    list-fits (n ∷ ns) ts (a ∷ args) h range fits =
        joined (λ t us. t ∷ us) (named_term sig xs n) (named_terms sig xs ns) ts h (λ t us at rest is.
        let both : is_sort (sort_at sig.sorts a) (sort_of L B t) && fit (map (sort_at sig.sorts) args) (map (sort_of L B) us) ≡ true = ap (λ vs. fit (map (sort_at sig.sorts) (a ∷ args)) (map (sort_of L B) vs)) is ∙ fits in
        let parts = split _ _ both in
        let ranges = split (in_range sig.sorts a) _ range in
        let first = term-fits n t (sort_at sig.sorts a) at (is_sort-some (sort_at sig.sorts a) (sort_of L B t) parts.0) in
        let later = list-fits ns us args rest ranges.1 parts.1 in
        (all-more (TermFits view w e) n ns first.0 later.0, (omega (arith, first.1, size-of a ranges.0), later.1)))

    pub sides-fit : (a b : NTerm) (t u : Term) → named_term sig xs a ≡ Some t → named_term sig xs b ≡ Some u → have_one_sort (sort_of L B t) (sort_of L B u) ≡ true → TermFits view w e a × TermFits view w e b
    sides-fit a b t u p q h =
        let one = one-sort _ _ h in
        ((term-fits a t one.sort p one.left).0, (term-fits b u one.sort q one.right).0)

    pub atom-fits : (y : ℕ) (ns : List NTerm) (p : List ℕ) (ts : List Term) → symbol_name sig y ≡ Some p → named_terms sig xs ns ≡ Some ts → is_atom (L.type_of p) (map (sort_of L B) ts) ≡ true → Fits view w e (node.Atom y ns)
    atom-fits y ns p ts at rest h =
        mapped (λ (entry : SymbolEntry). entry.name) (slice_get sig.symbols y) p at (λ entry place name.
        let type : L.type_of p ≡ Some (own_type sig.sorts entry) = ap L.type_of (sym name) ∙ type-at y entry place in
        let parts : (is_none (option_map (sort_at sig.sorts) entry.gives) ≡ true) × (fit (map (sort_at sig.sorts) entry.args) (map (sort_of L B) ts) ≡ true) = split _ _ (ap (λ o. is_atom o (map (sort_of L B) ts)) (sym type) ∙ h) in
        let row = list-fits ns ts entry.args rest (args-in y entry place) parts.1 in
        (row.0, predicate-row y entry w (map (node_value view w e) ns) place (no-gives (sort_at sig.sorts) entry.gives parts.0) here row.1))

  mutual
    pub formula-fits : (n : Node) (xs : List (List ℕ)) (ss : List SortName) (e : List ℕ) (w : ℕ) (f : Formula) → named_form sig xs n ≡ Some f → is_sorted L (inside_out xs ss) f ≡ true → length xs ≡ length ss → InSorts K.size ss e → w < view.worlds → Fits view w e n
    formula-fits node.True xs ss e w f h sorted long values here = tt
    formula-fits node.False xs ss e w f h sorted long values here = tt
    formula-fits (node.Atom y ns) xs ss e w f h sorted long values here =
        joined Atom (symbol_name sig y) (named_terms sig xs ns) f h (λ p ts at rest same.
        atom-fits xs ss e long values w here y ns p ts at rest (ap (is_sorted L (inside_out xs ss)) same ∙ sorted))
    formula-fits (node.Same a b) xs ss e w f h sorted long values here =
        joined Same (named_term sig xs a) (named_term sig xs b) f h (λ t u at rest same.
        sides-fit xs ss e long values w here a b t u at rest (ap (is_sorted L (inside_out xs ss)) same ∙ sorted))
    formula-fits (node.Differ a b) xs ss e w f h sorted long values here =
        joined Differ (named_term sig xs a) (named_term sig xs b) f h (λ t u at rest same.
        sides-fit xs ss e long values w here a b t u at rest (ap (is_sorted L (inside_out xs ss)) same ∙ sorted))
    formula-fits (NodeNot n) xs ss e w f h sorted long values here =
        mapped Not (named_form sig xs n) f h (λ g at same.
        formula-fits n xs ss e w g at (ap (is_sorted L (inside_out xs ss)) (sym (Not_is g) ∙ same) ∙ sorted) long values here)
    formula-fits (node.And' shape ns) xs ss e w f h sorted long values here =
        mapped And (named_nodes sig xs ns) f h (λ gs at same.
        formulas-fit ns xs ss e w gs at (sym (sorted_of_And L (inside_out xs ss) gs) ∙ ap (is_sorted L (inside_out xs ss)) same ∙ sorted) long values here)
    formula-fits (node.Or' shape ns) xs ss e w f h sorted long values here =
        mapped Or (named_nodes sig xs ns) f h (λ gs at same.
        formulas-fit ns xs ss e w gs at (sym (sorted_of_Or L (inside_out xs ss) gs) ∙ ap (is_sorted L (inside_out xs ss)) same ∙ sorted) long values here)
    formula-fits (NodePair op a b) xs ss e w f h sorted long values here =
        joined (Pair op) (named_form sig xs a) (named_form sig xs b) f h (λ g k at rest same.
        let parts : (is_sorted L (inside_out xs ss) g ≡ true) × (is_sorted L (inside_out xs ss) k ≡ true) = split _ _ (ap (is_sorted L (inside_out xs ss)) (sym (Pair_is op g k) ∙ same) ∙ sorted) in
        (formula-fits a xs ss e w g at parts.0 long values here, formula-fits b xs ss e w k rest parts.1 long values here))
    formula-fits (NodeQuant q k x n) xs ss e w f h sorted long values here =
        joined (Quant q x) (sort_name sig k) (named_form sig (xs ++ x ∷ []) n) f h (λ s g at rest same.
        mapped (λ (entry : SortEntry). entry.name) (slice_get sig.sorts k) s at (λ entry place name.
        let parts : (L.knows_sort s ≡ true) × (is_sorted L ((x, s) ∷ inside_out xs ss) g ≡ true) = split _ _ (ap (is_sorted L (inside_out xs ss)) (sym (Quant_is q x s g) ∙ same) ∙ sorted) in
        let body : is_sorted L (inside_out (xs ++ x ∷ []) (ss ++ s ∷ [])) g ≡ true = ap (λ b. is_sorted L b g) (inside_out-push xs ss x s long) ∙ parts.1 in
        let size : K.size s ≡ size_at view.sizes k = ap K.size (sym name) ∙ reads.size k entry place in (
          omega (arith, places.sorts, slice_get_within sig.sorts k entry place),
          λ a below. formula-fits n (xs ++ x ∷ []) (ss ++ s ∷ []) (e ++ a ∷ []) w g rest body (both-longer xs ss x s long) (InSorts-push K.size ss e s a values (omega (arith, below, size))) here,
        )))
    formula-fits (NodeModal m k n) xs ss e w f h sorted long values here =
        joined (Modal m) (index_name sig k) (named_form sig xs n) f h (λ j g at rest same.
        mapped (λ (entry : IndexEntry). entry.name) (slice_get sig.indexes k) j at (λ entry place name.
        let parts : (L.knows_index j ≡ true) × (is_sorted L (inside_out xs ss) g ≡ true) = split _ _ (ap (is_sorted L (inside_out xs ss)) (sym (Modal_is m j g) ∙ same) ∙ sorted) in (
          omega (arith, over.indexes, slice_get_within sig.indexes k entry place),
          λ v there. formula-fits n xs ss e v g rest parts.1 long values there,
        )))

    pub formulas-fit : {m : _} (ns : Row_of-Node m) (xs : List (List ℕ)) (ss : List SortName) (e : List ℕ) (w : ℕ) (fs : List Formula) → named_nodes sig xs ns ≡ Some fs → list_all (is_sorted L (inside_out xs ss)) fs ≡ true → length xs ≡ length ss → InSorts K.size ss e → w < view.worlds → AllFit view w e ns
    formulas-fit end_of-Node xs ss e w fs h sorted long values here = tt
    formulas-fit (more_of-Node n ns) xs ss e w fs h sorted long values here =
        joined (λ t us. t ∷ us) (named_form sig xs n) (named_nodes sig xs ns) fs h (λ g gs at rest same.
        let parts : (is_sorted L (inside_out xs ss) g ≡ true) × (list_all (is_sorted L (inside_out xs ss)) gs ≡ true) = split _ _ (ap (list_all (is_sorted L (inside_out xs ss))) same ∙ sorted) in
        (formula-fits n xs ss e w g at parts.0 long values here, formulas-fit ns xs ss e w gs rest parts.1 long values here))
