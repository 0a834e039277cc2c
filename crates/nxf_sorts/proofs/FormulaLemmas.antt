-- Formulas with numbers: their named forms and faults.
use Rattle.std.proofs.Common.{◌≡◌, ℕ, Bool, true, false, List, [], ◌∷◌, ◌++◌, ◌<◌, length, get_or, Option, None, Some, refl, sym, ap, ◌∙◌, arith}
use Rattle.std.specs.Prelude.{zero, suc, ◌||◌, map, flat_map, slice_get, if◌then◌else◌, is_some}
use Rattle.std.specs.Option.{option_map, option_or}
use Rattle.std.specs.List.{list_all}
use Rattle.std.proofs.lemmas.Bool.{and_parts}
use Rattle.std.proofs.lemmas.List.Folds.{list_all-append}
use Rattle.nxf_base.specs.declared.status.SortKind.TheVariants.{UnknownSort}
use Rattle.nxf_tree.specs.declared.tree.Signature.{Signature}
use Rattle.nxf_tree.specs.declared.tree.SortEntry.{SortEntry}
use Rattle.nxf_tree.specs.declared.tree.IndexEntry.{IndexEntry}
use Rattle.nxf_tree.specs.declared.tree.SortName.{SortName}
use Rattle.nxf_tree.specs.declared.tree.IndexName.{IndexName}
use Rattle.nxf_tree.specs.declared.tree.Quantifier.{Quantifier}
use Rattle.nxf_tree.specs.declared.tree.Mode.{Mode}
use Rattle.nxf_tree.specs.declared.tree.Op.{Op}
use Rattle.nxf_tree.specs.declared.tree.Term.{Term}
use Rattle.nxf_tree.specs.declared.tree.Formula.{Formula, Atom, Same, Differ, Not, And, Or, Pair, Quant, Modal, Row_of-Formula, end_of-Formula, more_of-Formula}
use Rattle.nxf_tree.specs.declared.tree.Formula.TheBlock.{hidden-the_row-Formula-1, items-the_row-Formula, items_hidden-the_row-Formula-1}
use Rattle.nxf_tree.specs.Shapes.{Pair2, Quant1, Modal1, Not_is, Pair_is, Quant_is, Modal_is}
use Rattle.nxf_tree.specs.Counting.{has}
use Rattle.nxf_tree.specs.Signature.{same_sort, same_index, sort_at, sort_names, index_names}
use Rattle.nxf_tree.specs.Sorting.{Language, Bound, modal_language, in_range}
use Rattle.nxf_tree.specs.Occurrences.{Use, indexes, occurrences}
use Rattle.nxf_tree.specs.SortFaults.{sort_text, unknown_sort, symbol_fault, argument_types, arguments_fault, formula_fault, formulas_fault}
use Rattle.name_laws.proofs.Apart.{sort-true, index-true}
use Rattle.signature_laws.proofs.NoFault.{index-append}
use Rattle.name_laws.proofs.SameNames.{same_sort-sym}
use Rattle.nxf_signatures.specs.Places.{place}
use Rattle.nxf_signatures.proofs.CallerLemmas.{of_And, of_Or}
use Rattle.nxf_sorts.specs.declared.fault.Fault.{Fault}
use Rattle.numbered_definitions.specs.declared.node.NTerm.{NTerm}
use Rattle.numbered_definitions.specs.declared.node.Node.{Node, Row_of-Node, end_of-Node, more_of-Node}
use Rattle.numbered_definitions.specs.declared.node.Node as node
use Rattle.numbered_definitions.specs.declared.node.Node.TheBlock.{hidden-the_row-Node-1, items-the_row-Node, items_hidden-the_row-Node-1}
use Rattle.numbered_definitions.specs.NamedForm.{NodeNot, NodePair, NodeQuant, NodeModal, both, index_name, named_form, named_nodes, named_forms}
use Rattle.nxf_sorts.specs.steps.Scope.{Scope, variables, bound_in}
use Rattle.nxf_sorts.specs.steps.Numbering.{IsFault, Uses, NumbersTerms, NumbersSides, NumbersFormula, NumbersFormulas, formulas_faults, KnowsIndexes, KnowsAllIndexes, FindsNumber}
use Rattle.nxf_sorts.proofs.TermLemmas.{none_push, both_push}
use Rattle.nxf_sorts.proofs.UseLemmas.{fault_first, fault_then, fault_is}

-- the numbers of sorts and indexes
module _ {A : Type 0} (same : A → A → Bool) (turned : (x y : A) → same x y ≡ same y x) where
  pub place_none : (x : A) (xs : List A) → place (same x) xs ≡ None → has same x xs ≡ false
  place_none x [] h = refl
  place_none x (y ∷ xs) h = ap (λ b. b || has same x xs) (turned y x) ∙ by (same x y) (place (same x) xs) (place_none x xs) h
    where
      by : (b : Bool) (o : Option ℕ) → (o ≡ None → has same x xs ≡ false) → (if b then Some 0 else option_map suc o) ≡ None → b || has same x xs ≡ false
      by true o next k = absurd cc
      by false None next k = next refl
      by false (Some j) next k = absurd cc

  pub place_some : (x : A) (xs : List A) → has same x xs ≡ true → is_some (place (same x) xs) ≡ true
  place_some x [] h = absurd cc
  place_some x (y ∷ xs) h = by (same x y) (place (same x) xs) (place_some x xs) (sym (ap (λ b. b || has same x xs) (turned y x)) ∙ h)
    where
      by : (b : Bool) (o : Option ℕ) → (has same x xs ≡ true → is_some o ≡ true) → b || has same x xs ≡ true → is_some (if b then Some 0 else option_map suc o) ≡ true
      by true o next k = refl
      by false None next k = next k
      by false (Some j) next k = refl

-- the entry at the number of its name
sort_found : (entries : List SortEntry) (s : SortName) (k : ℕ) → place (same_sort s) (sort_names entries) ≡ Some k → (has same_sort s (sort_names entries) ≡ true) × (option_map (λ (e : SortEntry). e.name) (slice_get entries k) ≡ Some s) × (sort_at entries k ≡ s) × (in_range entries k ≡ true)
sort_found [] s k h = absurd cc
sort_found (e ∷ entries) s k h = by (same_sort s e.name) refl (place (same_sort s) (sort_names entries)) k (sort_found entries s) h
  where
    by : (b : Bool) → same_sort s e.name ≡ b → (o : Option ℕ) (k : ℕ) → ((j : ℕ) → o ≡ Some j → (has same_sort s (sort_names entries) ≡ true) × (option_map (λ (x : SortEntry). x.name) (slice_get entries j) ≡ Some s) × (sort_at entries j ≡ s) × (in_range entries j ≡ true))
        → (if b then Some 0 else option_map suc o) ≡ Some k → (has same_sort s (sort_names (e ∷ entries)) ≡ true) × (option_map (λ (x : SortEntry). x.name) (slice_get (e ∷ entries) k) ≡ Some s) × (sort_at (e ∷ entries) k ≡ s) × (in_range (e ∷ entries) k ≡ true)
    by true is o zero next g = let own : e.name ≡ s = sym (sort-true s e.name is) in (ap (λ b. b || has same_sort s (sort_names entries)) (same_sort-sym e.name s ∙ is), ap Some own, own, refl)
    by true is o (suc k) next g = absurd cc
    by false is None k next g = absurd cc
    by false is (Some j) zero next g = absurd cc
    by false is (Some j) (suc k) next g =
        let same : j ≡ k = cc in
        let rest : (has same_sort s (sort_names entries) ≡ true) × (option_map (λ (x : SortEntry). x.name) (slice_get entries k) ≡ Some s) × (sort_at entries k ≡ s) × (in_range entries k ≡ true) = next k (ap Some same) in
        (ap (λ b. b || has same_sort s (sort_names entries)) (same_sort-sym e.name s ∙ is) ∙ rest.0, rest.1, rest.2, rest.3)

pub finds : (sig : Signature) (s : SortName) (k : ℕ) → place (same_sort s) (sort_names sig.sorts) ≡ Some k → FindsNumber sig s k
finds sig s k h = let all = sort_found sig.sorts s k h in record { known = all.0; name = all.1; at = all.2; range = all.3 }

pub index_found : (entries : List IndexEntry) (i : IndexName) (k : ℕ) → place (same_index i) (index_names entries) ≡ Some k → option_map (λ (e : IndexEntry). e.name) (slice_get entries k) ≡ Some i
index_found [] i k h = absurd cc
index_found (e ∷ entries) i k h = by (same_index i e.name) refl (place (same_index i) (index_names entries)) k (index_found entries i) h
  where
    by : (b : Bool) → same_index i e.name ≡ b → (o : Option ℕ) (k : ℕ) → ((j : ℕ) → o ≡ Some j → option_map (λ (x : IndexEntry). x.name) (slice_get entries j) ≡ Some i)
        → (if b then Some 0 else option_map suc o) ≡ Some k → option_map (λ (x : IndexEntry). x.name) (slice_get (e ∷ entries) k) ≡ Some i
    by true is o zero next g = ap Some (sym (index-true i e.name is))
    by true is o (suc k) next g = absurd cc
    by false is None k next g = absurd cc
    by false is (Some j) zero next g = absurd cc
    by false is (Some j) (suc k) next g = let same : j ≡ k = cc in next k (ap Some same)

-- nodes that hold nodes
nodes_named : (sig : Signature) (xs : List (List ℕ)) {m : _} (ns : Row_of-Node m) → named_nodes sig xs ns ≡ named_forms sig xs (items-the_row-Node _ ns)
nodes_named sig xs end_of-Node = refl
nodes_named sig xs (more_of-Node n ns) = ap (both (λ f fs. f ∷ fs) (named_form sig xs n)) (nodes_named sig xs ns)

module _ (sig : Signature) (xs : List (List ℕ)) where
  named_And : (ns : List Node) → named_form sig xs (node.And ns) ≡ option_map And (named_forms sig xs ns)
  named_And ns = ap (option_map And) (nodes_named sig xs (hidden-the_row-Node-1 ns) ∙ ap (named_forms sig xs) (items_hidden-the_row-Node-1 ns))

  named_Or : (ns : List Node) → named_form sig xs (node.Or ns) ≡ option_map Or (named_forms sig xs ns)
  named_Or ns = ap (option_map Or) (nodes_named sig xs (hidden-the_row-Node-1 ns) ∙ ap (named_forms sig xs) (items_hidden-the_row-Node-1 ns))

-- the indexes of the parts are known
module _ (sig : Signature) where
  abbrev known_in : List IndexName → Bool
  known_in = list_all (modal_language sig).knows_index

  known_list : (fs : List Formula) → known_in (indexes (flat_map occurrences fs)) ≡ true → KnowsAllIndexes sig fs
  known_list [] h = tt
  known_list (f ∷ fs) h =
      let parts : (known_in (indexes (occurrences f)) ≡ true) × (known_in (indexes (flat_map occurrences fs)) ≡ true) =
      and_parts _ _ (sym (ap known_in (index-append (occurrences f) (flat_map occurrences fs)) ∙ list_all-append (modal_language sig).knows_index (indexes (occurrences f)) (indexes (flat_map occurrences fs))) ∙ h) in
      (parts.0, known_list fs parts.1)

  pub knows_Not : (f : Formula) → KnowsIndexes sig (Not f) → KnowsIndexes sig f
  knows_Not f h = sym (ap (λ g. known_in (indexes (occurrences g))) (Not_is f)) ∙ h

  pub knows_And : (fs : List Formula) → KnowsIndexes sig (And fs) → KnowsAllIndexes sig fs
  knows_And fs h = known_list fs (sym (ap (λ os. known_in (indexes os)) (of_And fs)) ∙ h)

  pub knows_Or : (fs : List Formula) → KnowsIndexes sig (Or fs) → KnowsAllIndexes sig fs
  knows_Or fs h = known_list fs (sym (ap (λ os. known_in (indexes os)) (of_Or fs)) ∙ h)

  knows_parts : (f g : Formula) → known_in (indexes (occurrences f ++ occurrences g)) ≡ true → KnowsIndexes sig f × KnowsIndexes sig g
  knows_parts f g h = and_parts _ _ (sym (ap known_in (index-append (occurrences f) (occurrences g)) ∙ list_all-append (modal_language sig).knows_index (indexes (occurrences f)) (indexes (occurrences g))) ∙ h)

  pub knows_member : (fs : List Formula) (i : ℕ) (d : Formula) → i < length fs → KnowsAllIndexes sig fs → KnowsIndexes sig (get_or fs i d)
  knows_member [] i d lt h = absurd (omega (arith, lt))
  knows_member (f ∷ fs) zero d lt h = h.0
  knows_member (f ∷ fs) (suc i) d lt h = knows_member fs i d (omega (arith, lt)) h.1

-- formulas that hold formulas
rows_faults : (sig : Signature) (us : List Use) (bs : Scope) {m : _} (fs : Row_of-Formula m) → formulas_fault (modal_language sig) us (bound_in sig bs) fs ≡ formulas_faults sig us bs (items-the_row-Formula _ fs)
rows_faults sig us bs end_of-Formula = refl
rows_faults sig us bs (more_of-Formula f fs) = ap (option_or (formula_fault (modal_language sig) us (bound_in sig bs) f)) (rows_faults sig us bs fs)

module _ (sig : Signature) (us : List Use) (bs : Scope) where
  abbrev L : Language
  L = modal_language sig

  abbrev B : Bound
  B = bound_in sig bs

  pub fault_Not : (f : Formula) → formula_fault L us B (Not f) ≡ formula_fault L us B f
  fault_Not f = ap (formula_fault L us B) (Not_is f)

  pub fault_And : (fs : List Formula) → formula_fault L us B (And fs) ≡ formulas_faults sig us bs fs
  fault_And fs = rows_faults sig us bs (hidden-the_row-Formula-1 fs) ∙ ap (formulas_faults sig us bs) (items_hidden-the_row-Formula-1 fs)

  pub fault_Or : (fs : List Formula) → formula_fault L us B (Or fs) ≡ formulas_faults sig us bs fs
  fault_Or fs = rows_faults sig us bs (hidden-the_row-Formula-1 fs) ∙ ap (formulas_faults sig us bs) (items_hidden-the_row-Formula-1 fs)

  pub not_numbered : (f : Formula) (n : Node) → NumbersFormula sig us bs f n → NumbersFormula sig us bs (Not f) (NodeNot n)
  not_numbered f n h = record { no_fault = fault_Not f ∙ h.no_fault; named = λ k. ap (option_map Not) (h.named (knows_Not sig f k)) }

  pub and_numbered : (fs : List Formula) (ns : List Node) → NumbersFormulas sig us bs fs ns → NumbersFormula sig us bs (And fs) (node.And ns)
  and_numbered fs ns h = record { no_fault = fault_And fs ∙ h.no_fault; named = λ k. named_And sig (variables bs) ns ∙ ap (option_map And) (h.named (knows_And sig fs k)) }

  pub or_numbered : (fs : List Formula) (ns : List Node) → NumbersFormulas sig us bs fs ns → NumbersFormula sig us bs (Or fs) (node.Or ns)
  or_numbered fs ns h = record { no_fault = fault_Or fs ∙ h.no_fault; named = λ k. named_Or sig (variables bs) ns ∙ ap (option_map Or) (h.named (knows_Or sig fs k)) }

  pub pair_numbered : (op : Op) (f g : Formula) (a b : Node) → NumbersFormula sig us bs f a → NumbersFormula sig us bs g b → NumbersFormula sig us bs (Pair2 op f g) (NodePair op a b)
  pair_numbered op f g a b h k = record {
    no_fault = λ i. option_or (h.no_fault i) (k.no_fault i);
    named = λ all. let parts : KnowsIndexes sig f × KnowsIndexes sig g = knows_parts sig f g all in (λ i. both (Pair op) (h.named parts.0 i) (k.named parts.1 i)) ∙ ap Some (Pair_is op f g);
  }

  pub pair_first : (op : Op) (f g : Formula) (e : Fault) → IsFault (formula_fault L us B f) e → IsFault (formula_fault L us B (Pair2 op f g)) e
  pair_first op f g e h = fault_first _ _ e h

  pub pair_second : (op : Op) (f g : Formula) (a : Node) (e : Fault) → NumbersFormula sig us bs f a → IsFault (formula_fault L us B g) e → IsFault (formula_fault L us B (Pair2 op f g)) e
  pair_second op f g a e h k = fault_then _ _ e h.no_fault k

  module _ (q : Quantifier) (x : List ℕ) (s : SortName) (f : Formula) (k : ℕ) (found : FindsNumber sig s k) where
    under : formula_fault L us (bound_in sig ((x, k) ∷ bs)) f ≡ formula_fault L us ((x, s) ∷ B) f
    under = ap (λ r. formula_fault L us ((x, r) ∷ B) f) found.at

    known : unknown_sort L s ≡ None
    known = ap (λ b. if b then None else Some (UnknownSort, sort_text s)) found.known

    pub quantified_refused : (e : Fault) → IsFault (formula_fault L us (bound_in sig ((x, k) ∷ bs)) f) e → IsFault (formula_fault L us B (Quant1 q x s f)) e
    quantified_refused e h = fault_then _ _ e known (fault_is _ _ e (sym under) h)

    pub quantified_numbered : (n : Node) → NumbersFormula sig us ((x, k) ∷ bs) f n → NumbersFormula sig us bs (Quant1 q x s f) (NodeQuant q k x n)
    quantified_numbered n h = record {
      no_fault = (λ i. option_or (known i) (formula_fault L us ((x, s) ∷ B) f)) ∙ sym under ∙ h.no_fault;
      named = λ all. (λ i. both (Quant q x) (found.name i) (h.named all i)) ∙ ap Some (Quant_is q x s f);
    }

  pub modal_numbered : (m : Mode) (i : IndexName) (f : Formula) (k : ℕ) (n : Node) → (L.knows_index i ≡ true → index_name sig k ≡ Some i) → NumbersFormula sig us bs f n → NumbersFormula sig us bs (Modal1 m i f) (NodeModal m k n)
  modal_numbered m i f k n at h = record {
    no_fault = h.no_fault;
    named = λ all. let parts : (L.knows_index i ≡ true) × KnowsIndexes sig f = and_parts _ _ all in (λ j. both (Modal m) (at parts.0 j) (h.named parts.1 j)) ∙ ap Some (Modal_is m i f);
  }

  pub same_numbered : (t u : Term) (a b : NTerm) → NumbersSides sig us bs t u a b → NumbersFormula sig us bs (Same t u) (node.Same a b)
  same_numbered t u a b h = record { no_fault = h.no_fault; named = λ all i. both Same (h.left i) (h.right i) }

  pub differ_numbered : (t u : Term) (a b : NTerm) → NumbersSides sig us bs t u a b → NumbersFormula sig us bs (Differ t u) (node.Differ a b)
  differ_numbered t u a b h = record { no_fault = h.no_fault; named = λ all i. both Differ (h.left i) (h.right i) }

  -- an atom
  module _ (p : List ℕ) (ts : List Term) where
    pub predicate_refused : (e : Fault) → IsFault (symbol_fault L us p (length ts) false) e → IsFault (formula_fault L us B (Atom p ts)) e
    predicate_refused e h = fault_first _ _ e h

    module _ (k : ℕ) (args : List ℕ) (uses : Uses sig us p (length ts) None k args) where
      of_args : formula_fault L us B (Atom p ts) ≡ arguments_fault L us B p (map (sort_at sig.sorts) args) ts
      of_args = λ i. option_or (uses.no_fault i) (arguments_fault L us B p (argument_types (uses.type i)) ts)

      pub terms_refused : (e : Fault) → IsFault (arguments_fault L us B p (map (sort_at sig.sorts) args) ts) e → IsFault (formula_fault L us B (Atom p ts)) e
      terms_refused e h = fault_is _ _ e of_args h

      pub atom_numbered : (ns : List NTerm) → NumbersTerms sig us bs p (map (sort_at sig.sorts) args) ts ns → NumbersFormula sig us bs (Atom p ts) (node.Atom k ns)
      atom_numbered ns h = record { no_fault = of_args ∙ h.no_fault; named = λ all i. both Atom (uses.name i) (h.named i) }

-- one more formula of a list
pub forms_push : (sig : Signature) (xs : List (List ℕ)) (ns : List Node) (fs : List Formula) (n : Node) (f : Formula) → named_forms sig xs ns ≡ Some fs → named_form sig xs n ≡ Some f → named_forms sig xs (ns ++ n ∷ []) ≡ Some (fs ++ f ∷ [])
forms_push sig xs [] fs n f h k = none_push f fs (named_form sig xs n) h k
forms_push sig xs (m ∷ ns) fs n f h k = both_push f fs (named_form sig xs m) (named_forms sig xs ns) (named_forms sig xs (ns ++ n ∷ [])) (λ us e. forms_push sig xs ns us n f e k) h
