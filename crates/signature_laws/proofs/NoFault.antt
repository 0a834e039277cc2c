-- A formula without a fault is closed and well sorted.
use Rattle.std.proofs.Common.{◌≡◌, ℕ, Bool, true, false, List, [], ◌∷◌, ◌++◌, refl, sym, ap, ◌∙◌, arith}
use Rattle.std.specs.Prelude.{nat_eq, if◌then◌else◌, map, length, codes, Option, None, Some, is_some}
use Rattle.std.specs.Option.{option_or, option_map, is_none}
use Rattle.std.specs.List.{list_all}
use Rattle.std.proofs.lemmas.Bool.{eqb-true, and_parts, and_from}
use Rattle.std.proofs.lemmas.List.Folds.{list_all-append}
use Rattle.nxf_base.specs.declared.status.SortKind.TheVariants.{DoubleName, Mismatch}
use Rattle.nxf_tree.specs.declared.tree.SortName.{SortName}
use Rattle.nxf_tree.specs.declared.tree.SortName.TheVariants.{User}
use Rattle.nxf_tree.specs.declared.tree.IndexName.{IndexName}
use Rattle.nxf_tree.specs.declared.tree.Term.{Term}
use Rattle.nxf_tree.specs.declared.tree.Formula.{Formula, True, False, Atom, Same, Differ, And', Or', Distinct, Row_of-Formula, end_of-Formula, more_of-Formula}
use Rattle.nxf_tree.specs.Shapes.{Not1, Pair2, Quant1, Modal1}
use Rattle.nxf_tree.specs.Counting.{same_truth}
use Rattle.nxf_tree.specs.Sorting.{SymbolType, Language, Bound, is_sort, fit, is_atom, have_one_sort, sort_of, is_sorted, are_sorted}
use Rattle.nxf_tree.specs.Occurrences.{Use, Occurrence, indexes, occurrences, row_occurrences}
use Rattle.nxf_tree.specs.SignatureOf.{type_in}
use Rattle.nxf_tree.specs.SortFaults.{SortFault, unknown_sort, is_right_use, symbol_fault, argument_types, wrong_sort, term_fault, arguments_fault, equation_fault, formula_fault, formulas_fault}
use Rattle.name_laws.proofs.Spelling.{true-false}

pub some-none : {A : Type 0} (x : A) → Some x ≡ None → ⊥
some-none x e = cc

-- where neither of two faults is found, neither is there
pub or-none : {A : Type 0} (a b : Option A) → option_or a b ≡ None → (a ≡ None) × (b ≡ None)
or-none None b h = (refl, h)
or-none (Some x) b h = absurd (some-none x h)

pub map-none : {A B : Type 0} (f : A → B) (a : Option A) → option_map f a ≡ None → a ≡ None
map-none f None h = refl
map-none f (Some x) h = absurd (some-none (f x) h)

-- a test without a fault
pub test-passes : {A : Type 0} (b : Bool) (x : A) → (if b then None else Some x) ≡ None → b ≡ true
test-passes true x h = refl
test-passes false x h = absurd (some-none x h)

pub index-append : (os ps : List Occurrence) → indexes (os ++ ps) ≡ indexes os ++ indexes ps
index-append [] ps = refl
index-append (Occurrence.symbol u ∷ os) ps = index-append os ps
index-append (Occurrence.sort s ∷ os) ps = index-append os ps
index-append (Occurrence.index i ∷ os) ps = ap (λ l. i ∷ l) (index-append os ps)

module _ (L : Language) (us : List Use) where
  right-use : (f : List ℕ) (count : ℕ) (function : Bool) → symbol_fault L us f count function ≡ None → is_right_use (L.type_of f) count function ≡ true
  right-use f count function h = by (L.knows_sort (User f)) (is_right_use (L.type_of f) count function) (is_some (type_in us f)) (DoubleName, f) (Mismatch, f) h
    where
      by : (known right declared : Bool) (double mismatch : SortFault) → (if known then Some double else (if right then None else (if declared then Some mismatch else Some double))) ≡ None → right ≡ true
      by true right declared double mismatch h = absurd (some-none _ h)
      by false true declared double mismatch h = refl
      by false false true double mismatch h = absurd (some-none _ h)
      by false false false double mismatch h = absurd (some-none _ h)

  arguments-fit : (b : Bound) (f : List ℕ) (wanted : List SortName) (ts : List Term) → length wanted ≡ length ts → arguments_fault L us b f wanted ts ≡ None → fit wanted (map (sort_of L b) ts) ≡ true
  arguments-fit b f [] [] l h = refl
  arguments-fit b f [] (t ∷ ts) l h = absurd (some-none _ h)
  arguments-fit b f (s ∷ wanted) [] l h = absurd (omega (arith, l))
  arguments-fit b f (s ∷ wanted) (t ∷ ts) l h =
      let first : (term_fault L us b t ≡ None) × (option_or (wrong_sort f s (sort_of L b t)) (arguments_fault L us b f wanted ts) ≡ None) = or-none _ _ h in
      let rest : (wrong_sort f s (sort_of L b t) ≡ None) × (arguments_fault L us b f wanted ts ≡ None) = or-none _ _ first.1 in
      and_from _ _ (test-passes (is_sort s (sort_of L b t)) (Mismatch, f) rest.0) (arguments-fit b f wanted ts (omega (arith, l)) rest.1)

  atom-fits : (b : Bound) (p : List ℕ) (ts : List Term) (type : Option SymbolType) → is_right_use type (length ts) false ≡ true → arguments_fault L us b p (argument_types type) ts ≡ None → is_atom type (map (sort_of L b) ts) ≡ true
  atom-fits b p ts None r h = absurd (true-false (sym r))
  atom-fits b p ts (Some t) r h =
      let parts : (nat_eq (length t.args) (length ts) ≡ true) × (same_truth (is_some t.gives) false ≡ true) = and_parts _ _ r in
      and_from _ _ (no-value t.gives parts.1) (arguments-fit b p t.args ts (eqb-true _ _ parts.0) h)
    where
      no-value : (gives : Option SortName) → same_truth (is_some gives) false ≡ true → is_none gives ≡ true
      no-value None k = refl
      no-value (Some s) k = k

  equation-fits : (b : Bound) (t u : Term) → equation_fault L us b t u ≡ None → have_one_sort (sort_of L b t) (sort_of L b u) ≡ true
  equation-fits b t u h =
      let first : (term_fault L us b t ≡ None) × (option_or (term_fault L us b u) (if have_one_sort (sort_of L b t) (sort_of L b u) then None else Some (Mismatch, codes "=")) ≡ None) = or-none _ _ h in
      test-passes (have_one_sort (sort_of L b t) (sort_of L b u)) (Mismatch, codes "=") (or-none _ _ first.1).1

  abbrev known : List IndexName → Bool
  known is = list_all L.knows_index is

  known-parts : (os ps : List Occurrence) → known (indexes (os ++ ps)) ≡ true → (known (indexes os) ≡ true) × (known (indexes ps) ≡ true)
  known-parts os ps h = and_parts _ _ (sym (ap known (index-append os ps) ∙ list_all-append L.knows_index (indexes os) (indexes ps)) ∙ h)

  mutual
    pub no-fault : (f : Formula) (b : Bound) → formula_fault L us b f ≡ None → known (indexes (occurrences f)) ≡ true → is_sorted L b f ≡ true
    no-fault True b h k = refl
    no-fault False b h k = refl
    no-fault (Atom p ts) b h k = let parts : (symbol_fault L us p (length ts) false ≡ None) × (arguments_fault L us b p (argument_types (L.type_of p)) ts ≡ None) = or-none _ _ h in
        atom-fits b p ts (L.type_of p) (right-use p (length ts) false parts.0) parts.1
    no-fault (Same t u) b h k = equation-fits b t u h
    no-fault (Differ t u) b h k = equation-fits b t u h
    no-fault (Not1 f) b h k = no-fault f b h k
    no-fault (And' shape fs) b h k = no-faults fs b h k
    no-fault (Or' shape fs) b h k = no-faults fs b h k
    no-fault (Pair2 op f g) b h k =
        let parts : (formula_fault L us b f ≡ None) × (formula_fault L us b g ≡ None) = or-none _ _ h in
        let ks : (known (indexes (occurrences f)) ≡ true) × (known (indexes (occurrences g)) ≡ true) = known-parts (occurrences f) (occurrences g) k in
        and_from _ _ (no-fault f b parts.0 ks.0) (no-fault g b parts.1 ks.1)
    no-fault (Quant1 q x s f) b h k =
        let parts : (unknown_sort L s ≡ None) × (formula_fault L us ((x, s) ∷ b) f ≡ None) = or-none _ _ h in
        and_from _ _ (test-passes (L.knows_sort s) _ parts.0) (no-fault f ((x, s) ∷ b) parts.1 k)
    no-fault (Modal1 m i f) b h k =
        let ks : (L.knows_index i ≡ true) × (known (indexes (occurrences f)) ≡ true) = and_parts _ _ k in
        and_from _ _ ks.0 (no-fault f b h ks.1)
    no-fault (Distinct ts) b h k = absurd (some-none _ h)

    pub no-faults : {m : _} (fs : Row_of-Formula m) (b : Bound) → formulas_fault L us b fs ≡ None → known (indexes (row_occurrences fs)) ≡ true → are_sorted L b fs ≡ true
    no-faults end_of-Formula b h k = refl
    no-faults (more_of-Formula f fs) b h k =
        let parts : (formula_fault L us b f ≡ None) × (formulas_fault L us b fs ≡ None) = or-none _ _ h in
        let ks : (known (indexes (occurrences f)) ≡ true) × (known (indexes (row_occurrences fs)) ≡ true) = known-parts (occurrences f) (row_occurrences fs) k in
        and_from _ _ (no-fault f b parts.0 ks.0) (no-faults fs b parts.1 ks.1)
