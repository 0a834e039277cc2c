-- What well-sorted terms and formulas say of their parts.
use Rattle.std.proofs.Common.{◌≡◌, ℕ, zero, suc, ◌<◌, Bool, true, false, List, [], ◌∷◌, ◌++◌, length, get_or, Option, None, Some, refl, sym, ap, ◌∙◌, arith}
use Rattle.std.specs.Prelude.{if◌then◌else◌, map, is_some}
use Rattle.std.specs.Option.{is_none}
use Rattle.std.specs.List.{list_all}
use Rattle.nxf_tree.specs.declared.tree.ClassicalSignature.{ClassicalSignature}
use Rattle.nxf_tree.specs.declared.tree.SortName.{SortName}
use Rattle.nxf_tree.specs.declared.tree.SortName.TheVariants.{User}
use Rattle.nxf_tree.specs.declared.tree.Quantifier.{Quantifier}
use Rattle.nxf_tree.specs.declared.tree.Op.{Op}
use Rattle.nxf_tree.specs.declared.tree.Mode.{Mode}
use Rattle.nxf_tree.specs.declared.tree.IndexName.{IndexName}
use Rattle.nxf_tree.specs.declared.tree.Term.{Term, Var, App}
use Rattle.nxf_tree.specs.declared.tree.Formula.{Formula, Atom, Same, Differ, Not, And, Or, Modal, Distinct}
use Rattle.nxf_tree.specs.Shapes.{Pair2, Quant1, Not_is, Modal_is}
use Rattle.nxf_tree.specs.Names.{same_text, actual_name, world_name}
use Rattle.nxf_tree.specs.Counting.{has}
use Rattle.nxf_tree.specs.Sorting.{SymbolType, fit, applied_sort, is_sort, is_atom, have_one_sort, sort_of, table_type_among, classical_language}
use Rattle.name_laws.proofs.SortedFormulas.{sort_of-App}
use Rattle.name_laws.proofs.Spelling.{true-false}
use Rattle.name_laws.proofs.Types.{split}
use Rattle.interpretation_definitions.specs.Context.{sort_number, symbol_number, symbols_of}
use Rattle.classical_evaluation_definitions.specs.ClassicalSorting.{is_classical}
use Rattle.classical_evaluation_laws.proofs.SatCases.{sorted_of_And, sorted_of_Or}
use Rattle.classical_numbering.specs.steps.Numbering.{HasSort, HaveSorts, IsSortedUnder, AreSortedUnder}
use Rattle.classical_numbering.proofs.LevelLemmas.{variable_bound}
use Rattle.classical_numbering.proofs.NameLemmas.{sort_known, symbol_known}

fits_known : (wanted : List SortName) (sorts : List (Option SortName)) → fit wanted sorts ≡ true → list_all is_some sorts ≡ true
fits_known [] [] h = refl
fits_known [] (o ∷ sorts) h = absurd cc
fits_known (s ∷ wanted) [] h = absurd cc
fits_known (s ∷ wanted) (None ∷ sorts) h = absurd cc
fits_known (s ∷ wanted) (Some r ∷ sorts) h = fits_known wanted sorts (split (is_sort s (Some r)) (fit wanted sorts) h).1

applied_known : (o : Option SymbolType) (sorts : List (Option SortName)) → is_some (applied_sort o sorts) ≡ true → (is_some o ≡ true) × (list_all is_some sorts ≡ true)
applied_known None sorts h = absurd cc
applied_known (Some type) sorts h = (refl, by (fit type.args sorts) refl h)
  where
    by : (b : Bool) → fit type.args sorts ≡ b → is_some (if b then type.gives else None) ≡ true → list_all is_some sorts ≡ true
    by true is k = fits_known type.args sorts is
    by false is k = absurd cc

atom_known : (o : Option SymbolType) (sorts : List (Option SortName)) → is_atom o sorts ≡ true → (is_some o ≡ true) × (list_all is_some sorts ≡ true)
atom_known None sorts h = absurd cc
atom_known (Some type) sorts h = (refl, fits_known type.args sorts (split (is_none type.gives) (fit type.args sorts) h).1)

sides_known : (o p : Option SortName) → have_one_sort o p ≡ true → (is_some o ≡ true) × (is_some p ≡ true)
sides_known None p h = absurd cc
sides_known (Some s) None h = absurd cc
sides_known (Some s) (Some r) h = (refl, refl)

sorts_at : {A : Type 0} (g : A → Option SortName) (xs : List A) (i : ℕ) (d : A) → i < length xs → list_all is_some (map g xs) ≡ true → is_some (g (get_or xs i d)) ≡ true
sorts_at g [] i d l h = absurd (omega (arith, l))
sorts_at g (x ∷ xs) zero d l h = (split (is_some (g x)) (list_all is_some (map g xs)) h).0
sorts_at g (x ∷ xs) (suc i) d l h = sorts_at g xs i d (omega (arith, l)) (split (is_some (g x)) (list_all is_some (map g xs)) h).1

all_at : {A : Type 0} (p : A → Bool) (xs : List A) (i : ℕ) (d : A) → i < length xs → list_all p xs ≡ true → p (get_or xs i d) ≡ true
all_at p [] i d l h = absurd (omega (arith, l))
all_at p (x ∷ xs) zero d l h = (split (p x) (list_all p xs) h).0
all_at p (x ∷ xs) (suc i) d l h = all_at p xs i d (omega (arith, l)) (split (p x) (list_all p xs) h).1

-- no predicate is `mk_actual`
not_actual : (csig : ClassicalSignature) (p : List ℕ) (sorts : List (Option SortName)) → is_atom ((classical_language csig).type_of p) sorts ≡ true → same_text actual_name p ≡ false
not_actual csig p sorts h = by (same_text actual_name p) h
  where
    by : (b : Bool) → is_atom (if b then Some (record { args = []; gives = Some (User world_name) }) else table_type_among csig.sorts csig.tables p) sorts ≡ true → b ≡ false
    by true k = absurd cc
    by false k = refl

module _ (csig : ClassicalSignature) (xs : List (List ℕ)) where
  pub bound_variable : (x : List ℕ) → HasSort csig xs (Var x) → has same_text x xs ≡ true
  bound_variable x h = ap (has same_text x) (sym h.variables) ∙ variable_bound h.bound x h.sort

  module _ (f : List ℕ) (ts : List Term) where
    applied : (h : HasSort csig xs (App f ts)) → (is_some ((classical_language csig).type_of f) ≡ true) × (list_all is_some (map (sort_of (classical_language csig) h.bound) ts) ≡ true)
    applied h = applied_known ((classical_language csig).type_of f) (map (sort_of (classical_language csig) h.bound) ts) (sym (ap is_some (sort_of-App (classical_language csig) h.bound f ts)) ∙ h.sort)

    pub function_known : HasSort csig xs (App f ts) → symbol_number (symbols_of csig) f ≡ None → ⊥
    function_known h none = symbol_known csig f (applied h).0 none

    pub function_arguments : HasSort csig xs (App f ts) → HaveSorts csig xs ts
    function_arguments h = record { bound = h.bound; variables = h.variables; sorts = (applied h).1 }

    pub predicate_known : IsSortedUnder csig xs (Atom f ts) → symbol_number (symbols_of csig) f ≡ None → ⊥
    predicate_known h none = symbol_known csig f (atom_known ((classical_language csig).type_of f) (map (sort_of (classical_language csig) h.bound) ts) h.sorted).0 none

    pub predicate_arguments : IsSortedUnder csig xs (Atom f ts) → HaveSorts csig xs ts
    predicate_arguments h = record { bound = h.bound; variables = h.variables; sorts = (atom_known ((classical_language csig).type_of f) (map (sort_of (classical_language csig) h.bound) ts) h.sorted).1 }

    pub predicate_apart : IsSortedUnder csig xs (Atom f ts) → same_text actual_name f ≡ false
    predicate_apart h = not_actual csig f (map (sort_of (classical_language csig) h.bound) ts) h.sorted

  pub distinct_arguments : (ts : List Term) → IsSortedUnder csig xs (Distinct ts) → HaveSorts csig xs ts
  distinct_arguments ts h = record { bound = h.bound; variables = h.variables; sorts = h.sorted }

  pub argument_at : (ts : List Term) (i : ℕ) (d : Term) → i < length ts → HaveSorts csig xs ts → HasSort csig xs (get_or ts i d)
  argument_at ts i d l h = record { bound = h.bound; variables = h.variables; sort = sorts_at (sort_of (classical_language csig) h.bound) ts i d l h.sorts }

  pub same_sides : (t u : Term) → IsSortedUnder csig xs (Same t u) → HasSort csig xs t × HasSort csig xs u
  same_sides t u h =
      let both = sides_known (sort_of (classical_language csig) h.bound t) (sort_of (classical_language csig) h.bound u) h.sorted in
      (record { bound = h.bound; variables = h.variables; sort = both.0 }, record { bound = h.bound; variables = h.variables; sort = both.1 })

  pub differ_sides : (t u : Term) → IsSortedUnder csig xs (Differ t u) → HasSort csig xs t × HasSort csig xs u
  differ_sides t u h =
      let both = sides_known (sort_of (classical_language csig) h.bound t) (sort_of (classical_language csig) h.bound u) h.sorted in
      (record { bound = h.bound; variables = h.variables; sort = both.0 }, record { bound = h.bound; variables = h.variables; sort = both.1 })

  pub not_part : (f : Formula) → IsSortedUnder csig xs (Not f) → IsSortedUnder csig xs f
  not_part f h = record { bound = h.bound; variables = h.variables; sorted = sym (ap (is_classical (classical_language csig) h.bound) (Not_is f)) ∙ h.sorted }

  pub no_modality : (m : Mode) (i : IndexName) (f : Formula) → IsSortedUnder csig xs (Modal m i f) → ⊥
  no_modality m i f h = true-false (sym (sym (ap (is_classical (classical_language csig) h.bound) (Modal_is m i f)) ∙ h.sorted))

  pub and_parts : (fs : List Formula) → IsSortedUnder csig xs (And fs) → AreSortedUnder csig xs fs
  and_parts fs h = record { bound = h.bound; variables = h.variables; sorted = sym (sorted_of_And (classical_language csig) h.bound fs) ∙ h.sorted }

  pub or_parts : (fs : List Formula) → IsSortedUnder csig xs (Or fs) → AreSortedUnder csig xs fs
  or_parts fs h = record { bound = h.bound; variables = h.variables; sorted = sym (sorted_of_Or (classical_language csig) h.bound fs) ∙ h.sorted }

  pub part_at : (fs : List Formula) (i : ℕ) (d : Formula) → i < length fs → AreSortedUnder csig xs fs → IsSortedUnder csig xs (get_or fs i d)
  part_at fs i d l h = record { bound = h.bound; variables = h.variables; sorted = all_at (is_classical (classical_language csig) h.bound) fs i d l h.sorted }

  pub pair_parts : (op : Op) (f g : Formula) → IsSortedUnder csig xs (Pair2 op f g) → IsSortedUnder csig xs f × IsSortedUnder csig xs g
  pair_parts op f g h =
      let both : (is_classical (classical_language csig) h.bound f ≡ true) × (is_classical (classical_language csig) h.bound g ≡ true) = split _ _ h.sorted in
      (record { bound = h.bound; variables = h.variables; sorted = both.0 }, record { bound = h.bound; variables = h.variables; sorted = both.1 })

  module _ (q : Quantifier) (x : List ℕ) (s : SortName) (f : Formula) (h : IsSortedUnder csig xs (Quant1 q x s f)) where
    abbrev both : ((classical_language csig).knows_sort s ≡ true) × (is_classical (classical_language csig) ((x, s) ∷ h.bound) f ≡ true)
    both = split _ _ h.sorted

    pub bound_sort_known : sort_number csig.sorts s ≡ None → ⊥
    bound_sort_known none = sort_known csig.sorts s both.0 none

    pub body_sorted : IsSortedUnder csig (xs ++ x ∷ []) f
    body_sorted = record { bound = (x, s) ∷ h.bound; variables = ap (λ l. l ++ x ∷ []) h.variables; sorted = both.1 }
