-- The added axioms of a well-formed signature are regular, and need few levels.
use Rattle.std.proofs.Common.{◌≡◌, ℕ, zero, suc, ◌+◌, ◌*◌, ◌≤◌, Bool, true, false, cond, ◌&&◌, List, [], ◌∷◌, ◌++◌, length, map, Option, Some, None, refl, ap, ◌∙◌, arith}
use Rattle.std.specs.Prelude.{nat_le}
use Rattle.std.specs.List.{list_all, AllByRecursion}
use Rattle.std.proofs.lemmas.Bool.{and_parts, and_from, le-leb}
use Rattle.nxf_tree.specs.Profiles.{Allowed}
use Rattle.nxf_base.specs.Bytes.{is_printable_text}
use Rattle.nxf_tree.specs.declared.tree.Signature.{Signature}
use Rattle.nxf_tree.specs.declared.tree.SortEntry.{SortEntry}
use Rattle.nxf_tree.specs.declared.tree.SymbolEntry.{SymbolEntry}
use Rattle.nxf_tree.specs.declared.tree.IndexEntry.{IndexEntry}
use Rattle.nxf_tree.specs.declared.tree.IndexName.{IndexName}
use Rattle.nxf_tree.specs.declared.tree.SortName.{SortName}
use Rattle.nxf_tree.specs.declared.tree.SortName.TheVariants.{User}
use Rattle.nxf_tree.specs.declared.tree.Locality.{Locality}
use Rattle.nxf_tree.specs.declared.tree.Locality.TheVariants.{Local, Global}
use Rattle.nxf_tree.specs.declared.tree.Regime.{Regime}
use Rattle.nxf_tree.specs.declared.tree.Regime.TheVariants.{Constant, Cumulative, Decreasing, Varying}
use Rattle.nxf_tree.specs.declared.tree.Scheme.{Scheme}
use Rattle.nxf_tree.specs.declared.tree.Scheme.TheVariants.{T, D, B, Four, Five, CD, BoxM, C4, C, U}
use Rattle.nxf_tree.specs.declared.tree.Quantifier.{Quantifier}
use Rattle.nxf_tree.specs.declared.tree.Quantifier.TheVariants.{All, Exists}
use Rattle.nxf_tree.specs.declared.tree.Op.TheVariants.{Implies}
use Rattle.nxf_tree.specs.declared.tree.Term.{Term, Var, App}
use Rattle.nxf_tree.specs.declared.tree.Formula.{Formula, Atom, Same, And}
use Rattle.nxf_tree.specs.Shapes.{And2, Pair2, Quant1}
use Rattle.nxf_tree.specs.Text.{has_brackets}
use Rattle.nxf_tree.specs.Names.{user_name, user_sort, world_variable, element_variable, world_name, relation_name, existence_name}
use Rattle.nxf_tree.specs.Signature.{is_constant, is_flexible, sort_at, sort_names, symbol_names, index_names}
use Rattle.nxf_tree.specs.WellFormed.{is_name, is_sort_name, is_index_name}
use Rattle.nxf_tree.specs.Embedding.{at_world}
use Rattle.nxf_tree.specs.Conditions.{local_result, argument_sorts}
use Rattle.nxf_tree.specs.Axioms.{world, element, for_each_world, for_some_world, for_each_element, for_some_element, reaches, exists_at, frame_axiom, frame_axioms, someone_axiom, everyone_axiom, stay_axiom, were_there_axiom, monotone_axioms, domain_axioms_of, domain_axioms, elements_from, for_each_row, row_guards, under_guards, value_is_there, term_axiom, result_axioms, term_axioms_of, term_axioms, added_axioms}
use Rattle.nxf_tree.specs.RegularFormulas.{is_regular_sort, is_regular_index, is_regular_term, is_regular_list, is_regular_formula, is_regular_formula_list}
use Rattle.syntax_definitions.proofs.CallerLemmas.{regular_App, regular_And, levels_of_App, levels_of_And}
use Rattle.nxf_tree.specs.Regular.{is_regular_result}
use Rattle.syntax_definitions.specs.Levels.{term_levels, list_levels, with_brackets, formula_levels, unit_list_levels}
use Rattle.printed_problem_laws.proofs.PrintedNames.{printable_user_name, regular_user_sort, world_variable_is, element_variable_is, printable_world, printable_relation, printable_existence, printable_name, regular_sort_name, regular_index_name}
use Rattle.printed_problem_laws.proofs.PrintedFormulas.{named_list, regular_pair}

-- regular, and with so many levels at most
pub record IsFine (m : Allowed) (n : ℕ) (f : Formula) : Type 0 where
  pub regular : is_regular_formula m f ≡ true
  pub low : formula_levels f ≤ n

pub all_append : {X : Type 0} (P : X → Type 0) (xs ys : List X) → AllByRecursion P xs → AllByRecursion P ys → AllByRecursion P (xs ++ ys)
all_append P [] ys h k = k
all_append P (x ∷ xs) ys h k = (h.0, all_append P xs ys h.1 k)

bracket_level : (b : Bool) (n : ℕ) → with_brackets b n ≤ suc n
bracket_level true n = omega arith
bracket_level false n = omega arith

module _ (m : Allowed) (two : 2 ≤ m.arguments) where
  loosely : {f : Formula} (j k : ℕ) → j ≤ k → IsFine m j f → IsFine m k f
  loosely j k less h = record { regular = h.regular; low = omega (arith, less, h.low) }

  atom_fine : (n : ℕ) (p : List ℕ) (x y : List ℕ) → is_printable_text p ≡ true → is_regular_term m (Var x) ≡ true → is_regular_term m (Var y) ≡ true → IsFine m (suc n) (Atom p (Var x ∷ Var y ∷ []))
  atom_fine n p x y name a b = record { regular = named_list m p (Var x ∷ Var y ∷ []) name two (regular_pair m (Var x) (Var y) a b); low = omega arith }

  both_fine : {n : ℕ} (f g : Formula) → IsFine m n f → IsFine m n g → IsFine m (suc n) (And2 f g)
  both_fine f g a b = record {
    regular = and_from (is_regular_formula m f) (is_regular_formula m g && true) a.regular (and_from (is_regular_formula m g) true b.regular refl);
    low = omega (arith, bracket_level (has_brackets f) (formula_levels f), bracket_level (has_brackets g) (formula_levels g), a.low, b.low);
  }

  implies_fine : {n : ℕ} (f g : Formula) → IsFine m n f → IsFine m n g → IsFine m (suc n) (Pair2 Implies f g)
  implies_fine f g a b = record {
    regular = and_from (is_regular_formula m f) (is_regular_formula m g) a.regular b.regular;
    low = omega (arith, bracket_level (has_brackets f) (formula_levels f), bracket_level (has_brackets g) (formula_levels g), a.low, b.low);
  }

  quantified_fine : {n : ℕ} (q : Quantifier) (x : List ℕ) (s : SortName) (f : Formula) → is_regular_term m (Var x) ≡ true → is_regular_sort s ≡ true → IsFine m n f → IsFine m (suc (suc n)) (Quant1 q x s f)
  quantified_fine q x s f v sorted h = record {
    regular = and_from (is_regular_term m (Var x)) (is_regular_sort s && is_regular_formula m f) v (and_from (is_regular_sort s) (is_regular_formula m f) sorted h.regular);
    low = omega (arith, bracket_level (has_brackets f) (formula_levels f), h.low);
  }

  each_world : {n : ℕ} (k : ℕ) (f : Formula) → IsFine m n f → IsFine m (suc (suc n)) (for_each_world k f)
  each_world k f h = quantified_fine All (world_variable k) (User world_name) f (world_variable_is k) printable_world h

  some_world : {n : ℕ} (k : ℕ) (f : Formula) → IsFine m n f → IsFine m (suc (suc n)) (for_some_world k f)
  some_world k f h = quantified_fine Exists (world_variable k) (User world_name) f (world_variable_is k) printable_world h

  each_element : {n : ℕ} (k : ℕ) (s : SortName) (f : Formula) → is_regular_sort s ≡ true → IsFine m n f → IsFine m (suc (suc n)) (for_each_element k s f)
  each_element k s f sorted h = quantified_fine All (element_variable k) (user_sort s) f (element_variable_is k) (regular_user_sort s sorted) h

  some_element : {n : ℕ} (k : ℕ) (s : SortName) (f : Formula) → is_regular_sort s ≡ true → IsFine m n f → IsFine m (suc (suc n)) (for_some_element k s f)
  some_element k s f sorted h = quantified_fine Exists (element_variable k) (user_sort s) f (element_variable_is k) (regular_user_sort s sorted) h

  -- ---- frames

  module _ (i : IndexName) (named : is_regular_index i ≡ true) where
    step : (n k l : ℕ) → IsFine m (suc n) (reaches i k l)
    step n k l = atom_fine n (relation_name i) (world_variable k) (world_variable l) (printable_relation i named) (world_variable_is k) (world_variable_is l)

    equal_worlds : (n k l : ℕ) → IsFine m n (Same (world k) (world l))
    equal_worlds n k l = record { regular = and_from (is_regular_term m (world k)) (is_regular_term m (world l)) (world_variable_is k) (world_variable_is l); low = omega arith }

    steps : (n k l o p : ℕ) → IsFine m (suc (suc n)) (And2 (reaches i k l) (reaches i o p))
    steps n k l o p = both_fine (reaches i k l) (reaches i o p) (step n k l) (step n o p)

    frame_by : (scheme : Scheme) → IsFine m 13 (frame_axiom i scheme)
    frame_by T = loosely 3 13 (omega arith) (each_world 0 _ (step 0 0 0))
    frame_by D = loosely 5 13 (omega arith) (each_world 0 _ (some_world 1 _ (step 0 0 1)))
    frame_by B = loosely 6 13 (omega arith) (each_world 0 _ (each_world 1 _ (implies_fine (reaches i 0 1) (reaches i 1 0) (step 0 0 1) (step 0 1 0))))
    frame_by Four = loosely 9 13 (omega arith) (each_world 0 _ (each_world 1 _ (each_world 2 _ (implies_fine (And2 (reaches i 0 1) (reaches i 1 2)) (reaches i 0 2) (steps 0 0 1 1 2) (step 1 0 2)))))
    frame_by Five = loosely 9 13 (omega arith) (each_world 0 _ (each_world 1 _ (each_world 2 _ (implies_fine (And2 (reaches i 0 1) (reaches i 0 2)) (reaches i 1 2) (steps 0 0 1 0 2) (step 1 1 2)))))
    frame_by CD = loosely 9 13 (omega arith) (each_world 0 _ (each_world 1 _ (each_world 2 _ (implies_fine (And2 (reaches i 0 1) (reaches i 0 2)) (Same (world 1) (world 2)) (steps 0 0 1 0 2) (equal_worlds 2 1 2)))))
    frame_by BoxM = loosely 6 13 (omega arith) (each_world 0 _ (each_world 1 _ (implies_fine (reaches i 0 1) (reaches i 1 1) (step 0 0 1) (step 0 1 1))))
    frame_by C4 = loosely 9 13 (omega arith) (each_world 0 _ (each_world 1 _ (implies_fine (reaches i 0 1) (for_some_world 2 (And2 (reaches i 0 2) (reaches i 2 1))) (step 3 0 1) (some_world 2 _ (steps 0 0 2 2 1)))))
    frame_by C = loosely 11 13 (omega arith) (each_world 0 _ (each_world 1 _ (each_world 2 _ (implies_fine (And2 (reaches i 0 1) (reaches i 0 2)) (for_some_world 3 (And2 (reaches i 1 3) (reaches i 2 3))) (steps 2 0 1 0 2) (some_world 3 _ (steps 0 1 3 2 3))))))
    frame_by U = loosely 5 13 (omega arith) (each_world 0 _ (each_world 1 _ (step 0 0 1)))

    -- ---- domains

    module _ (s : SortName) (sorted : is_regular_sort s ≡ true) where
      presence : (n k l : ℕ) → IsFine m (suc n) (exists_at s k l)
      presence n k l = atom_fine n (existence_name s) (world_variable k) (element_variable l) (printable_existence s sorted) (world_variable_is k) (element_variable_is l)

      monotone_fine : (k l : ℕ) → IsFine m 13 (for_each_world 0 (for_each_world 1 (for_each_element 0 s (Pair2 Implies (And2 (reaches i 0 1) (exists_at s k 0)) (exists_at s l 0)))))
      monotone_fine k l = loosely 9 13 (omega arith) (each_world 0 _ (each_world 1 _ (each_element 0 s _ sorted (implies_fine (And2 (reaches i 0 1) (exists_at s k 0)) (exists_at s l 0) (both_fine (reaches i 0 1) (exists_at s k 0) (step 0 0 1) (presence 0 k 0)) (presence 1 l 0)))))

  presence_fine : (s : SortName) → is_regular_sort s ≡ true → (n k l : ℕ) → IsFine m (suc n) (exists_at s k l)
  presence_fine s sorted n k l = atom_fine n (existence_name s) (world_variable k) (element_variable l) (printable_existence s sorted) (world_variable_is k) (element_variable_is l)

  someone_fine : (s : SortName) → is_regular_sort s ≡ true → IsFine m 13 (someone_axiom s)
  someone_fine s sorted = loosely 5 13 (omega arith) (each_world 0 _ (some_element 0 s _ sorted (presence_fine s sorted 0 0 0)))

  everyone_fine : (s : SortName) → is_regular_sort s ≡ true → IsFine m 13 (everyone_axiom s)
  everyone_fine s sorted = loosely 5 13 (omega arith) (each_element 0 s _ sorted (some_world 0 _ (presence_fine s sorted 0 0 0)))

  module _ (most : ℕ) (enough : 13 ≤ most) where
    abbrev AreFine : List Formula → Type 0
    AreFine = AllByRecursion (IsFine m most)

    frame_axioms_of : (i : IndexName) → is_regular_index i ≡ true → (schemes : List Scheme) → AreFine (map (frame_axiom i) schemes)
    frame_axioms_of i named [] = tt
    frame_axioms_of i named (scheme ∷ schemes) = (loosely 13 most enough (frame_by i named scheme), frame_axioms_of i named schemes)

    frames_fine : (entries : List IndexEntry) → list_all is_index_name (index_names entries) ≡ true → AreFine (frame_axioms entries)
    frames_fine [] h = tt
    frames_fine (entry ∷ entries) h =
        let t = and_parts (is_index_name entry.name) (list_all is_index_name (index_names entries)) h in
        all_append (IsFine m most) (map (frame_axiom entry.name) entry.schemes) (frame_axioms entries) (frame_axioms_of entry.name (regular_index_name entry.name t.0) entry.schemes) (frames_fine entries t.1)

    stays_fine : (s : SortName) → is_regular_sort s ≡ true → (entries : List IndexEntry) → list_all is_index_name (index_names entries) ≡ true → AreFine (map (λ index. stay_axiom s index.name) entries)
    stays_fine s sorted [] h = tt
    stays_fine s sorted (entry ∷ entries) h =
        let t = and_parts (is_index_name entry.name) (list_all is_index_name (index_names entries)) h in
        (loosely 13 most enough (monotone_fine entry.name (regular_index_name entry.name t.0) s sorted 0 1), stays_fine s sorted entries t.1)

    were_fine : (s : SortName) → is_regular_sort s ≡ true → (entries : List IndexEntry) → list_all is_index_name (index_names entries) ≡ true → AreFine (map (λ index. were_there_axiom s index.name) entries)
    were_fine s sorted [] h = tt
    were_fine s sorted (entry ∷ entries) h =
        let t = and_parts (is_index_name entry.name) (list_all is_index_name (index_names entries)) h in
        (loosely 13 most enough (monotone_fine entry.name (regular_index_name entry.name t.0) s sorted 1 0), were_fine s sorted entries t.1)

    regime_fine : (entries : List IndexEntry) → list_all is_index_name (index_names entries) ≡ true → (s : SortName) → is_regular_sort s ≡ true → (regime : Regime) → AreFine (monotone_axioms entries s regime)
    regime_fine entries h s sorted Constant = tt
    regime_fine entries h s sorted Cumulative = stays_fine s sorted entries h
    regime_fine entries h s sorted Decreasing = were_fine s sorted entries h
    regime_fine entries h s sorted Varying = tt

    sort_by : (b : Bool) (fs : List Formula) → AreFine fs → AreFine (cond b [] fs)
    sort_by true fs h = tt
    sort_by false fs h = h

    module _ (sig : Signature) (indexed : list_all is_index_name (index_names sig.indexes) ≡ true) where
      domains_fine : (entries : List SortEntry) → list_all is_sort_name (sort_names entries) ≡ true → AreFine (domain_axioms_of sig entries)
      domains_fine [] h = tt
      domains_fine (entry ∷ entries) h =
          let t = and_parts (is_sort_name entry.name) (list_all is_sort_name (sort_names entries)) h in
          let sorted = regular_sort_name entry.name t.0 in
          let all = someone_axiom entry.name ∷ everyone_axiom entry.name ∷ monotone_axioms sig.indexes entry.name entry.regime in
          all_append (IsFine m most) (cond (is_constant sig entry.name) [] all) (domain_axioms_of sig entries)
          (sort_by (is_constant sig entry.name) all (loosely 13 most enough (someone_fine entry.name sorted), (loosely 13 most enough (everyone_fine entry.name sorted), regime_fine sig.indexes indexed entry.name sorted entry.regime)))
          (domains_fine entries t.1)

  -- ---- functions

  elements_regular : (k : ℕ) (ss : List SortName) → is_regular_list m (elements_from k ss) ≡ true
  elements_regular k [] = refl
  elements_regular k (s ∷ ss) = and_from (is_regular_term m (element k)) (is_regular_list m (elements_from (suc k) ss)) (element_variable_is k) (elements_regular (suc k) ss)

  elements_long : (k : ℕ) (ss : List SortName) → length (elements_from k ss) ≡ length ss
  elements_long k [] = refl
  elements_long k (s ∷ ss) = ap suc (elements_long (suc k) ss)

  elements_levels : (k : ℕ) (ss : List SortName) → list_levels (elements_from k ss) ≤ 1
  elements_levels k [] = omega arith
  elements_levels k (s ∷ ss) = omega (arith, elements_levels (suc k) ss)

  with_world_regular : (b : Bool) (ts : List Term) → is_regular_list m ts ≡ true → is_regular_list m (at_world b (world 0) ts) ≡ true
  with_world_regular true ts h = and_from (is_regular_term m (world 0)) (is_regular_list m ts) (world_variable_is 0) h
  with_world_regular false ts h = h

  with_world_long : (b : Bool) (ts : List Term) → length (at_world b (world 0) ts) ≤ suc (length ts)
  with_world_long true ts = omega arith
  with_world_long false ts = omega arith

  with_world_levels : (b : Bool) (ts : List Term) → list_levels ts ≤ 1 → list_levels (at_world b (world 0) ts) ≤ 1
  with_world_levels true ts h = omega (arith, h)
  with_world_levels false ts h = h

  value_term_regular : (b : Bool) (f : List ℕ) (ss : List SortName) → is_printable_text f ≡ true → suc (length ss) ≤ m.arguments → is_regular_term m (App f (at_world b (world 0) (elements_from 0 ss))) ≡ true
  value_term_regular b f ss name few =
      let ts = at_world b (world 0) (elements_from 0 ss) in
      regular_App m f ts ∙ named_list m f ts name (omega (arith, with_world_long b (elements_from 0 ss), elements_long 0 ss, few)) (with_world_regular b (elements_from 0 ss) (elements_regular 0 ss))

  value_term_levels : (b : Bool) (f : List ℕ) (ss : List SortName) → term_levels (App f (at_world b (world 0) (elements_from 0 ss))) ≤ 1
  value_term_levels b f ss =
      let ts = at_world b (world 0) (elements_from 0 ss) in
      omega (arith, levels_of_App f ts, with_world_levels b (elements_from 0 ss) (elements_levels 0 ss))

  rows_fine : (n k : ℕ) (ss : List SortName) (f : Formula) → list_all is_regular_sort ss ≡ true → IsFine m n f → IsFine m (n + 2 * length ss) (for_each_row k ss f)
  rows_fine n k [] f h fine = loosely n (n + 2 * 0) (omega arith) fine
  rows_fine n k (s ∷ ss) f h fine =
      let t = and_parts (is_regular_sort s) (list_all is_regular_sort ss) h in
      loosely (suc (suc (n + 2 * length ss))) (n + 2 * suc (length ss)) (omega arith) (each_element k s (for_each_row (suc k) ss f) t.0 (rows_fine n (suc k) ss f t.1 fine))

  -- conditions that each need a level at most
  record AreGuards (gs : List Formula) : Type 0 where
    regular : is_regular_formula_list m gs ≡ true
    low : unit_list_levels gs ≤ 1

  guards_by : (b : Bool) (s : SortName) (k : ℕ) (gs : List Formula) → is_regular_sort s ≡ true → AreGuards gs → AreGuards (cond b gs (exists_at s 0 k ∷ gs))
  guards_by true s k gs sorted h = h
  guards_by false s k gs sorted h = record {
    regular = and_from (is_regular_formula m (exists_at s 0 k)) (is_regular_formula_list m gs) (presence_fine s sorted 0 0 k).regular h.regular;
    low = omega (arith, h.low);
  }

  guards_fine : (sig : Signature) (k : ℕ) (ss : List SortName) → list_all is_regular_sort ss ≡ true → AreGuards (row_guards sig k ss)
  guards_fine sig k [] h = record { regular = refl; low = omega arith }
  guards_fine sig k (s ∷ ss) h =
      let t = and_parts (is_regular_sort s) (list_all is_regular_sort ss) h in
      guards_by (is_constant sig s) s k (row_guards sig (suc k) ss) t.0 (guards_fine sig (suc k) ss t.1)

  under_fine : (gs : List Formula) (f : Formula) → AreGuards gs → IsFine m 2 f → has_brackets f ≡ false → IsFine m 3 (under_guards gs f)
  under_fine [] f h fine plain = loosely 2 3 (omega arith) fine
  under_fine (g ∷ []) f h fine plain = record {
    regular = and_from (is_regular_formula m g) (is_regular_formula m f) (and_parts (is_regular_formula m g) true h.regular).0 fine.regular;
    low = omega (arith, h.low, bracket_level (has_brackets f) (formula_levels f), fine.low);
  }
  under_fine (g ∷ k ∷ gs) f h fine plain = record {
    regular = and_from (is_regular_formula m (And (g ∷ k ∷ gs))) (is_regular_formula m f)
        (regular_And m (g ∷ k ∷ gs) ∙ and_from (nat_le 2 (length (g ∷ k ∷ gs))) (is_regular_formula_list m (g ∷ k ∷ gs)) (le-leb 2 (length (g ∷ k ∷ gs)) (omega arith)) h.regular) fine.regular;
    low = omega (arith, levels_of_And (g ∷ k ∷ gs), h.low, bracket_level (has_brackets f) (formula_levels f), fine.low);
  }

  module _ (sig : Signature) (sorts : list_all is_sort_name (sort_names sig.sorts) ≡ true) where
    value_fine : (f : List ℕ) (ss : List SortName) (r : SortName) → is_printable_text f ≡ true → is_regular_sort r ≡ true → suc (length ss) ≤ m.arguments → IsFine m 2 (value_is_there sig f ss r)
    value_fine f ss r name sorted few =
        let value = App (user_name f) (at_world (is_flexible sig f) (world 0) (elements_from 0 ss)) in
        record {
          regular = named_list m (existence_name r) (world 0 ∷ value ∷ []) (printable_existence r sorted) two
              (regular_pair m (world 0) value (world_variable_is 0) (value_term_regular (is_flexible sig f) (user_name f) ss (printable_user_name f name) few));
          low = omega (arith, value_term_levels (is_flexible sig f) (user_name f) ss);
        }

    term_fine : (f : List ℕ) (ss : List SortName) (r : SortName) → is_printable_text f ≡ true → list_all is_regular_sort ss ≡ true → is_regular_sort r ≡ true → suc (length ss) ≤ m.arguments → IsFine m (suc (suc (3 + 2 * length ss))) (term_axiom sig f ss r)
    term_fine f ss r name all sorted few =
        each_world 0 _ (rows_fine 3 0 ss _ all (under_fine (row_guards sig 0 ss) (value_is_there sig f ss r) (guards_fine sig 0 ss all) (value_fine f ss r name sorted few) refl))

    sort_at_regular : (entries : List SortEntry) → list_all is_sort_name (sort_names entries) ≡ true → (k : ℕ) → is_regular_sort (sort_at entries k) ≡ true
    sort_at_regular [] h k = refl
    sort_at_regular (entry ∷ entries) h zero = regular_sort_name entry.name (and_parts (is_sort_name entry.name) (list_all is_sort_name (sort_names entries)) h).0
    sort_at_regular (entry ∷ entries) h (suc k) = sort_at_regular entries (and_parts (is_sort_name entry.name) (list_all is_sort_name (sort_names entries)) h).1 k

    sorts_regular : (args : List ℕ) → list_all is_regular_sort (map (sort_at sig.sorts) args) ≡ true
    sorts_regular [] = refl
    sorts_regular (k ∷ args) = and_from (is_regular_sort (sort_at sig.sorts k)) (list_all is_regular_sort (map (sort_at sig.sorts) args)) (sort_at_regular sig.sorts sorts k) (sorts_regular args)

    as_many_sorts : (args : List ℕ) → length (map (sort_at sig.sorts) args) ≡ length args
    as_many_sorts [] = refl
    as_many_sorts (k ∷ args) = ap suc (as_many_sorts args)

    varying_by : (b : Bool) (s : SortName) → is_regular_sort s ≡ true → is_regular_result (cond b None (Some s)) ≡ true
    varying_by true s h = refl
    varying_by false s h = h

    result_regular : (gives : Option ℕ) (locality : Locality) → is_regular_result (local_result sig gives locality) ≡ true
    result_regular None Local = refl
    result_regular (Some r) Local = varying_by (is_constant sig (sort_at sig.sorts r)) (sort_at sig.sorts r) (sort_at_regular sig.sorts sorts r)
    result_regular gives Global = refl

    module _ (most args : ℕ) (enough : 5 + 2 * args ≤ most) (room : suc args ≤ m.arguments) where
      results_fine : (f : List ℕ) (ss : List SortName) (r : Option SortName) → is_printable_text f ≡ true → list_all is_regular_sort ss ≡ true → length ss ≤ args → is_regular_result r ≡ true → AllByRecursion (IsFine m most) (result_axioms sig f ss r)
      results_fine f ss None name all few sorted = tt
      results_fine f ss (Some r) name all few sorted = (loosely (suc (suc (3 + 2 * length ss))) most (omega (arith, few, enough)) (term_fine f ss r name all sorted (omega (arith, few, room))), tt)

      terms_fine : (entries : List SymbolEntry) → list_all is_name (symbol_names entries) ≡ true → AllByRecursion (λ (entry : SymbolEntry). length entry.args ≤ args) entries → AllByRecursion (IsFine m most) (term_axioms_of sig entries)
      terms_fine [] h few = tt
      terms_fine (entry ∷ entries) h few =
          let t = and_parts (is_name entry.name) (list_all is_name (symbol_names entries)) h in
          all_append (IsFine m most) (result_axioms sig entry.name (argument_sorts sig entry) (local_result sig entry.gives entry.locality)) (term_axioms_of sig entries)
          (results_fine entry.name (argument_sorts sig entry) (local_result sig entry.gives entry.locality) (printable_name entry.name t.0) (sorts_regular entry.args) (omega (arith, as_many_sorts entry.args, few.0)) (result_regular entry.gives entry.locality))
          (terms_fine entries t.1 few.1)

  -- the added axioms
  pub axioms_fine : (sig : Signature) (most args : ℕ) → list_all is_sort_name (sort_names sig.sorts) ≡ true → list_all is_name (symbol_names sig.symbols) ≡ true → list_all is_index_name (index_names sig.indexes) ≡ true
      → AllByRecursion (λ (entry : SymbolEntry). length entry.args ≤ args) sig.symbols → 13 ≤ most → 5 + 2 * args ≤ most → suc args ≤ m.arguments → AllByRecursion (IsFine m most) (added_axioms sig)
  axioms_fine sig most args sorts symbols indexes few base enough room =
      all_append (IsFine m most) (frame_axioms sig.indexes) (domain_axioms sig ++ term_axioms sig) (frames_fine most base sig.indexes indexes)
      (all_append (IsFine m most) (domain_axioms sig) (term_axioms sig) (domains_fine most base sig indexes sig.sorts sorts) (terms_fine sig sorts most args enough room sig.symbols symbols few))
