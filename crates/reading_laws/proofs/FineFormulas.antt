-- What is read is regular, no deeper than its levels allow, and no heavier than the tokens that it takes.
use Rattle.std.proofs.Common.{◌≡◌, ℕ, suc, ◌+◌, ◌≤◌, Bool, true, ◌&&◌, Some, List, [], ◌∷◌, length, refl, ◌∙◌, arith}
use Rattle.std.specs.Prelude.{nat_le}
use Rattle.std.specs.List.{AllByRecursion}
use Rattle.std.proofs.lemmas.Bool.{and_from, le-leb}
use Rattle.tptp_lex.specs.Texts.{token_text}
use Rattle.nxf_terminals.specs.declared.sign.Sign.{Sign}
use Rattle.nxf_terminals.specs.declared.sign.Sign.TheVariants as sign
use Rattle.nxf_terminals.specs.Input.{Spelling, Item, Input}
use Rattle.nxf_tree.specs.Profiles.{Allowed}
use Rattle.nxf_base.specs.Bytes.{is_printable_text, is_variable_text}
use Rattle.nxf_terminals.specs.Spelled.{IsSpelled}
use Rattle.nxf_terminals.proofs.CallerLemmas.{name_printable, digits_printable}
use Rattle.nxf_tree.specs.declared.tree.SortName.{SortName}
use Rattle.nxf_tree.specs.declared.tree.Term.{Term}
use Rattle.nxf_tree.specs.declared.tree.Formula.{Formula}
use Rattle.nxf_tree.specs.declared.tree.Formula.TheVariants as formula
use Rattle.nxf_tree.specs.declared.tree.Mode.{Mode}
use Rattle.nxf_tree.specs.declared.tree.Mode.TheVariants as mode
use Rattle.nxf_tree.specs.declared.tree.IndexName.{IndexName}
use Rattle.nxf_tree.specs.declared.tree.IndexName.TheVariants as index
use Rattle.nxf_tree.specs.declared.tree.Quantifier.{Quantifier}
use Rattle.nxf_tree.specs.Depth.{term_depth, list_depth, formula_depth, formula_list_depth}
use Rattle.nxf_tree.specs.Weight.{term_weight, list_weight, formula_weight, formula_list_weight}
use Rattle.nxf_tree.proofs.CallerLemmas.{term_depth_of_App, formula_depth_of_And, formula_depth_of_Or, formula_depth_of_Not, formula_depth_of_Pair, formula_depth_of_Quant, formula_depth_of_Modal}
use Rattle.reading_laws.proofs.Weights.{term_weight_of_App, formula_weight_of_And, formula_weight_of_Or, formula_weight_of_Not, formula_weight_of_Pair, formula_weight_of_Quant, formula_weight_of_Modal}
use Rattle.syntax_definitions.specs.Operators.{mode_of}
use Rattle.nxf_tree.specs.RegularFormulas.{is_regular_sort, is_regular_index, is_regular_term, is_regular_list, is_regular_formula, is_regular_formula_list}
use Rattle.syntax_definitions.specs.Formulas.{IsTerm, variable, constant, call, AreTerms, last_term, more_terms, IsSort, individual, user, IsBoundSort, no_sort, with_sort, IsIndex, named, numbered, IsLongIndex, plain, indexed, IsUnit, brackets, not, box, dia, box_of, dia_of, long, distinct, all, exists, atom, atom_of, same, differ, IsQuantified, last_variable, more_variables, AreUnits, last_unit, more_units, IsFormula, alone, and, or, pair}
use Rattle.syntax_definitions.specs.Formulas as g
use Rattle.reading_laws.proofs.LeftOfFormulas.{term_left, bound_left, index_left, long_left, unit_left}
use Rattle.syntax_definitions.proofs.CallerLemmas.{regular_App, regular_And, regular_Or, regular_Not, regular_Pair, regular_Quant, regular_Modal}

-- a tree of this depth, weight and regularity is read
pub record Fine (depth bound weight : ℕ) (regular : Bool) (xs rest : Input) : Type 0 where
  pub shallow : depth ≤ bound
  pub light : weight + length rest ≤ length xs
  pub is_regular : regular ≡ true

-- a list of trees, so many at least and at most
pub record FineList (depth bound weight : ℕ) (regular : Bool) (count least most : ℕ) (xs rest : Input) : Type 0 where
  pub shallow : depth ≤ bound
  pub light : weight + length rest ≤ length xs
  pub is_regular : regular ≡ true
  pub some : least ≤ count
  pub few : count ≤ most

module _ (l : Allowed) where
  -- ---- sorts and indexes

  pub sort_shorter : {xs rest : Input} {s : SortName} → IsSort xs s rest → 1 + length rest ≤ length xs
  sort_shorter individual = omega arith
  sort_shorter user = omega arith

  pub sort_regular : {xs rest : Input} {s : SortName} → IsSort xs s rest → AllByRecursion (IsSpelled l) xs → is_regular_sort s ≡ true
  sort_regular individual q = refl
  sort_regular (user {s = a}) q = name_printable a q.0

  bound_shorter : {xs rest : Input} {s : SortName} → IsBoundSort xs s rest → length rest ≤ length xs
  bound_shorter no_sort = omega arith
  bound_shorter (with_sort d) = omega (arith, sort_shorter d)

  bound_regular : {xs rest : Input} {s : SortName} → IsBoundSort xs s rest → AllByRecursion (IsSpelled l) xs → is_regular_sort s ≡ true
  bound_regular no_sort q = refl
  bound_regular (with_sort d) q = sort_regular d q.1

  pub index_shorter : {xs rest : Input} {i : Spelling} → IsIndex xs i rest → 1 + length rest ≤ length xs
  index_shorter named = omega arith
  index_shorter numbered = omega arith

  pub index_regular : {xs rest : Input} {i : Spelling} → IsIndex xs i rest → AllByRecursion (IsSpelled l) xs → is_printable_text i ≡ true
  index_regular (named {a = a}) q = name_printable a q.0
  index_regular (numbered {a = a}) q = digits_printable a q.0

  pub long_shorter : {xs rest : Input} {i : IndexName} → IsLongIndex xs i rest → 1 + length rest ≤ length xs
  long_shorter plain = omega arith
  long_shorter (indexed d) = omega (arith, index_shorter d)

  pub long_regular : {xs rest : Input} {i : IndexName} → IsLongIndex xs i rest → AllByRecursion (IsSpelled l) xs → is_regular_index i ≡ true
  long_regular plain q = refl
  long_regular (indexed d) q = index_regular d q.1.1

  -- the sign that names a mode is allowed where modalities are
  mode_allowed : (j : Sign) (m : Mode) (a : Spelling) → mode_of j ≡ Some m → IsSpelled l (j, a) → l.modal ≡ true
  mode_allowed sign.Boxes m a e q = q
  mode_allowed sign.Diamonds m a e q = q
  mode_allowed _ m a e q = absurd cc

  module _ (most : ℕ) (enough : most ≤ l.arguments) where
    -- ---- terms

    -- a name with arguments
    named_list : (f : List ℕ) (ts : List Term) → is_printable_text f ≡ true → length ts ≤ most → is_regular_list l ts ≡ true → (is_printable_text f && (nat_le (length ts) l.arguments && is_regular_list l ts)) ≡ true
    named_list f ts name few regular =
        and_from (is_printable_text f) (nat_le (length ts) l.arguments && is_regular_list l ts) name
        (and_from (nat_le (length ts) l.arguments) (is_regular_list l ts) (le-leb (length ts) l.arguments (omega (arith, few, enough))) regular)

    mutual
      pub term_fine : {n : ℕ} {xs rest : Input} {t : Term} → IsTerm most n xs t rest → AllByRecursion (IsSpelled l) xs → Fine (term_depth t) (n + 1) (term_weight t) (is_regular_term l t) xs rest
      term_fine variable q = record { shallow = omega arith; light = omega arith; is_regular = q.0 }
      term_fine (constant {a = a}) q = record {
        shallow = omega (arith, term_depth_of_App (token_text a) []);
        light = omega (arith, term_weight_of_App (token_text a) []);
        is_regular = regular_App l (token_text a) [] ∙ named_list (token_text a) [] (name_printable a q.0) (omega arith) refl;
      }
      term_fine (call {a = a} {ts = ts} ds) q =
          let r = terms_fine ds q.1.1 in
          record {
            shallow = omega (arith, term_depth_of_App (token_text a) ts, r.shallow);
            light = omega (arith, term_weight_of_App (token_text a) ts, r.light);
            is_regular = regular_App l (token_text a) ts ∙ named_list (token_text a) ts (name_printable a q.0) r.few r.is_regular;
          }

      pub terms_fine : {n k : ℕ} {xs rest : Input} {ts : List Term} → AreTerms most n k xs ts rest → AllByRecursion (IsSpelled l) xs → FineList (list_depth ts) (n + 1) (list_weight ts) (is_regular_list l ts) (length ts) 1 k xs rest
      terms_fine (last_term {t = t} d) q =
          let r = term_fine d q in
          record { shallow = omega (arith, r.shallow); light = omega (arith, r.light); is_regular = and_from (is_regular_term l t) true r.is_regular refl; some = omega arith; few = omega arith }
      terms_fine (more_terms {t = t} {ts = ts} d ds) q =
          let r = term_fine d q in
          let left = term_left (IsSpelled l) d q in
          let rs = terms_fine ds left.1 in
          record { shallow = omega (arith, r.shallow, rs.shallow); light = omega (arith, r.light, rs.light); is_regular = and_from (is_regular_term l t) (is_regular_list l ts) r.is_regular rs.is_regular; some = omega arith; few = omega (arith, rs.few) }

    -- ---- formulas

    negation_fine : {bound : ℕ} {x : Item} {xs rest : Input} (f : Formula) → Fine (formula_depth f) bound (formula_weight f) (is_regular_formula l f) xs rest → Fine (formula_depth (formula.Not f)) (suc bound) (formula_weight (formula.Not f)) (is_regular_formula l (formula.Not f)) (x ∷ xs) rest
    negation_fine f r = record {
      shallow = omega (arith, formula_depth_of_Not f, r.shallow);
      light = omega (arith, formula_weight_of_Not f, r.light);
      is_regular = regular_Not l f ∙ r.is_regular;
    }

    modal_fine : {bound : ℕ} {xs mid rest : Input} (m : Mode) (i : IndexName) (f : Formula) → l.modal ≡ true → is_regular_index i ≡ true → 1 + length mid ≤ length xs → Fine (formula_depth f) bound (formula_weight f) (is_regular_formula l f) mid rest → Fine (formula_depth (formula.Modal m i f)) (suc bound) (formula_weight (formula.Modal m i f)) (is_regular_formula l (formula.Modal m i f)) xs rest
    modal_fine m i f modal regular shorter r = record {
      shallow = omega (arith, formula_depth_of_Modal m i f, r.shallow);
      light = omega (arith, formula_weight_of_Modal m i f, r.light, shorter);
      is_regular = regular_Modal l m i f ∙ and_from l.modal (is_regular_index i && is_regular_formula l f) modal (and_from (is_regular_index i) (is_regular_formula l f) regular r.is_regular);
    }

    quantified_tree : {bound : ℕ} {xs mid rest : Input} (q : Quantifier) (v : Spelling) (s : SortName) (f : Formula) → is_variable_text v ≡ true → is_regular_sort s ≡ true → 1 + length mid ≤ length xs → Fine (formula_depth f) bound (formula_weight f) (is_regular_formula l f) mid rest → Fine (formula_depth (formula.Quant q v s f)) (suc bound) (formula_weight (formula.Quant q v s f)) (is_regular_formula l (formula.Quant q v s f)) xs rest
    quantified_tree q v s f variable_is regular shorter r = record {
      shallow = omega (arith, formula_depth_of_Quant q v s f, r.shallow);
      light = omega (arith, formula_weight_of_Quant q v s f, r.light, shorter);
      is_regular = regular_Quant l q v s f ∙ and_from (is_variable_text v) (is_regular_sort s && is_regular_formula l f) variable_is (and_from (is_regular_sort s) (is_regular_formula l f) regular r.is_regular);
    }

    -- a bound that is not reached
    looser : {depth bound more weight : ℕ} {regular : Bool} {xs rest : Input} → bound ≤ more → Fine depth bound weight regular xs rest → Fine depth more weight regular xs rest
    looser less r = record { shallow = omega (arith, less, r.shallow); light = r.light; is_regular = r.is_regular }

    -- without the token that closes it
    closed : {depth bound weight : ℕ} {regular : Bool} {x : Item} {xs rest : Input} → Fine depth bound weight regular xs (x ∷ rest) → Fine depth bound weight regular xs rest
    closed r = record { shallow = r.shallow; light = omega (arith, r.light); is_regular = r.is_regular }

    chain_members : (f : Formula) (fs : List Formula) → 1 ≤ length fs → is_regular_formula l f ≡ true → is_regular_formula_list l fs ≡ true → (nat_le 2 (length (f ∷ fs)) && is_regular_formula_list l (f ∷ fs)) ≡ true
    chain_members f fs some first others =
        and_from (nat_le 2 (length (f ∷ fs))) (is_regular_formula_list l (f ∷ fs)) (le-leb 2 (length (f ∷ fs)) (omega (arith, some))) (and_from (is_regular_formula l f) (is_regular_formula_list l fs) first others)

    mutual
      pub unit_fine : {n : ℕ} {xs rest : Input} {f : Formula} → IsUnit most n xs f rest → AllByRecursion (IsSpelled l) xs → Fine (formula_depth f) (n + n + 2) (formula_weight f) (is_regular_formula l f) xs rest
      unit_fine (brackets d) q =
          let r = formula_fine d q.1 in
          record { shallow = omega (arith, r.shallow); light = omega (arith, r.light); is_regular = r.is_regular }
      unit_fine (not {n = m} {f = f} d) q = looser (omega arith) (negation_fine f (unit_fine d q.1))
      unit_fine (box {f = f} d) q = looser (omega arith) (modal_fine mode.Box index.Plain f q.0 refl (omega arith) (unit_fine d q.1))
      unit_fine (dia {f = f} d) q = looser (omega arith) (modal_fine mode.Dia index.Plain f q.0 refl (omega arith) (unit_fine d q.1))
      unit_fine (box_of {i = i} {f = f} e d) q =
          let left = index_left (IsSpelled l) e q.1.1 in
          looser (omega arith) (modal_fine mode.Box (index.Named i) f q.1.0 (index_regular e q.1.1) (omega (arith, index_shorter e)) (unit_fine d left.1))
      unit_fine (dia_of {i = i} {f = f} e d) q =
          let left = index_left (IsSpelled l) e q.1.1 in
          looser (omega arith) (modal_fine mode.Dia (index.Named i) f q.1.0 (index_regular e q.1.1) (omega (arith, index_shorter e)) (unit_fine d left.1))
      unit_fine (long {j = j} {m = m} {w = w} {i = i} {f = f} e d u) q =
          let left = long_left (IsSpelled l) d q.1.1 in
          looser (omega arith) (modal_fine m i f (mode_allowed j m w e q.1.0) (long_regular d q.1.1) (omega (arith, long_shorter d)) (closed (formula_fine u left.1.1)))
      unit_fine (distinct {ts = ts} ds) q =
          let r = terms_fine ds q.1.1 in
          record {
            shallow = omega (arith, r.shallow);
            light = omega (arith, r.light);
            is_regular = and_from l.distinct (nat_le 1 (length ts) && is_regular_list l ts) q.0 (and_from (nat_le 1 (length ts)) (is_regular_list l ts) (le-leb 1 (length ts) r.some) r.is_regular);
          }
      unit_fine (all d) q = let r = quantified_fine d q.1.1 in record { shallow = r.shallow; light = omega (arith, r.light); is_regular = r.is_regular }
      unit_fine (exists d) q = let r = quantified_fine d q.1.1 in record { shallow = r.shallow; light = omega (arith, r.light); is_regular = r.is_regular }
      unit_fine g.true q = record { shallow = omega arith; light = omega arith; is_regular = refl }
      unit_fine g.false q = record { shallow = omega arith; light = omega arith; is_regular = refl }
      unit_fine (atom {a = a}) q = record { shallow = omega arith; light = omega arith; is_regular = named_list (token_text a) [] (name_printable a q.0) (omega arith) refl }
      unit_fine (atom_of {a = a} {ts = ts} ds) q =
          let r = terms_fine ds q.1.1 in
          record { shallow = omega (arith, r.shallow); light = omega (arith, r.light); is_regular = named_list (token_text a) ts (name_printable a q.0) r.few r.is_regular }
      unit_fine (same {s = s} {t = t} d e) q =
          let r = term_fine d q in
          let left = term_left (IsSpelled l) d q in
          let u = term_fine e left.1 in
          record { shallow = omega (arith, r.shallow, u.shallow); light = omega (arith, r.light, u.light); is_regular = and_from (is_regular_term l s) (is_regular_term l t) r.is_regular u.is_regular }
      unit_fine (differ {s = s} {t = t} d e) q =
          let r = term_fine d q in
          let left = term_left (IsSpelled l) d q in
          let u = term_fine e left.1 in
          record { shallow = omega (arith, r.shallow, u.shallow); light = omega (arith, r.light, u.light); is_regular = and_from (is_regular_term l s) (is_regular_term l t) r.is_regular u.is_regular }

      pub quantified_fine : {k : Quantifier} {n : ℕ} {xs rest : Input} {f : Formula} → IsQuantified most k n xs f rest → AllByRecursion (IsSpelled l) xs → Fine (formula_depth f) (n + n + 2) (formula_weight f) (is_regular_formula l f) xs rest
      quantified_fine {k} (last_variable {v = v} {s = s} {f = f} b d) q =
          let left = bound_left (IsSpelled l) b q.1 in
          looser (omega arith) (quantified_tree k v s f q.0 (bound_regular b q.1) (omega (arith, bound_shorter b)) (unit_fine d left.1.1))
      quantified_fine {k} (more_variables {v = v} {s = s} {f = f} b d) q =
          let left = bound_left (IsSpelled l) b q.1 in
          looser (omega arith) (quantified_tree k v s f q.0 (bound_regular b q.1) (omega (arith, bound_shorter b)) (quantified_fine d left.1))

      pub units_fine : {j : Sign} {n : ℕ} {xs rest : Input} {fs : List Formula} → AreUnits most j n xs fs rest → AllByRecursion (IsSpelled l) xs → FineList (formula_list_depth fs) (n + n + 2) (formula_list_weight fs) (is_regular_formula_list l fs) (length fs) 1 (length fs) xs rest
      units_fine (last_unit {f = f} d) q =
          let r = unit_fine d q in
          record { shallow = omega (arith, r.shallow); light = omega (arith, r.light); is_regular = and_from (is_regular_formula l f) true r.is_regular refl; some = omega arith; few = omega arith }
      units_fine (more_units {f = f} {fs = fs} d ds) q =
          let r = unit_fine d q in
          let left = unit_left (IsSpelled l) d q in
          let rs = units_fine ds left.1 in
          record { shallow = omega (arith, r.shallow, rs.shallow); light = omega (arith, r.light, rs.light); is_regular = and_from (is_regular_formula l f) (is_regular_formula_list l fs) r.is_regular rs.is_regular; some = omega arith; few = omega arith }

      pub formula_fine : {n : ℕ} {xs rest : Input} {f : Formula} → IsFormula most n xs f rest → AllByRecursion (IsSpelled l) xs → Fine (formula_depth f) (n + n + 3) (formula_weight f) (is_regular_formula l f) xs rest
      formula_fine (alone d) q = looser (omega arith) (unit_fine d q)
      formula_fine (and {f = f} {fs = fs} d ds) q =
          let r = unit_fine d q in
          let left = unit_left (IsSpelled l) d q in
          let rs = units_fine ds left.1 in
          record {
            shallow = omega (arith, formula_depth_of_And (f ∷ fs), r.shallow, rs.shallow);
            light = omega (arith, formula_weight_of_And (f ∷ fs), r.light, rs.light);
            is_regular = regular_And l (f ∷ fs) ∙ chain_members f fs rs.some r.is_regular rs.is_regular;
          }
      formula_fine (or {f = f} {fs = fs} d ds) q =
          let r = unit_fine d q in
          let left = unit_left (IsSpelled l) d q in
          let rs = units_fine ds left.1 in
          record {
            shallow = omega (arith, formula_depth_of_Or (f ∷ fs), r.shallow, rs.shallow);
            light = omega (arith, formula_weight_of_Or (f ∷ fs), r.light, rs.light);
            is_regular = regular_Or l (f ∷ fs) ∙ chain_members f fs rs.some r.is_regular rs.is_regular;
          }
      formula_fine (pair {o = o} {f = f} {g = h} d e u) q =
          let r = unit_fine d q in
          let left = unit_left (IsSpelled l) d q in
          let v = unit_fine u left.1 in
          record {
            shallow = omega (arith, formula_depth_of_Pair o f h, r.shallow, v.shallow);
            light = omega (arith, formula_weight_of_Pair o f h, r.light, v.light);
            is_regular = regular_Pair l o f h ∙ and_from (is_regular_formula l f) (is_regular_formula l h) r.is_regular v.is_regular;
          }
