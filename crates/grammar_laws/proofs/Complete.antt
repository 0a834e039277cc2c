-- What the grammar reads is read: the descent finds the tree, and goes as far.
use Rattle.std.proofs.Common.{◌≡◌, ℕ, zero, suc, ◌+◌, ◌≤◌, ◌<◌, Bool, true, false, List, [], ◌∷◌, ◌++◌, length, Option, Some, refl, ap, ◌∙◌, arith, append_assoc}
use Rattle.nxf_terminals.specs.declared.sign.Sign.{Sign}
use Rattle.nxf_terminals.specs.declared.sign.Sign.TheVariants as sign
use Rattle.nxf_tree.specs.declared.tree.Quantifier.{Quantifier}
use Rattle.nxf_tree.specs.declared.tree.Op.{Op}
use Rattle.nxf_tree.specs.declared.tree.SortName.{SortName}
use Rattle.nxf_tree.specs.declared.tree.SortName.TheVariants as sorts
use Rattle.nxf_tree.specs.declared.tree.Term.{Term}
use Rattle.nxf_tree.specs.declared.tree.Term.TheVariants as terms
use Rattle.nxf_tree.specs.declared.tree.Formula.{Formula}
use Rattle.nxf_tree.specs.declared.tree.Formula.TheVariants as formulas
use Rattle.nxf_tree.specs.declared.tree.IndexName.{IndexName}
use Rattle.nxf_tree.specs.declared.tree.Mode.{Mode}
use Rattle.tptp_lex.specs.Texts.{token_text}
use Rattle.nxf_terminals.specs.Input.{Spelling, Input, Parser, and_then, kind, sees, after, expect, pure}
use Rattle.syntax_definitions.specs.Operators.{operator, mode_of}
use Rattle.nxf_terminals.specs.Signs.{same_sign}
use Rattle.syntax_definitions.specs.Formulas.{IsTerm, AreTerms, IsSort, IsBoundSort, IsIndex, IsLongIndex, IsUnit, IsQuantified, AreUnits, IsFormula, variable, constant, call, last_term, more_terms, individual, user, no_sort, with_sort, named, numbered, plain, indexed, brackets, not, box, dia, box_of, dia_of, long, distinct, all, exists, atom, atom_of, same, differ, last_variable, more_variables, last_unit, more_units, alone, and, or, pair}
use Rattle.syntax_definitions.specs.Formulas as g
use Rattle.syntax_definitions.specs.steps.ReadFormulas.{terms_from, arguments, many, term_by, term, argument, units_from, units, chain, whole, group, sort_name, bound_sort, index_text, long_index, modal_of, scope, comparison, after_name, unit_by, unit, quantified, inner, unit_from, formula}
use Rattle.syntax_definitions.specs.steps.ReadFormulas as p
use Rattle.syntax_definitions.proofs.CallerLemmas.{unit_is}

-- ---- terms

term_is : (most n : ℕ) (i : Input) → term most n i ≡ term_by most (argument most n) (kind i) i
unfolding term
term_is most zero i = refl
term_is most (suc n) i = refl

no_arguments : (most : ℕ) (one : Parser Term) (rest : Input) → sees sign.Open rest ≡ false → arguments most one rest ≡ Some ([], rest)
unfolding arguments after
no_arguments most one rest h = rw h refl

some_arguments : (most : ℕ) (one : Parser Term) (s : Spelling) (rest : Input) → arguments most one ((sign.Open, s) ∷ rest) ≡ terms_from most one most [] rest
unfolding arguments after sees same_sign
some_arguments most one s rest = refl

mutual
  unfolding terms_from after expect sees same_sign

  pub term_found : {most n : ℕ} {xs rest : Input} {t : Term} → IsTerm most n xs t rest → sees sign.Open rest ≡ false → term most n xs ≡ Some (t, rest)
  term_found {most = most} {n = n} {xs = xs} variable h = term_is most n xs
  term_found {most = most} {n = n} {xs = xs} {rest = rest} (constant {a = a}) h =
      term_is most n xs ∙ ap (λ o. and_then o (λ ts. pure (terms.App (token_text a) ts))) (no_arguments most (argument most n) rest h)
  term_found {most = most} {n = n} {xs = xs} {rest = rest} (call {n = m} {a = a} {s = s} {xs = ys} d) h =
      term_is most (suc m) xs ∙ ap (λ o. and_then o (λ ts. pure (terms.App (token_text a) ts))) (some_arguments most (term most m) s ys ∙ terms_found d [])

  pub terms_found : {most n k : ℕ} {xs rest : Input} {ts : List Term} → AreTerms most n k xs ts rest → (found : List Term) → terms_from most (term most n) k found xs ≡ Some (found ++ ts, rest)
  terms_found (last_term d) found = rw (term_found d refl) refl
  terms_found (more_terms {rest = rest} {t = t} {ts = ts} d ds) found = rw (term_found d refl) (terms_found ds (found ++ t ∷ []) ∙ ap (λ (x : List Term). Some (x, rest)) (append_assoc found (t ∷ []) ts))

-- ---- what may follow

-- no sign that goes on with a name or a term
abbrev pub ends_unit : Sign → Bool
ends_unit sign.Open = false
ends_unit sign.Equal = false
ends_unit sign.Differ = false
ends_unit _ = true

-- nor one that joins two units
abbrev pub ends_formula : Sign → Bool
ends_formula sign.Open = false
ends_formula sign.Equal = false
ends_formula sign.Differ = false
ends_formula sign.And = false
ends_formula sign.Or = false
ends_formula sign.Implies = false
ends_formula sign.ImpliedBy = false
ends_formula sign.Iff = false
ends_formula sign.Xor = false
ends_formula sign.Nor = false
ends_formula sign.Nand = false
ends_formula _ = true

other_than_open : (s : Sign) → ends_unit s ≡ true → same_sign s sign.Open ≡ false
unfolding same_sign
other_than_open sign.Open h = absurd cc
other_than_open _ h = refl

unit_at_end : (s : Sign) → ends_formula s ≡ true → ends_unit s ≡ true
unit_at_end sign.Open h = absurd cc
unit_at_end sign.Equal h = absurd cc
unit_at_end sign.Differ h = absurd cc
unit_at_end _ h = refl

other_than_and : (s : Sign) → ends_formula s ≡ true → same_sign s sign.And ≡ false
unfolding same_sign
other_than_and sign.And h = absurd cc
other_than_and _ h = refl

other_than_or : (s : Sign) → ends_formula s ≡ true → same_sign s sign.Or ≡ false
unfolding same_sign
other_than_or sign.Or h = absurd cc
other_than_or _ h = refl

no_open : (rest : Input) → ends_unit (kind rest) ≡ true → sees sign.Open rest ≡ false
unfolding sees
no_open rest h = other_than_open (kind rest) h

name_ends : (one : Parser Term) (a : Spelling) (ts : List Term) (s : Sign) (i : Input) → ends_unit s ≡ true → after_name one a ts s i ≡ Some (formulas.Atom a ts, i)
name_ends one a ts sign.Equal i h = absurd cc
name_ends one a ts sign.Differ i h = absurd cc
name_ends one a ts _ i h = refl

chain_ends : (u : Parser Formula) (f : Formula) (s : Sign) (i : Input) → ends_formula s ≡ true → chain u f s i ≡ Some (f, i)
chain_ends u f sign.And i h = absurd cc
chain_ends u f sign.Or i h = absurd cc
chain_ends u f sign.Implies i h = absurd cc
chain_ends u f sign.ImpliedBy i h = absurd cc
chain_ends u f sign.Iff i h = absurd cc
chain_ends u f sign.Xor i h = absurd cc
chain_ends u f sign.Nor i h = absurd cc
chain_ends u f sign.Nand i h = absurd cc
chain_ends u f _ i h = refl

chain_joins : (u : Parser Formula) (f : Formula) (s : Sign) (o : Op) (i : Input) → operator s ≡ Some o → chain u f s i ≡ p.pair u f (Some o) i
chain_joins u f sign.And o i h = absurd cc
chain_joins u f sign.Or o i h = absurd cc
chain_joins u f s o i h = ap (λ (x : Option Op). p.pair u f x i) h

operator_ends : (s : Sign) (o : Op) → operator s ≡ Some o → ends_unit s ≡ true
operator_ends sign.Open o h = absurd cc
operator_ends sign.Equal o h = absurd cc
operator_ends sign.Differ o h = absurd cc
operator_ends _ o h = refl

-- ---- each reading takes a token

mutual
  pub term_shorter : {most n : ℕ} {xs rest : Input} {t : Term} → IsTerm most n xs t rest → length rest < length xs
  term_shorter variable = omega arith
  term_shorter constant = omega arith
  term_shorter (call d) = omega (arith, terms_shorter d)

  pub terms_shorter : {most n k : ℕ} {xs rest : Input} {ts : List Term} → AreTerms most n k xs ts rest → length rest < length xs
  terms_shorter (last_term d) = omega (arith, term_shorter d)
  terms_shorter (more_terms d ds) = omega (arith, term_shorter d, terms_shorter ds)

pub sort_shorter : {xs rest : Input} {s : SortName} → IsSort xs s rest → length rest < length xs
sort_shorter individual = omega arith
sort_shorter user = omega arith

bound_shorter : {xs rest : Input} {s : SortName} → IsBoundSort xs s rest → length rest ≤ length xs
bound_shorter no_sort = omega arith
bound_shorter (with_sort d) = omega (arith, sort_shorter d)

pub index_shorter : {xs rest : Input} {i : Spelling} → IsIndex xs i rest → length rest < length xs
index_shorter named = omega arith
index_shorter numbered = omega arith

pub long_shorter : {xs rest : Input} {i : IndexName} → IsLongIndex xs i rest → length rest < length xs
long_shorter plain = omega arith
long_shorter (indexed d) = omega (arith, index_shorter d)

mutual
  pub unit_shorter : {most n : ℕ} {xs rest : Input} {f : Formula} → IsUnit most n xs f rest → length rest < length xs
  unit_shorter (brackets d) = omega (arith, formula_shorter d)
  unit_shorter (not d) = omega (arith, unit_shorter d)
  unit_shorter (box d) = omega (arith, unit_shorter d)
  unit_shorter (dia d) = omega (arith, unit_shorter d)
  unit_shorter (box_of i d) = omega (arith, index_shorter i, unit_shorter d)
  unit_shorter (dia_of i d) = omega (arith, index_shorter i, unit_shorter d)
  unit_shorter (long e i d) = omega (arith, long_shorter i, formula_shorter d)
  unit_shorter (distinct d) = omega (arith, terms_shorter d)
  unit_shorter (all d) = omega (arith, quantified_shorter d)
  unit_shorter (exists d) = omega (arith, quantified_shorter d)
  unit_shorter g.true = omega arith
  unit_shorter g.false = omega arith
  unit_shorter atom = omega arith
  unit_shorter (atom_of d) = omega (arith, terms_shorter d)
  unit_shorter (same d e) = omega (arith, term_shorter d, term_shorter e)
  unit_shorter (differ d e) = omega (arith, term_shorter d, term_shorter e)

  pub quantified_shorter : {most n : ℕ} {q : Quantifier} {xs rest : Input} {f : Formula} → IsQuantified most q n xs f rest → length rest < length xs
  quantified_shorter (last_variable s d) = omega (arith, bound_shorter s, unit_shorter d)
  quantified_shorter (more_variables s d) = omega (arith, bound_shorter s, quantified_shorter d)

  pub units_shorter : {most n : ℕ} {j : Sign} {xs rest : Input} {fs : List Formula} → AreUnits most j n xs fs rest → length fs + length rest ≤ length xs
  units_shorter (last_unit d) = omega (arith, unit_shorter d)
  units_shorter (more_units d ds) = omega (arith, unit_shorter d, units_shorter ds)

  pub formula_shorter : {most n : ℕ} {xs rest : Input} {f : Formula} → IsFormula most n xs f rest → length rest < length xs
  formula_shorter (alone d) = unit_shorter d
  formula_shorter (and d ds) = omega (arith, unit_shorter d, units_shorter ds)
  formula_shorter (or d ds) = omega (arith, unit_shorter d, units_shorter ds)
  formula_shorter (pair d o e) = omega (arith, unit_shorter d, unit_shorter e)

-- no more terms than tokens, and any count that is enough
terms_count : {most n k : ℕ} {xs rest : Input} {ts : List Term} → AreTerms most n k xs ts rest → length ts ≤ length xs
terms_count (last_term d) = omega (arith, term_shorter d)
terms_count (more_terms d ds) = omega (arith, term_shorter d, terms_count ds)

recounted : {most n k : ℕ} {xs rest : Input} {ts : List Term} → AreTerms most n k xs ts rest → (j : ℕ) → length ts ≤ j → AreTerms most n j xs ts rest
recounted (last_term d) zero h = absurd (omega arith)
recounted (last_term d) (suc j) h = last_term d
recounted (more_terms d ds) zero h = absurd (omega arith)
recounted (more_terms d ds) (suc j) h = more_terms d (recounted ds j (omega arith))

many_found : {most n k : ℕ} {xs rest : Input} {ts : List Term} → AreTerms most n k xs ts rest → many most (term most n) xs ≡ Some (ts, rest)
many_found {xs = xs} d = terms_found (recounted d (length xs) (terms_count d)) []

-- ---- equations

equal_found : {most n : ℕ} {e : Spelling} {xs mid rest : Input} {s t : Term} → IsTerm most n xs s ((sign.Equal, e) ∷ mid) → IsTerm most n mid t rest → sees sign.Open rest ≡ false → unit_from most n xs ≡ Some (formulas.Same s t, rest)
unfolding sees same_sign
equal_found variable d h = rw (term_found d h) refl
equal_found {most = most} {n = n} {e = e} {mid = mid} constant d h = rw (no_arguments most (argument most n) ((sign.Equal, e) ∷ mid) refl) (rw (term_found d h) refl)
equal_found {most = most} (call {n = m} {s = s} {xs = ys} c) d h = rw (some_arguments most (term most m) s ys, terms_found c []) (rw (term_found d h) refl)

differ_found : {most n : ℕ} {e : Spelling} {xs mid rest : Input} {s t : Term} → IsTerm most n xs s ((sign.Differ, e) ∷ mid) → IsTerm most n mid t rest → sees sign.Open rest ≡ false → unit_from most n xs ≡ Some (formulas.Differ s t, rest)
unfolding sees same_sign
differ_found variable d h = rw (term_found d h) refl
differ_found {most = most} {n = n} {e = e} {mid = mid} constant d h = rw (no_arguments most (argument most n) ((sign.Differ, e) ∷ mid) refl) (rw (term_found d h) refl)
differ_found {most = most} (call {n = m} {s = s} {xs = ys} c) d h = rw (some_arguments most (term most m) s ys, terms_found c []) (rw (term_found d h) refl)

-- ---- formulas

pub sort_found : {xs rest : Input} {s : SortName} → IsSort xs s rest → sort_name xs ≡ Some (s, rest)
unfolding sort_name
sort_found individual = refl
sort_found user = refl

other_than_colon : (rest : Input) → sees sign.Colon rest ≡ false → bound_sort rest ≡ Some (sorts.Individual, rest)
unfolding bound_sort sees same_sign
other_than_colon [] h = refl
other_than_colon ((sign.Colon, v) ∷ rest) h = absurd cc
other_than_colon ((_, v) ∷ rest) h = refl

bound_found : {xs rest : Input} {s : SortName} → IsBoundSort xs s rest → sees sign.Colon rest ≡ false → bound_sort xs ≡ Some (s, rest)
unfolding bound_sort
bound_found {rest = rest} no_sort h = other_than_colon rest h
bound_found (with_sort d) h = sort_found d

pub index_found : {xs rest : Input} {i : Spelling} → IsIndex xs i rest → index_text xs ≡ Some (i, rest)
unfolding index_text
index_found named = refl
index_found numbered = refl

pub long_found : {xs rest : Input} {i : IndexName} → IsLongIndex xs i rest → long_index xs ≡ Some (i, rest)
unfolding long_index expect sees same_sign
long_found plain = refl
long_found (indexed d) = rw (index_found d) refl

long_at : (inner : Parser Formula) (j : Sign) (m : Mode) (i : Input) → mode_of j ≡ Some m → p.long inner (mode_of j) i ≡ p.long inner (Some m) i
long_at inner j m i e = ap (λ (o : Option Mode). p.long inner o i) e

mutual
  unfolding group whole units units_from scope p.variable modal_of p.long unit expect after sees same_sign

  pub unit_found : {most n : ℕ} {xs rest : Input} {f : Formula} → IsUnit most n xs f rest → ends_unit (kind rest) ≡ true → unit most n xs ≡ Some (f, rest)
  unit_found (brackets d) h = rw (formula_found d refl) refl
  unit_found (not d) h = rw (unit_found d h) refl
  unit_found (box d) h = rw (unit_found d h) refl
  unit_found (dia d) h = rw (unit_found d h) refl
  unit_found (box_of i d) h = rw (index_found i) (rw (unit_found d h) refl)
  unit_found (dia_of i d) h = rw (index_found i) (rw (unit_found d h) refl)
  unit_found {most = most} (long {n = m} {j = j} {m = mode} {b = b} {w = w} {xs = ys} e i d) h = unit_is most (suc m) ((sign.LeftBrace, b) ∷ (j, w) ∷ ys) ∙ long_at (unit most m) j mode ((j, w) ∷ ys) e ∙ rw (long_found i) (rw (formula_found d refl) refl)
  unit_found (distinct d) h = rw (many_found d) refl
  unit_found {most = most} {n = n} {xs = xs} (all d) h = unit_is most n xs ∙ quantified_found d h
  unit_found {most = most} {n = n} {xs = xs} (exists d) h = unit_is most n xs ∙ quantified_found d h
  unit_found {most = most} {n = n} {xs = xs} g.true h = unit_is most n xs
  unit_found {most = most} {n = n} {xs = xs} g.false h = unit_is most n xs
  unit_found {most = most} {n = n} {xs = xs} {rest = rest} (atom {a = a}) h = unit_is most n xs ∙ rw (no_arguments most (argument most n) rest (no_open rest h)) (name_ends (term most n) (token_text a) [] (kind rest) rest h)
  unit_found {most = most} {xs = xs} {rest = rest} (atom_of {n = m} {a = a} {s = s} {xs = ys} {ts = ts} d) h = unit_is most (suc m) xs ∙ rw (some_arguments most (term most m) s ys, terms_found d []) (name_ends (term most (suc m)) (token_text a) ts (kind rest) rest h)
  unit_found {most = most} {n = n} {xs = xs} {rest = rest} (same d e) h = unit_is most n xs ∙ equal_found d e (no_open rest h)
  unit_found {most = most} {n = n} {xs = xs} {rest = rest} (differ d e) h = unit_is most n xs ∙ differ_found d e (no_open rest h)

  pub quantified_found : {most n : ℕ} {q : Quantifier} {xs rest : Input} {f : Formula} → IsQuantified most q n xs f rest → ends_unit (kind rest) ≡ true → quantified most q n xs ≡ Some (f, rest)
  quantified_found (last_variable s d) h = rw (bound_found s refl) (rw (unit_found d h) refl)
  quantified_found (more_variables s d) h = rw (bound_found s refl) (rw (quantified_found d h) refl)

  pub units_found : {most n : ℕ} {j : Sign} {xs rest : Input} {fs : List Formula} → AreUnits most j n xs fs rest → (k : ℕ) (found : List Formula) → length fs ≤ k → same_sign (kind rest) j ≡ false → ends_unit (kind rest) ≡ true → same_sign j j ≡ true → ends_unit j ≡ true → units_from (unit most n) j k found xs ≡ Some (found ++ fs, rest)
  units_found (last_unit d) zero found fits other h itself joins = absurd (omega arith)
  units_found (last_unit d) (suc k) found fits other h itself joins = rw (unit_found d h) (rw other refl)
  units_found (more_units d ds) zero found fits other h itself joins = absurd (omega arith)
  units_found (more_units {rest = rest} {f = f} {fs = fs} d ds) (suc k) found fits other h itself joins =
      rw (unit_found d joins) (rw itself (units_found ds k (found ++ f ∷ []) (omega arith) other h itself joins ∙ ap (λ (x : List Formula). Some (x, rest)) (append_assoc found (f ∷ []) fs)))

  pub formula_found : {most n : ℕ} {xs rest : Input} {f : Formula} → IsFormula most n xs f rest → ends_formula (kind rest) ≡ true → whole (unit most n) xs ≡ Some (f, rest)
  formula_found {most = most} {n = n} {rest = rest} {f = f} (alone d) h = rw (unit_found d (unit_at_end (kind rest) h)) (chain_ends (unit most n) f (kind rest) rest h)
  formula_found {rest = rest} (and {mid = mid} {f = f} d ds) h =
      rw (unit_found d refl) (rw (units_found ds (length mid) (f ∷ []) (omega (arith, units_shorter ds)) (other_than_and (kind rest) h) (unit_at_end (kind rest) h) refl refl) refl)
  formula_found {rest = rest} (or {mid = mid} {f = f} d ds) h =
      rw (unit_found d refl) (rw (units_found ds (length mid) (f ∷ []) (omega (arith, units_shorter ds)) (other_than_or (kind rest) h) (unit_at_end (kind rest) h) refl refl) refl)
  formula_found {most = most} {n = n} {rest = rest} (pair {j = j} {o = o} {s = s} {mid = mid} {f = f} d op e) h =
      rw (unit_found d (operator_ends j o op)) (chain_joins (unit most n) f j o ((j, s) ∷ mid) op ∙ rw (unit_found e (unit_at_end (kind rest) h)) refl)
