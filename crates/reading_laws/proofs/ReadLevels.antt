-- What is read with n levels needs no more.
use Rattle.std.proofs.Common.{ℕ, suc, ◌≤◌, Bool, true, false, List, [], ◌∷◌, Result, Ok, Err, arith}
use Rattle.std.specs.Prelude.{IfOk}
use Rattle.tptp_lex.specs.Texts.{token_text}
use Rattle.tptp_lex.specs.declared.token.Token.{Token}
use Rattle.nxf_terminals.specs.declared.sign.Sign.{Sign}
use Rattle.nxf_tree.specs.declared.profile.Profile.{Profile}
use Rattle.nxf_terminals.specs.Input.{Input}
use Rattle.nxf_tree.specs.declared.tree.Term.{Term}
use Rattle.nxf_tree.specs.declared.tree.Formula.{Formula}
use Rattle.nxf_tree.specs.declared.tree.Mode.TheVariants as mode
use Rattle.nxf_tree.specs.declared.tree.IndexName.TheVariants as index
use Rattle.nxf_tree.specs.declared.tree.Quantifier.{Quantifier}
use Rattle.nxf_tree.specs.declared.tree.Statement.{Statement}
use Rattle.nxf_tree.specs.declared.tree.File.{File}
use Rattle.nxf_tree.specs.Text.{has_brackets}
use Rattle.syntax_definitions.specs.Formulas.{IsTerm, variable, constant, call, AreTerms, last_term, more_terms, IsUnit, brackets, not, box, dia, box_of, dia_of, long, distinct, all, exists, atom, atom_of, same, differ, IsQuantified, last_variable, more_variables, AreUnits, last_unit, more_units, IsFormula, alone, and, or, pair}
use Rattle.syntax_definitions.specs.Formulas as g
use Rattle.syntax_definitions.specs.Statements.{IsBody, IsStatement, annotated, noted, include, include_some}
use Rattle.syntax_definitions.specs.Statements as s
use Rattle.nxf_tree.specs.declared.tree.Role.{Role}
use Rattle.nxf_tree.specs.declared.tree.Body.{Body}
use Rattle.nxf_tree.specs.declared.tree.Statement.TheVariants as statement
use Rattle.nxf_tree.specs.declared.tree.BodyKind.{BodyKind}
use Rattle.syntax_definitions.specs.Files.{AreRead, no_more, one_more}
use Rattle.nxf_tree.specs.Profiles.{levels_of}
use Rattle.syntax_definitions.specs.Spells.{TokensSpell}
use Rattle.syntax_definitions.specs.Levels.{term_levels, list_levels, with_brackets, formula_levels, unit_levels, unit_list_levels, statement_levels, statement_list_levels, file_levels}
use Rattle.syntax_definitions.proofs.CallerLemmas.{levels_of_App, levels_of_And, levels_of_Or, levels_of_Not, levels_of_Pair, levels_of_Quant, levels_of_Modal}

-- brackets take a level at most
brackets_by : (b : Bool) (k n : ℕ) → k ≤ n → with_brackets b k ≤ suc n
brackets_by true k n h = omega (arith, h)
brackets_by false k n h = omega (arith, h)

without_by : (b : Bool) (k n : ℕ) → with_brackets b k ≤ n → k ≤ n
without_by true k n h = omega (arith, h)
without_by false k n h = h

module _ (most : ℕ) where
  mutual
    term_read : {n : ℕ} {xs rest : Input} {t : Term} → IsTerm most n xs t rest → term_levels t ≤ n
    term_read variable = omega arith
    term_read (constant {a = a}) = omega (arith, levels_of_App (token_text a) [])
    term_read (call {a = a} {ts = ts} ds) = omega (arith, levels_of_App (token_text a) ts, terms_read ds)

    terms_read : {n k : ℕ} {xs rest : Input} {ts : List Term} → AreTerms most n k xs ts rest → list_levels ts ≤ suc n
    terms_read (last_term d) = omega (arith, term_read d)
    terms_read (more_terms d ds) = omega (arith, term_read d, terms_read ds)

  mutual
    unit_read : {n : ℕ} {xs rest : Input} {f : Formula} → IsUnit most n xs f rest → unit_levels f ≤ n
    unit_read (brackets {n = n} {f = f} d) = brackets_by (has_brackets f) (formula_levels f) n (formula_read d)
    unit_read (not {f = f} d) = omega (arith, levels_of_Not f, unit_read d)
    unit_read (box {n = n} {f = f} d) = omega (arith, levels_of_Modal mode.Box index.Plain f, without_by (has_brackets f) (formula_levels f) n (unit_read d))
    unit_read (dia {n = n} {f = f} d) = omega (arith, levels_of_Modal mode.Dia index.Plain f, without_by (has_brackets f) (formula_levels f) n (unit_read d))
    unit_read (box_of {n = n} {i = i} {f = f} e d) = omega (arith, levels_of_Modal mode.Box (index.Named i) f, without_by (has_brackets f) (formula_levels f) n (unit_read d))
    unit_read (dia_of {n = n} {i = i} {f = f} e d) = omega (arith, levels_of_Modal mode.Dia (index.Named i) f, without_by (has_brackets f) (formula_levels f) n (unit_read d))
    unit_read (long {m = m} {i = i} {f = f} is e d) = omega (arith, levels_of_Modal m i f, formula_read d)
    unit_read (distinct ds) = terms_read ds
    unit_read (all d) = quantified_read d
    unit_read (exists d) = quantified_read d
    unit_read g.true = omega arith
    unit_read g.false = omega arith
    unit_read atom = omega arith
    unit_read (atom_of ds) = terms_read ds
    unit_read (same d e) = omega (arith, term_read d, term_read e)
    unit_read (differ d e) = omega (arith, term_read d, term_read e)

    quantified_read : {q : Quantifier} {n : ℕ} {xs rest : Input} {f : Formula} → IsQuantified most q n xs f rest → unit_levels f ≤ n
    quantified_read (last_variable {q = q} {v = v} {s = s} {f = f} e d) = omega (arith, levels_of_Quant q v s f, unit_read d)
    quantified_read (more_variables {q = q} {v = v} {s = s} {f = f} e d) = omega (arith, levels_of_Quant q v s f, quantified_read d)

    units_read : {j : Sign} {n : ℕ} {xs rest : Input} {fs : List Formula} → AreUnits most j n xs fs rest → unit_list_levels fs ≤ n
    units_read (last_unit d) = omega (arith, unit_read d)
    units_read (more_units d ds) = omega (arith, unit_read d, units_read ds)

    formula_read : {n : ℕ} {xs rest : Input} {f : Formula} → IsFormula most n xs f rest → formula_levels f ≤ n
    formula_read (alone {n = n} {f = f} d) = without_by (has_brackets f) (formula_levels f) n (unit_read d)
    formula_read (and {f = f} {fs = fs} d ds) = omega (arith, levels_of_And (f ∷ fs), unit_read d, units_read ds)
    formula_read (or {f = f} {fs = fs} d ds) = omega (arith, levels_of_Or (f ∷ fs), unit_read d, units_read ds)
    formula_read (pair {o = o} {f = f} {g = h} d e ds) = omega (arith, levels_of_Pair o f h, unit_read d, unit_read ds)

  body_read : {n : ℕ} {k : BodyKind} {xs rest : Input} {b : Body} (name : List ℕ) (r : Role) → IsBody most n k xs b rest → statement_levels (statement.Annotated name r b) ≤ n
  body_read name r (s.typing d) = omega arith
  body_read name r (s.logic d) = omega arith
  body_read name r (s.formula d) = formula_read d

  statement_read : {w : Bool} {n : ℕ} {xs rest : Input} {s : Statement} → IsStatement w most n xs s rest → statement_levels s ≤ n
  statement_read (annotated {label = label} {r = r} k i ro d) = body_read label r d
  statement_read (noted {label = label} {r = r} k i ro d note) = body_read label r d
  statement_read (include k d) = omega arith
  statement_read (include_some k d ds) = omega arith

  all_read : {w : Bool} {n : ℕ} {ps : List Input} {ss : List Statement} → AreRead w most n ps ss → statement_list_levels ss ≤ n
  all_read no_more = omega arith
  all_read (one_more d ds) = omega (arith, statement_read d, all_read ds)

-- what a call that reads a file ensures of it
pub few_levels : (p : Profile) (bytes : List ℕ) (tokens : List Token) {E : Type 0} (result : Result File E) → IfOk result (λ f. TokensSpell p bytes tokens f) → IfOk result (λ f. file_levels f ≤ levels_of p)
few_levels p bytes tokens (Ok f) read = all_read _ read
few_levels p bytes tokens (Err e) read = tt
