-- What is left after a term or a formula is an end of what was there: what holds of each item holds of each that is left.
use Rattle.std.proofs.Common.{ℕ, List}
use Rattle.std.specs.List.{AllByRecursion}
use Rattle.nxf_terminals.specs.declared.sign.Sign.{Sign}
use Rattle.nxf_terminals.specs.Input.{Spelling, Item, Input}
use Rattle.nxf_tree.specs.declared.tree.SortName.{SortName}
use Rattle.nxf_tree.specs.declared.tree.Term.{Term}
use Rattle.nxf_tree.specs.declared.tree.Formula.{Formula}
use Rattle.nxf_tree.specs.declared.tree.IndexName.{IndexName}
use Rattle.nxf_tree.specs.declared.tree.Quantifier.{Quantifier}
use Rattle.syntax_definitions.specs.Formulas.{IsTerm, variable, constant, call, AreTerms, last_term, more_terms, IsSort, individual, user, IsBoundSort, no_sort, with_sort, IsIndex, named, numbered, IsLongIndex, plain, indexed, IsUnit, brackets, not, box, dia, box_of, dia_of, long, distinct, all, exists, atom, atom_of, same, differ, IsQuantified, last_variable, more_variables, AreUnits, last_unit, more_units, IsFormula, alone, and, or, pair}
use Rattle.syntax_definitions.specs.Formulas as g

module _ (Q : Item → Type 0) where
  mutual
    pub term_left : {most n : ℕ} {xs rest : Input} {t : Term} → IsTerm most n xs t rest → AllByRecursion Q xs → AllByRecursion Q rest
    term_left variable q = q.1
    term_left constant q = q.1
    term_left (call ds) q = terms_left ds q.1.1

    pub terms_left : {most n k : ℕ} {xs rest : Input} {ts : List Term} → AreTerms most n k xs ts rest → AllByRecursion Q xs → AllByRecursion Q rest
    terms_left (last_term d) q = let r = term_left d q in r.1
    terms_left (more_terms d ds) q = let r = term_left d q in terms_left ds r.1

  pub sort_left : {xs rest : Input} {s : SortName} → IsSort xs s rest → AllByRecursion Q xs → AllByRecursion Q rest
  sort_left individual q = q.1
  sort_left user q = q.1

  pub bound_left : {xs rest : Input} {s : SortName} → IsBoundSort xs s rest → AllByRecursion Q xs → AllByRecursion Q rest
  bound_left no_sort q = q
  bound_left (with_sort d) q = sort_left d q.1

  pub index_left : {xs rest : Input} {i : Spelling} → IsIndex xs i rest → AllByRecursion Q xs → AllByRecursion Q rest
  index_left named q = q.1
  index_left numbered q = q.1

  pub long_left : {xs rest : Input} {i : IndexName} → IsLongIndex xs i rest → AllByRecursion Q xs → AllByRecursion Q rest
  long_left plain q = q.1
  long_left (indexed d) q = let r = index_left d q.1.1 in r.1.1

  mutual
    pub unit_left : {most n : ℕ} {xs rest : Input} {f : Formula} → IsUnit most n xs f rest → AllByRecursion Q xs → AllByRecursion Q rest
    unit_left (brackets d) q = let r = formula_left d q.1 in r.1
    unit_left (not d) q = unit_left d q.1
    unit_left (box d) q = unit_left d q.1
    unit_left (dia d) q = unit_left d q.1
    unit_left (box_of i d) q = let r = index_left i q.1.1 in unit_left d r.1
    unit_left (dia_of i d) q = let r = index_left i q.1.1 in unit_left d r.1
    unit_left (long e i d) q = let r = long_left i q.1.1 in let s = formula_left d r.1.1 in s.1
    unit_left (distinct ds) q = terms_left ds q.1.1
    unit_left (all d) q = quantified_left d q.1.1
    unit_left (exists d) q = quantified_left d q.1.1
    unit_left g.true q = q.1
    unit_left g.false q = q.1
    unit_left atom q = q.1
    unit_left (atom_of ds) q = terms_left ds q.1.1
    unit_left (same d e) q = let r = term_left d q in term_left e r.1
    unit_left (differ d e) q = let r = term_left d q in term_left e r.1

    pub quantified_left : {most n : ℕ} {k : Quantifier} {xs rest : Input} {f : Formula} → IsQuantified most k n xs f rest → AllByRecursion Q xs → AllByRecursion Q rest
    quantified_left (last_variable s d) q = let r = bound_left s q.1 in unit_left d r.1.1
    quantified_left (more_variables s d) q = let r = bound_left s q.1 in quantified_left d r.1

    pub units_left : {most n : ℕ} {j : Sign} {xs rest : Input} {fs : List Formula} → AreUnits most j n xs fs rest → AllByRecursion Q xs → AllByRecursion Q rest
    units_left (last_unit d) q = unit_left d q
    units_left (more_units d ds) q = let r = unit_left d q in units_left ds r.1

    pub formula_left : {most n : ℕ} {xs rest : Input} {f : Formula} → IsFormula most n xs f rest → AllByRecursion Q xs → AllByRecursion Q rest
    formula_left (alone d) q = unit_left d q
    formula_left (and d ds) q = let r = unit_left d q in units_left ds r.1
    formula_left (or d ds) q = let r = unit_left d q in units_left ds r.1
    formula_left (pair d op e) q = let r = unit_left d q in unit_left e r.1
