use Rattle.std.proofs.Common.{◌≡◌, drop, take}
use Rattle.std.specs.Prelude.{Some}
use Rattle.numbered_definitions.specs.NamedForm.{named_forms}
use Rattle.formula_cells.specs.Putting.{PutsAll}
use Rattle.nxf_sorts.specs.steps.Scope.{variables}
use Rattle.nxf_sorts.specs.steps.Numbering.{KnowsAllIndexes, formulas_faults}
use Rattle.nxf_sorts.proofs.formula.+number_formula.Given as goal

abbrev pub invariant-number_formulas-loop-formula : goal.invariant-number_formulas-loop-formula
invariant-number_formulas-loop-formula l = record {
  same : l.binders ≡ l.fn.binders;
  faults : formulas_faults l.names.signature l.names.declared l.fn.binders l.formulas ≡ formulas_faults l.names.signature l.names.declared l.fn.binders (drop l.formula-index l.formulas);
  puts : PutsAll (λ ns. KnowsAllIndexes l.names.signature l.formulas → named_forms l.names.signature (variables l.fn.binders) ns ≡ Some (take l.formula-index l.formulas)) l.fn.cells l.cells l.parts;
}
