use Rattle.std.proofs.Common.{◌≡◌, ◌+◌, ◌*◌, take}
use Rattle.nxf_tree.specs.Depth.{formula_depth, formula_list_depth}
use Rattle.formula_cells.specs.Putting.{PutsAll}
use Rattle.classical_numbering.specs.steps.Numbering.{NamesFormulas}
use Rattle.classical_numbering.proofs.formulas.+number_formula.Given as goal

abbrev pub decreases-number_formula : goal.decreases-number_formula
decreases-number_formula l = 2 * formula_depth l.formula.now

abbrev pub decreases-number_quantified : goal.decreases-number_quantified
decreases-number_quantified l = 2 * formula_depth l.body.now + 1

abbrev pub decreases-number_formulas : goal.decreases-number_formulas
decreases-number_formulas l = 2 * formula_list_depth l.formulas.now + 1

-- the formulas so far
abbrev pub invariant-number_formulas-loop-formula : goal.invariant-number_formulas-loop-formula
invariant-number_formulas-loop-formula l = record {
  same : l.binders.items ≡ l.fn.binders.items;
  puts : PutsAll (NamesFormulas l.names.over.now l.fn.binders.items (take l.formula-index l.formulas)) l.fn.cells l.cells l.parts;
}
