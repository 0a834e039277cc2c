use Rattle.std.proofs.Common.{◌≡◌, take}
use Rattle.std.specs.Prelude.{map}
use Rattle.std.specs.List.{All}
use Rattle.formula_cells.specs.Stored.{formulas_in}
use Rattle.classical_evaluation_definitions.specs.ClassicalFaults.{role_formulas}
use Rattle.classical_numbering.specs.Prepared.{role_formula, deepest}
use Rattle.classical_numbering.specs.steps.Numbering.{Stands}
use Rattle.classical_numbering.proofs.problem.prepare.Given as goal

-- the formulas of the statements so far, and the greatest of their depths
abbrev pub invariant-loop-statement : goal.invariant-loop-statement
invariant-loop-statement l = record {
  formulas : map (role_formula l.names.over.now) (formulas_in l.cells) ≡ role_formulas (take l.statement-index l.statements);
  stand : All (Stands l.names.over.now) (formulas_in l.cells);
  deepest : l.depth ≡ deepest (role_formulas (take l.statement-index l.statements));
}
