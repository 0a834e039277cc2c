use Rattle.std.proofs.Common.{◌≡◌, ◌≤◌, ◌++◌, List, length, drop}
use Rattle.std.specs.Prelude.{Some}
use Rattle.numbered_definitions.specs.NamedForm.{FormulaStatement, all_named}
use Rattle.nxf_embed.specs.steps.Chosen.{chosen}
use Rattle.nxf_embed.proofs.chosen.add_formulas.Given as goal

abbrev pub invariant-loop-at : goal.invariant-loop-at
invariant-loop-at l = record {
  within : l.next ≤ length l.parts;
  added : (fs : List FormulaStatement) → all_named l.checked.signature l.checked.formulas ≡ Some fs
      → l.statements ++ chosen l.checked.signature (drop l.at fs) (drop l.next l.parts) ≡ l.initial.statements ++ chosen l.checked.signature fs l.parts;
}
