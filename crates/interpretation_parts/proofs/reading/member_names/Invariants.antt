use Rattle.std.proofs.Common.{◌≡◌, drop}
use Rattle.interpretation_parts.specs.steps.Readings.{names_in, member_list, before_names}
use Rattle.interpretation_parts.proofs.reading.member_names.Given as goal

abbrev pub invariant-loop-formula : goal.invariant-loop-formula
invariant-loop-formula l = before_names (names_in l.names) (member_list l.x (drop l.formula-index l.formulas)) ≡ member_list l.x l.formulas
