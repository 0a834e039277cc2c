use Rattle.std.proofs.Common.{◌+◌, ◌*◌}
use Rattle.nxf_statements.proofs.typings.+type_of.Given as goal

abbrev pub decreases-in_brackets : goal.decreases-in_brackets
decreases-in_brackets l = 3 * l.left

abbrev pub decreases-type_from : goal.decreases-type_from
decreases-type_from l = 3 * l.left + 1

abbrev pub decreases-type_of : goal.decreases-type_of
decreases-type_of l = 3 * l.left + 2
