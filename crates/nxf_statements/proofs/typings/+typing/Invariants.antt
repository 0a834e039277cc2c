use Rattle.std.proofs.Common.{◌+◌, ◌*◌}
use Rattle.nxf_statements.proofs.typings.+typing.Given as goal

abbrev pub decreases-grouped : goal.decreases-grouped
decreases-grouped l = 3 * l.left

abbrev pub decreases-typing_from : goal.decreases-typing_from
decreases-typing_from l = 3 * l.left + 1

abbrev pub decreases-typing : goal.decreases-typing
decreases-typing l = 3 * l.left + 2
