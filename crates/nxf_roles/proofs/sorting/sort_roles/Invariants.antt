use Rattle.nxf_roles.proofs.Steps.{IsSorted}
use Rattle.nxf_roles.proofs.sorting.sort_roles.Given as goal

abbrev pub invariant-loop-at : goal.invariant-loop-at
invariant-loop-at l = IsSorted l.statement-items l.at l.entries.items l.conjectured
