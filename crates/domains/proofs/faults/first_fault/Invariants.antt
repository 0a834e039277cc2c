use Rattle.std.proofs.Common.{◌≡◌, drop}
use Rattle.fin_struct.specs.FirstFault.{domains_from, domain_conditions}
use Rattle.structure_laws.proofs.FirstFaultLemmas.{first_failing}
use Rattle.domains.proofs.FaultLemmas.{holds_in}
use Rattle.domains.proofs.faults.first_fault.Given as goal

abbrev pub invariant-loop-place : goal.invariant-loop-place
invariant-loop-place l =
    first_failing (holds_in l.over l.kripke) (domains_from l.over.indexes l.place (drop l.place l.over.sorts))
    ≡ first_failing (holds_in l.over l.kripke) (domain_conditions l.over)
