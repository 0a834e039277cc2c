use Rattle.std.proofs.Common.{◌≡◌, drop}
use Rattle.fin_struct.specs.FirstFault.{monotone_from}
use Rattle.structure_laws.proofs.FirstFaultLemmas.{first_failing}
use Rattle.domains.specs.steps.WorldTests.{meets_in}
use Rattle.domains.proofs.faults.monotone_fault.Given as goal

abbrev pub invariant-loop-index : goal.invariant-loop-index
invariant-loop-index l =
    first_failing (meets_in l.kripke l.regime) (monotone_from l.sort l.index (drop l.index l.indexes))
    ≡ first_failing (meets_in l.kripke l.regime) (monotone_from l.sort 0 l.indexes)
