use Rattle.std.proofs.Common.{◌≡◌, drop}
use Rattle.nxf_tree.specs.Conditions.{meets_scheme}
use Rattle.fin_struct.specs.KripkeTables.{related_in}
use Rattle.structure_laws.proofs.FirstFaultLemmas.{first_failing}
use Rattle.frames.proofs.faults.first_unmet.Given as goal

abbrev pub invariant-loop-scheme : goal.invariant-loop-scheme
invariant-loop-scheme l =
    first_failing (λ scheme. meets_scheme scheme l.kripke.worlds (related_in l.kripke l.index)) (drop l.scheme-index l.schemes)
    ≡ first_failing (λ scheme. meets_scheme scheme l.kripke.worlds (related_in l.kripke l.index)) l.schemes
