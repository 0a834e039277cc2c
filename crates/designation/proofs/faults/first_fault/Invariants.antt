use Rattle.std.proofs.Common.{◌≡◌, drop}
use Rattle.nxf_tree.specs.Structures.{kripke_model}
use Rattle.fin_struct.specs.FirstFault.{meets_condition, terms_from, term_conditions}
use Rattle.fin_struct.specs.KripkeTables.{kripke_structure}
use Rattle.structure_laws.proofs.FirstFaultLemmas.{first_failing}
use Rattle.designation.proofs.faults.first_fault.Given as goal

abbrev pub invariant-loop-place : goal.invariant-loop-place
invariant-loop-place l =
    first_failing (meets_condition l.over (kripke_model l.over (kripke_structure l.kripke))) (terms_from l.place (drop l.place l.over.symbols))
    ≡ first_failing (meets_condition l.over (kripke_model l.over (kripke_structure l.kripke))) (term_conditions l.over)
