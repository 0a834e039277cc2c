use Rattle.structure_tests.proofs.thousand_worlds.frame_fault.Goals as goal

pub first_fault-requires-clause-over : goal.first_fault-requires-clause-over
first_fault-requires-clause-over c = c.relate_worlds.ensures.same _ c.in_ok-kripke.ensures.over
