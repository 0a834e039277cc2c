use Rattle.structure_tests.proofs.thousand_worlds.thousand_worlds_of_a_thousand.Goals as goal

pub first_fault-requires-clause-over : goal.first_fault-requires-clause-over
first_fault-requires-clause-over t c = c.let_exist.ensures.same _ (c.relate_worlds.ensures.same _ c.in_ok-kripke.ensures.over)
