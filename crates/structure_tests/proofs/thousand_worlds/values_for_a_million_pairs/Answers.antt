use Rattle.structure_tests.proofs.thousand_worlds.values_for_a_million_pairs.Goals as goal

pub first_fault-requires-clause-over : goal.first_fault-requires-clause-over
first_fault-requires-clause-over t c = c.let_exist.ensures.same _ c.in_ok-kripke.ensures.over
