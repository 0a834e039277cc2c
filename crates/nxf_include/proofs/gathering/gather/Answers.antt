use Rattle.nxf_include.proofs.gathering.gather.Goals as goal

pub returns-clause-answers : goal.returns-clause-answers
returns-clause-answers g c = rw c.deref_mut.ensures.value at c.gather_from.ensures.answers
