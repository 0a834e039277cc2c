use Rattle.nxf_include.proofs.loading.load_one.Goals as goal

pub returns-clause-bytes : goal.returns-clause-bytes
returns-clause-bytes g c = rw c.deref_mut.ensures.value at c.load_one_from.ensures.bytes
