use Rattle.nxf_signatures.proofs.occurring.Occurring.note_key.Goals as goal

pub returns-in-Index : goal.returns-in-Index
returns-in-Index c = rw c.in-Index.is c.note_index.ensures
