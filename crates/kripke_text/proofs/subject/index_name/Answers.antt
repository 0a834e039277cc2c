use Rattle.std.proofs.Common.{sym}
use Rattle.structure_laws.proofs.FirstFaultLemmas.{index_at-place}
use Rattle.kripke_text.proofs.subject.index_name.Goals as goal

pub returns : goal.returns
returns c = sym (index_at-place c.args.over.now.indexes c.args.index c.get.result.now c.get.ensures)
