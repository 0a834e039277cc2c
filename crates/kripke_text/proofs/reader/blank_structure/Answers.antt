use Rattle.kripke_text.proofs.ReadWhole.{classical_sizes}
use Rattle.kripke_text.proofs.reader.blank_structure.Goals as goal

pub new-requires-clause-sizes : goal.new-requires-clause-sizes
new-requires-clause-sizes c = classical_sizes c.args.over.now c.args.head.now.sizes c.args.head.now.actual c.requires.worlds c.requires.actual c.requires.sizes
