use Rattle.fin_struct.proofs.KripkeLemmas.{related-listed}
use Rattle.fin_struct.proofs.kripke.Kripke.related.Goals as goal

pub returns-clause-listed : goal.returns-clause-listed
returns-clause-listed c =
    related-listed _ c.args.self.now c.args.index c.args.from c.args.to c.get.result c.self.invariant c.self.view_is c.requires.index_in c.requires.from_in c.requires.to_in c.get.ensures.value
