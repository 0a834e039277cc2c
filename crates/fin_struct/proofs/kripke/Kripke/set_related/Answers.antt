use Rattle.fin_struct.proofs.KripkeLemmas.{seen_kripke, relation_in, bit_below, written_now, same_shapes}
use Rattle.fin_struct.proofs.kripke.Kripke.set_related.Goals as goal

pub invariant_of-self : goal.invariant_of-self
invariant_of-self c =
    let now = c.args.self.now in
    let p = relation_in now c.args.index c.args.from c.args.to (seen_kripke _ now c.self.invariant c.self.view_is) c.requires.index_in c.requires.from_in c.requires.to_in in
    written_now _ now c.set.new.self c.args.index _ c.bit.result c.self.invariant c.self.view_is p.table_in (bit_below _ c.bit.result c.args.yes p.predicate c.bit.ensures) c.set.ensures.written

pub returns-clause-shapes : goal.returns-clause-shapes
returns-clause-shapes c = same_shapes _ c.args.self.now c.set.new.self c.args.index _ c.bit.result c.self.view_is c.set.ensures.written
