use Rattle.nxf_tree.specs.Shapes.{Quant_is}
use Rattle.nxf_tree.proofs.build.quantified.Goals as goal

pub returns-in-Ok : goal.returns-in-Ok
returns-in-Ok c = rw c.in-Ok.ensures (Quant_is c.args.quantifier c.args.variable c.args.sort c.args.body)
