use Rattle.nxf_tree.specs.Shapes.{Not_is}
use Rattle.nxf_tree.proofs.build.negated.Goals as goal

pub returns-in-Ok : goal.returns-in-Ok
returns-in-Ok c = rw c.in-Ok.ensures (Not_is c.args.part)
