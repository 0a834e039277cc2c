use Rattle.nxf_tree.specs.Shapes.{Modal_is}
use Rattle.nxf_tree.proofs.build.modal.Goals as goal

pub returns-in-Ok : goal.returns-in-Ok
returns-in-Ok c = rw c.in-Ok.ensures (Modal_is c.args.mode c.args.index c.args.body)
