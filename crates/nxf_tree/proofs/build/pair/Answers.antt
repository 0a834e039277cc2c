use Rattle.nxf_tree.specs.Shapes.{Pair_is}
use Rattle.nxf_tree.proofs.build.pair.Goals as goal

pub returns : goal.returns
returns c = rw (c.in_ok-left.ensures, c.in_ok-boxed.ensures) (Pair_is c.args.op c.args.left c.args.right)
