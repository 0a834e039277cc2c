use Rattle.nxf_tree.specs.Shapes.{And_is}
use Rattle.nxf_tree.proofs.build.both.Goals as goal

pub returns : goal.returns
returns c = rw (c.in_ok-push-2.ensures.pushed, c.in_ok-push.ensures.pushed, c.in_ok-parts.ensures) (And_is c.args.left c.args.right)
