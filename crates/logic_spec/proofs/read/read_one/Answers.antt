use Rattle.std.proofs.Common.{Ok, ap, sym, ◌∙◌}
use Rattle.nxf_tree.specs.Specification.{specification}
use Rattle.logic_spec.proofs.read.read_one.Goals as goal

pub returns-in-Ok : goal.returns-in-Ok
returns-in-Ok c =
    rw c.in_ok-judge_logic.ensures (ap Ok (sym (c.in-Ok.ensures ∙ ap (specification c.args.place) c.as_slice.ensures)))
