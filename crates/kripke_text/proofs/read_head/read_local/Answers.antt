use Rattle.std.proofs.Common.{ap, ◌∙◌}
use Rattle.std.specs.List.{fold}
use Rattle.kripke_text.specs.steps.Comparing.{matched}
use Rattle.kripke_text.specs.steps.Taking.{local_marks}
use Rattle.kripke_text.proofs.Nexts.{no_local, reads_local}
use Rattle.kripke_text.proofs.read_head.read_local.Goals as goal

pub returns-in_default : goal.returns-in_default
returns-in_default c = no_local c.args.worlds c.args.matcher.now c.local_front.new.out c.take_number.new.self (c.in_ok-local_front.ensures ∙ ap (λ o. fold matched o local_marks) c.again-left.ensures) c.in_default.ensures

pub returns : goal.returns
returns c =
    reads_local c.args.worlds c.in-Some.actual c.args.matcher.now c.local_front.new.out c.take_number.new.self c.close_statement.new.out c.is_done.result c.only_if.result
    (c.in_ok-local_front.ensures ∙ ap (λ o. fold matched o local_marks) c.again-left.ensures) c.in-Some.ensures c.in_ok-close_statement.ensures c.is_done.ensures c.only_if.ensures
