use Rattle.std.proofs.Common.{ap, sym, ◌∙◌}
use Rattle.std.specs.List.{fold}
use Rattle.kripke_text_definitions.specs.KripkeText.{domain_statement}
use Rattle.kripke_text.specs.steps.Comparing.{matched}
use Rattle.kripke_text.proofs.Matching.{same_some, none_some}
use Rattle.kripke_text.proofs.Nexts.{reads_whole, domain_long}
use Rattle.kripke_text.proofs.read_head.read_domain.Goals as goal

pub returns-in_default : goal.returns-in_default
returns-in_default c = λ n p e. none_some n (c.in_default.ensures.all n p (c.len.ensures.tokens _ e ∙ domain_long c.args.sort.now n p))

pub returns : goal.returns
returns c =
    reads_whole (domain_statement c.args.sort.now) _ c.args.matcher.now c.domain_statement.new.out c.in-Some.count c.is_done.result c.only_if.result
    (c.in_ok-domain_statement.ensures ∙ ap (λ o. fold matched o (domain_statement c.args.sort.now c.in-Some.count)) c.again-all.ensures) c.in-Some.ensures.some c.is_done.ensures
    (λ m p e. sym (same_some _ _ (c.in-Some.ensures.all m p (c.len.ensures.tokens _ e ∙ domain_long c.args.sort.now m p)))) c.only_if.ensures
