use Rattle.nxf_tree.specs.Signature.{sort_names}
use Rattle.kripke_text_definitions.specs.KripkeText.{domain_statements}
use Rattle.kripke_text.proofs.Folds.{on_ok}
use Rattle.kripke_text.proofs.Pages.{head_put}
use Rattle.kripke_text.proofs.printer.put_head.Goals as goal

pub returns-clause-head : goal.returns-clause-head
returns-clause-head c =
    let view = c.args.kripke.now in
    on_ok c.put_domains.result (λ h. head_put c.args.page.now c.worlds_statement.new.out c.local_statement.new.out c.put_domains.new.page c.worlds-worlds.result c.actual.result view.worlds view.actual (domain_statements (sort_names c.args.over.now.sorts) view.sizes) c.in_ok-worlds_statement.ensures c.in_ok-local_statement.ensures c.worlds-worlds.ensures.worlds c.actual.ensures.actual h) c.put_domains.ensures
