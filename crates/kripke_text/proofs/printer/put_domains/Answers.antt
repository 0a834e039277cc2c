use Rattle.std.proofs.Common.{arith, ap, length}
use Rattle.kripke_text_definitions.specs.KripkeText.{domain_statement}
use Rattle.kripke_text.proofs.Pages.{page_next, domain_first, sizes_long}
use Rattle.kripke_text.proofs.printer.put_domains.Goals as goal

pub loop-number-preserved : goal.loop-number-preserved
loop-number-preserved c =
    let sorts = c.as_slice-sort-items.result.now in
    let long = sizes_long c.args.over.now.sorts c.args.kripke.now.sizes c.requires.over.sorts in
    let first = domain_first sorts c.args.kripke.now.sizes c.loop-number.number c.sort-item.result c.size.result c.loop-number-test.true (omega (arith, long, ap length c.as_slice-sort-items.ensures)) c.sort-item.is c.size.ensures in
    page_next c.loop-number.page c.domain_statement.new.out _ (domain_statement c.sort-item.result.name c.size.result) _ _ first c.in_ok-domain_statement.ensures c.loop-number.invariant
