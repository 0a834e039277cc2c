use Rattle.std.proofs.Common.{◌∙◌}
use Rattle.kripke_text.proofs.Pages.{all_printed}
use Rattle.kripke_text.proofs.printer.print.Goals as goal

pub returns : goal.returns
returns c = c.into_bytes.ensures ∙ all_printed c.args.over.now c.args.kripke.now c.new-page.result c.put_head.new.page c.put_tables.new.page c.put_head.ensures.within c.new-page.ensures c.in_ok-put_head.ensures.head c.in_ok-put_tables.ensures
