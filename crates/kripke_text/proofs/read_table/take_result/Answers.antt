use Rattle.std.proofs.Common.{ap}
use Rattle.std.specs.Option.{option_map}
use Rattle.nxf_tree.specs.Rows.{size_at}
use Rattle.nxf_tree.specs.Signature.{sort_at}
use Rattle.kripke_text_definitions.specs.KripkeText as text
use Rattle.kripke_text.proofs.TakeLines.{takes_nothing}
use Rattle.kripke_text.proofs.read_table.take_result.Goals as goal

pub returns-in-None : goal.returns-in-None
returns-in-None c = takes_nothing (text.value_of (option_map (sort_at c.args.over.now.sorts) c.args.gives)) (option_map (size_at c.args.kripke.now.sizes) c.args.gives) c.args.matcher.now (λ n. ap (λ o. text.value_of (option_map (sort_at c.args.over.now.sorts) o) n) c.in-None.is) (ap (option_map (size_at c.args.kripke.now.sizes)) c.in-None.is) c.requires.agrees
