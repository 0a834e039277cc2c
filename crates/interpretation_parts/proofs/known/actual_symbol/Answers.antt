use Rattle.interpretation_parts.proofs.DeclarationLemmas.{actual_is}
use Rattle.interpretation_parts.proofs.known.actual_symbol.Goals as goal

pub returns : goal.returns
returns c = actual_is c.in_ok-name.name c.new-args.result c.in_ok-name.ensures c.new-args.ensures
