use Rattle.std.proofs.Common.{◌∙◌}
use Rattle.nxf_signatures.proofs.Lookups.{lookup_is}
use Rattle.nxf_signatures.proofs.symbol_type.type_in_table.Goals as goal

pub returns : goal.returns
returns c = c.get.ensures.value ∙ lookup_is c.args.symbols.now.entries c.args.name.now
