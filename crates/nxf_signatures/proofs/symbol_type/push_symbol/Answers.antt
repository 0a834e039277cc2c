use Rattle.std.proofs.Common.{◌∙◌}
use Rattle.indexmap.proofs.CallerLemmas.{insert_entry-new}
use Rattle.nxf_tree.specs.Names.{same_text}
use Rattle.nxf_signatures.proofs.Lookups.{lookup_is, uses_in-append}
use Rattle.nxf_signatures.proofs.symbol_type.push_symbol.Goals as goal

pub returns : goal.returns
returns c =
    let new = insert_entry-new same_text c.args.symbols.now c.args.name.now c.args.kind (lookup_is c.args.symbols.now.entries c.args.name.now ∙ c.requires) in
    rw (c.in_ok-insert.ensures.entries, c.in_ok-copy.ensures, new) (uses_in-append c.args.symbols.now.entries _)
