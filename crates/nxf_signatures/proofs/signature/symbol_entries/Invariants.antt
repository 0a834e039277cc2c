use Rattle.std.proofs.Common.{◌≡◌, ◌++◌}
use Rattle.std.specs.Prelude.{map}
use Rattle.nxf_tree.specs.SignatureOf.{symbol_entry}
use Rattle.logic_spec.specs.Asked.{asked_by}
use Rattle.nxf_signatures.specs.steps.Tables.{uses_in}
use Rattle.nxf_signatures.specs.Places.{sort_list}
use Rattle.nxf_signatures.proofs.signature.symbol_entries.Given as goal

abbrev pub invariant-loop-name : goal.invariant-loop-name
invariant-loop-name l =
    map (symbol_entry (sort_list l.tables.individual l.tables.declarations.sorts.keys) (asked_by l.spec)) (uses_in l.tables.occurring.symbols.entries)
    ≡ l.entries ++ map (symbol_entry (sort_list l.tables.individual l.tables.declarations.sorts.keys) (asked_by l.spec)) (uses_in l.name-iterator)
