use Rattle.std.proofs.Common.{◌≡◌, [], take}
use Rattle.indexmap.specs.IndexSet.{insert_all}
use Rattle.nxf_tree.specs.Names.{same_text}
use Rattle.nxf_tree.specs.Occurrences.{declared}
use Rattle.nxf_tree.specs.SignatureOf.{same_symbol}
use Rattle.nxf_signatures.specs.steps.Tables.{uses_in, sort_texts}
use Rattle.nxf_signatures.proofs.declarations.Declarations.of.Given as goal

abbrev pub invariant-loop-statement : goal.invariant-loop-statement
invariant-loop-statement l = record {
  sorts : l.declarations.sorts.keys ≡ insert_all same_text [] (sort_texts (take l.statement-index l.statements));
  symbols : uses_in l.declarations.symbols.entries ≡ insert_all same_symbol [] (declared (take l.statement-index l.statements));
}
