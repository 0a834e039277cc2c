use Rattle.std.proofs.Common.{◌≡◌, ◌+◌, [], drop, take}
use Rattle.indexmap.specs.IndexSet.{insert_all}
use Rattle.nxf_tree.specs.Names.{same_text}
use Rattle.nxf_tree.specs.Sorting.{modal_language}
use Rattle.nxf_tree.specs.Faults.{first_fault}
use Rattle.nxf_tree.specs.Occurrences.{declared}
use Rattle.nxf_tree.specs.SignatureOf.{same_symbol}
use Rattle.nxf_tree.specs.SortFaults.{type_statement_fault}
use Rattle.nxf_signatures.specs.steps.Tables.{uses_in, sort_texts}
use Rattle.nxf_sorts.proofs.typing.judge_typings.Given as goal

abbrev pub invariant-loop-statement : goal.invariant-loop-statement
invariant-loop-statement l = record {
  faults :
      first_fault (type_statement_fault (modal_language l.names.signature)) 1 [] l.statements
      ≡ first_fault (type_statement_fault (modal_language l.names.signature)) (l.place + 1) (take l.statement-index l.statements) (drop l.statement-index l.statements);
  sorts : l.before.sorts.keys ≡ insert_all same_text [] (sort_texts (take l.statement-index l.statements));
  symbols : uses_in l.before.symbols.entries ≡ insert_all same_symbol [] (declared (take l.statement-index l.statements));
  place : l.place ≡ l.statement-index;
}
