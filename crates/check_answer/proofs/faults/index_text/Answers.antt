use Rattle.std.proofs.Common.{◌≡◌, IfOk}
use Rattle.nxf_tree.specs.declared.tree.IndexName.{IndexName}
use Rattle.fin_struct.specs.FirstFault.{index_at}
use Rattle.structure_laws.proofs.FirstFaultLemmas.{index_at-place}
use Rattle.answer_definitions.specs.FaultNames.{index_words}
use Rattle.check_answer.proofs.Names.{no_index, said_of_entry, said_of_none}
use Rattle.check_answer.proofs.faults.index_text.Goals as goal

pub returns-in-Some : goal.returns-in-Some
returns-in-Some c =
    let given = c.as_slice.result.now in
    said_of_entry index_at c.args.over.now.indexes given c.args.index c.as_slice.ensures (λ (name : IndexName). IfOk c.index_name_text.result (λ text. text ≡ index_words name))
    c.in-Some.entry.now _ (index_at-place given c.args.index c.in-Some.entry.now) c.in-Some.ensures.lookup.3.0 c.in-Some.ensures.lookup.1 c.index_name_text.ensures

pub returns-in-None : goal.returns-in-None
returns-in-None c =
    let given = c.as_slice.result.now in
    said_of_none index_at c.args.over.now.indexes given c.args.index c.as_slice.ensures (λ (name : IndexName). IfOk c.from_bytes.result (λ text. text ≡ index_words name))
    _ (no_index given c.args.index) c.in-None.ensures.lookup.3 c.from_bytes.ensures
