use Rattle.std.proofs.Common.{◌≡◌, IfOk}
use Rattle.nxf_tree.specs.declared.tree.SortName.{SortName}
use Rattle.nxf_tree.specs.Signature.{sort_at}
use Rattle.answer_definitions.specs.FaultNames.{sort_words}
use Rattle.check_answer.proofs.Names.{sort_at-place, no_sort, said_of_entry, said_of_none}
use Rattle.check_answer.proofs.faults.sort_text.Goals as goal

pub returns-in-Some : goal.returns-in-Some
returns-in-Some c =
    let given = c.as_slice.result.now in
    said_of_entry sort_at c.args.over.now.sorts given c.args.sort c.as_slice.ensures (λ (name : SortName). IfOk c.sort_name_text.result (λ text. text ≡ sort_words name))
    c.in-Some.entry.now _ (sort_at-place given c.args.sort c.in-Some.entry.now) c.in-Some.ensures.lookup.3.0 c.in-Some.ensures.lookup.1 c.sort_name_text.ensures

pub returns-in-None : goal.returns-in-None
returns-in-None c =
    let given = c.as_slice.result.now in
    said_of_none sort_at c.args.over.now.sorts given c.args.sort c.as_slice.ensures (λ (name : SortName). IfOk c.from_bytes.result (λ text. text ≡ sort_words name))
    _ (no_sort given c.args.sort) c.in-None.ensures.lookup.3 c.from_bytes.ensures
