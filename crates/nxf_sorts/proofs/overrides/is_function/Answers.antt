use Rattle.std.proofs.Common.{ap, ◌∙◌, sym}
use Rattle.nxf_tree.specs.SortFaults as faults
use Rattle.nxf_tree.specs.Signature.{sort_at}
use Rattle.nxf_sorts.proofs.UseLemmas.{type_is, type_of_found, some_mapped}
use Rattle.nxf_sorts.proofs.overrides.is_function.Goals as goal

pub returns-in-Some : goal.returns-in-Some
returns-in-Some c =
    let sig = c.args.names.now.signature in
    c.is_some.ensures
    ∙ sym (ap faults.is_function (type_is sig.sorts sig.symbols c.args.name.now ∙ ap (type_of_found sig.sorts) (sym c.in-Some.ensures)) ∙ some_mapped (sort_at sig.sorts) c.in-Some.entry.now.gives)

pub returns-in-None : goal.returns-in-None
returns-in-None c =
    let sig = c.args.names.now.signature in
    sym (ap faults.is_function (type_is sig.sorts sig.symbols c.args.name.now ∙ ap (type_of_found sig.sorts) (sym c.in-None.ensures)))
