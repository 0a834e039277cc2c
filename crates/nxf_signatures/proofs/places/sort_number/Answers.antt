use Rattle.std.proofs.Common.{◌+◌, length, ap, ◌∙◌, sym}
use Rattle.std.specs.Prelude.{if◌then◌else◌}
use Rattle.nxf_tree.specs.Signature.{same_sort}
use Rattle.nxf_signatures.specs.Places.{sort_list}
use Rattle.nxf_signatures.proofs.PlaceLemmas.{number_there, number_past, sorts_length}
use Rattle.nxf_signatures.proofs.places.sort_number.Goals as goal

pub returns-in-Some : goal.returns-in-Some
returns-in-Some c = sym (number_there (same_sort c.args.sort.now) (sort_list c.args.individual c.args.sorts.now.keys) c.in-Some.at (sym c.in-Some.ensures.value))

pub returns-then-individual : goal.returns-then-individual
returns-then-individual c =
    ap (λ n. n + 1) c.len.ensures.len
    ∙ sym (number_past (same_sort c.args.sort.now) (sort_list c.args.individual c.args.sorts.now.keys) (sym c.in-None.ensures.value)
    ∙ sorts_length c.args.individual c.args.sorts.now.keys
    ∙ ap (λ b. if b then length c.args.sorts.now.keys + 1 else length c.args.sorts.now.keys) c.if-individual.true)

pub returns-else-individual : goal.returns-else-individual
returns-else-individual c =
    c.len-else-individual.ensures.len
    ∙ sym (number_past (same_sort c.args.sort.now) (sort_list c.args.individual c.args.sorts.now.keys) (sym c.in-None.ensures.value)
    ∙ sorts_length c.args.individual c.args.sorts.now.keys
    ∙ ap (λ b. if b then length c.args.sorts.now.keys + 1 else length c.args.sorts.now.keys) c.if-individual.false)
