use Rattle.std.proofs.Common.{None, ap, ◌∙◌, sym}
use Rattle.std.specs.Prelude.{if◌then◌else◌, Some}
use Rattle.nxf_tree.specs.Signature.{same_sort}
use Rattle.nxf_signatures.specs.Places.{place, sort_list}
use Rattle.nxf_signatures.proofs.PlaceLemmas.{place_of_user, place_of_individual}
use Rattle.nxf_signatures.proofs.places.sort_place.Goals as goal

pub returns-else-individual-clause-value : goal.returns-else-individual-clause-value
returns-else-individual-clause-value c =
    sym (ap (λ s. place (same_sort s) (sort_list c.args.individual c.args.sorts.now.keys)) c.in-Individual.is
    ∙ place_of_individual c.args.individual c.args.sorts.now.keys
    ∙ ap (λ b. if b then Some 0 else None) c.if-individual.false)

pub returns-in-User-clause-value : goal.returns-in-User-clause-value
returns-in-User-clause-value c =
    c.place_after.ensures.value
    ∙ sym (ap (λ s. place (same_sort s) (sort_list c.args.individual c.args.sorts.now.keys)) c.in-User.is
    ∙ place_of_user c.args.individual c.in-User.name c.args.sorts.now.keys)
