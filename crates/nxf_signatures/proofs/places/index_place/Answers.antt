use Rattle.std.proofs.Common.{None, ap, ◌∙◌, sym}
use Rattle.std.specs.Prelude.{if◌then◌else◌, Some}
use Rattle.nxf_tree.specs.Signature.{same_index}
use Rattle.nxf_signatures.specs.Places.{place, index_list}
use Rattle.nxf_signatures.proofs.PlaceLemmas.{place_of_named, place_of_plain}
use Rattle.nxf_signatures.proofs.places.index_place.Goals as goal

pub returns-else-plain-clause-value : goal.returns-else-plain-clause-value
returns-else-plain-clause-value c =
    sym (ap (λ i. place (same_index i) (index_list c.args.plain c.args.indexes.now.keys)) c.in-Plain.is
    ∙ place_of_plain c.args.plain c.args.indexes.now.keys
    ∙ ap (λ b. if b then Some 0 else None) c.if-plain.false)

pub returns-in-Named-clause-value : goal.returns-in-Named-clause-value
returns-in-Named-clause-value c =
    c.place_after.ensures.value
    ∙ sym (ap (λ i. place (same_index i) (index_list c.args.plain c.args.indexes.now.keys)) c.in-Named.is
    ∙ place_of_named c.args.plain c.in-Named.name c.args.indexes.now.keys)
