use Rattle.std.proofs.Common.{◌∙◌, ap, sym, take}
use Rattle.std.specs.Prelude.{◌||◌}
use Rattle.std.specs.Map.Iter.{deref_pair}
use Rattle.std.specs.Option.{option_map}
use Rattle.interp_reader.specs.steps.Filling.{begins_in, has_place}
use Rattle.interp_reader.proofs.PlaceLemmas.{place-next}
use Rattle.interp_reader.proofs.places.given_places.Goals as goal

pub loop-at-preserved : goal.loop-at-preserved
loop-at-preserved c k =
    let entries = c.args.rows.now.entries in
    let i = c.loop-at.at in
    c.in_ok-note_entry.ensures k ∙ ap (λ b. b || begins_in k (option_map deref_pair c.get_index.result)) (c.loop-at.invariant k) ∙ ap (λ o. has_place (take i entries) k || begins_in k o) c.get_index.ensures.entry ∙ sym (place-next entries i k)
