use Rattle.std.proofs.Common.{◌≡◌, None, ap, ◌∙◌, sym, refl}
use Rattle.std.specs.Map.{lookup}
use Rattle.std.specs.Option.{option_copied}
use Rattle.std.proofs.lemmas.List.{get_or_read}
use Rattle.indexmap.proofs.CallerLemmas.{insert_entry-new}
use Rattle.nxf_tree.specs.Names.{same_text}
use Rattle.interpretation_parts.proofs.TableLemmas.{listing_new, counted_next}
use Rattle.interpretation_parts.proofs.context.note_listing.Goals as goal

pub returns-in_ok-insert-in-None-clause-elements : goal.returns-in_ok-insert-in-None-clause-elements
returns-in_ok-insert-in-None-clause-elements c =
    let none : lookup (same_text c.args.name.now) c.args.elements.now.entries ≡ None = sym c.get.ensures.value ∙ ap option_copied c.in-None.is in
    let is = get_or_read c.args.counts.now.items _ _ c.requires.sort_in c.index-number.ensures 0 ∙ c.requires.counted c.args.sort c.requires.sort_in in
    rw (c.in_ok-insert-in-None.ensures.entries, c.in_ok-copy-in-None.ensures, insert_entry-new same_text c.args.elements.now c.args.name.now _ none)
    (listing_new c.args.elements.now.entries c.args.name.now c.args.sort _ none is)

pub returns-in_ok-insert-in-None-clause-counted : goal.returns-in_ok-insert-in-None-clause-counted
returns-in_ok-insert-in-None-clause-counted c =
    let none : lookup (same_text c.args.name.now) c.args.elements.now.entries ≡ None = sym c.get.ensures.value ∙ ap option_copied c.in-None.is in
    let is = get_or_read c.args.counts.now.items _ _ c.requires.sort_in c.index-number.ensures 0 ∙ c.requires.counted c.args.sort c.requires.sort_in in
    rw (c.in_ok-insert-in-None.ensures.entries, c.in_ok-copy-in-None.ensures, insert_entry-new same_text c.args.elements.now c.args.name.now _ none)
    (counted_next c.args.elements.now.entries c.args.counts.now.items c.args.name.now c.args.sort _ _ c.requires.counted c.requires.sort_in is refl)
