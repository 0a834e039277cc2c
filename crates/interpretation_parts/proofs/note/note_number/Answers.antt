use Rattle.std.proofs.Common.{◌≡◌, None, ap, ◌∙◌, sym}
use Rattle.std.specs.Map.{lookup}
use Rattle.std.specs.Option.{option_copied}
use Rattle.indexmap.proofs.CallerLemmas.{insert_entry-new}
use Rattle.nxf_tree.specs.Names.{same_text}
use Rattle.interpretation_parts.proofs.TableLemmas.{noted_new}
use Rattle.interpretation_parts.proofs.note.note_number.Goals as goal

pub returns-in_ok-insert-in-None : goal.returns-in_ok-insert-in-None
returns-in_ok-insert-in-None c =
    let none : lookup (same_text c.args.name.now) c.args.map.now.entries ≡ None = sym c.get.ensures.value ∙ ap option_copied c.in-None.is in
    rw (c.in_ok-insert-in-None.ensures.entries, c.in_ok-copy-in-None.ensures, insert_entry-new same_text c.args.map.now c.args.name.now c.args.number none) (sym (noted_new c.args.map.now.entries c.args.name.now c.args.number none))
