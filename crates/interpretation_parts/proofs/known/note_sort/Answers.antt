use Rattle.std.proofs.Common.{ap, ◌∙◌}
use Rattle.std.specs.Map.{lookup}
use Rattle.nxf_tree.specs.Names.{same_text}
use Rattle.interpretation_parts.proofs.TableLemmas.{lookup-noted}
use Rattle.interpretation_parts.proofs.known.note_sort.Goals as goal

pub returns-in_ok-note_number-in-User : goal.returns-in_ok-note_number-in-User
returns-in_ok-note_number-in-User c q =
    rw (c.in-User.is) (ap (lookup (same_text q)) c.in_ok-note_number-in-User.ensures ∙ lookup-noted q c.args.map.now.entries c.in-User.name c.args.number)
