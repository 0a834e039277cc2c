use Rattle.std.proofs.Common.{ap, ◌∙◌}
use Rattle.std.specs.Map.{lookup}
use Rattle.nxf_tree.specs.Names.{same_text}
use Rattle.interpretation_parts.proofs.TableLemmas.{note_by_symbol}
use Rattle.interpretation_parts.proofs.known.note_symbol.Goals as goal

pub returns : goal.returns
returns c q = ap (lookup (same_text q)) c.in_ok-note_number.ensures ∙ note_by_symbol q c.args.map.now.entries c.args.name.now c.args.number
