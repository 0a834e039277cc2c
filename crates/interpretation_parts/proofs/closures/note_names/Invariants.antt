use Rattle.std.proofs.Common.{◌≡◌, take}
use Rattle.indexmap.specs.IndexSet.{insert_all}
use Rattle.nxf_tree.specs.Names.{same_text}
use Rattle.interpretation_parts.specs.steps.Readings.{texts}
use Rattle.interpretation_parts.specs.steps.Tables.{repeated}
use Rattle.interpretation_parts.proofs.closures.note_names.Given as goal

abbrev pub invariant-loop-name : goal.invariant-loop-name
invariant-loop-name l = record {
  listed : l.listed.keys ≡ insert_all same_text l.initial.listed.keys (texts (take l.name-index l.names));
  repeat : l.repeat ≡ repeated l.initial.listed.keys (texts (take l.name-index l.names));
}
