use Rattle.std.proofs.Common.{◌≡◌, [], take, map}
use Rattle.indexmap.specs.IndexSet.{insert_all}
use Rattle.nxf_tree.specs.Names.{same_text}
use Rattle.interpretation_parts.specs.steps.Tables.{repeated, pair_of}
use Rattle.interpretation_parts.proofs.disequations.has_repeat.Given as goal

abbrev pub invariant-loop-element : goal.invariant-loop-element
invariant-loop-element l = record {
  seen : l.seen.keys ≡ insert_all same_text [] (map pair_of (take l.element-index l.elements));
  repeat : l.repeat ≡ repeated [] (map pair_of (take l.element-index l.elements));
}
