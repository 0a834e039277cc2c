use Rattle.std.proofs.Common.{◌≡◌, take}
use Rattle.nxf_tree.proofs.copy_file.copy_texts.Given as goal

abbrev pub invariant-loop-text : goal.invariant-loop-text
invariant-loop-text l = l.copies ≡ take l.text-index l.texts
