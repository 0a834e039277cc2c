use Rattle.std.proofs.Common.{◌≡◌, take}
use Rattle.std.specs.Prelude.{map}
use Rattle.nxf_tree.specs.SignatureOf.{sort_number}
use Rattle.nxf_signatures.specs.Places.{sort_list}
use Rattle.nxf_signatures.proofs.signature.sort_numbers.Given as goal

abbrev pub invariant-loop-sort : goal.invariant-loop-sort
invariant-loop-sort l = l.numbers ≡ map (sort_number (sort_list l.individual l.sorts.keys)) (take l.sort-index l.args)
