use Rattle.std.proofs.Common.{◌≡◌, take, map, max}
use Rattle.interp_reader.proofs.sizes.sizes_of.Given as goal

abbrev pub invariant-loop-count : goal.invariant-loop-count
invariant-loop-count l = l.sizes ≡ map (max 1) (take l.count-index l.counts)
