use Rattle.std.proofs.Common.{sym, arith}
use Rattle.fin_struct.proofs.PlacesLemmas.{InRange-length, place_below, place_pair}
use Rattle.fin_struct.proofs.places.place_of_pair.Goals as goal

pub bounds-sizes-1 : goal.bounds-sizes-1
bounds-sizes-1 c = omega (arith, InRange-length _ _ c.requires.in_range)

pub overflow_mul-result : goal.overflow_mul-result
overflow_mul-result c = omega (arith, c.requires.small, place_below _ _ c.requires.in_range, place_pair _ _ _ c.requires.in_range)

pub overflow_add-result : goal.overflow_add-result
overflow_add-result c = omega (arith, c.requires.small, place_below _ _ c.requires.in_range, place_pair _ _ _ c.requires.in_range)

pub returns : goal.returns
returns c = sym (place_pair _ _ _ c.requires.in_range)
