use Rattle.std.proofs.Common.{◌≡◌, ◌+◌, ◌*◌, drop}
use Rattle.fin_struct.specs.Places.{rows_count, InRange, place}
use Rattle.fin_struct.proofs.places.place_of.Given as goal

-- the place of what is read, before what is to come
abbrev pub invariant-loop-i : goal.invariant-loop-i
invariant-loop-i l = record {
  so_far : l.at * rows_count (drop l.i l.sizes) + place (drop l.i l.sizes) (drop l.i l.row) ≡ l.first * rows_count l.sizes + place l.sizes l.row;
  in_range : InRange (drop l.i l.sizes) (drop l.i l.row);
}
