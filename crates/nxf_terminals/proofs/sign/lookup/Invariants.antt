use Rattle.std.proofs.Common.{◌≡◌, length, map}
use Rattle.nxf_terminals.specs.Signs.{lookup}
use Rattle.nxf_terminals.proofs.sign.lookup.Given as goal

abbrev pub invariant-loop-table : goal.invariant-loop-table
invariant-loop-table l = lookup (map (λ e. (e.0.now, e.1)) l.table) l.other l.spelling ≡ lookup (map (λ e. (e.0.now, e.1)) l.initial.table) l.other l.spelling

abbrev pub decreases-loop-table : goal.decreases-loop-table
decreases-loop-table l = length l.table
