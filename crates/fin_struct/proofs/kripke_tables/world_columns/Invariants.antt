use Rattle.std.proofs.Common.{◌≡◌, ◌++◌, map, drop}
use Rattle.nxf_tree.specs.Signature.{takes_world}
use Rattle.fin_struct.proofs.kripke_tables.world_columns.Given as goal

-- what is found so far, before what the symbols to come have
abbrev pub invariant-loop-symbol : goal.invariant-loop-symbol
invariant-loop-symbol l = l.found.items ++ map takes_world (drop l.symbol-index l.symbols) ≡ map takes_world l.symbols
