use Rattle.std.proofs.Common.{◌≡◌, ◌+◌, ◌≤◌, min, drop}
use Rattle.nxf_tree.specs.Structures.{symbol_shapes}
use Rattle.fin_struct.specs.Limits.{cells_in}
use Rattle.fin_struct.proofs.kripke_tables.symbol_cells.Given as goal

-- the total so far and the cells of the symbols to come
abbrev pub invariant-loop-symbol : goal.invariant-loop-symbol
invariant-loop-symbol l = record {
  so_far : min (l.total + cells_in (symbol_shapes l.worlds l.sizes (drop l.symbol-index l.symbols))) 18446744073709551615 ≡ min (cells_in (symbol_shapes l.worlds l.sizes l.symbols)) 18446744073709551615;
  fits : l.total ≤ 18446744073709551615;
}
