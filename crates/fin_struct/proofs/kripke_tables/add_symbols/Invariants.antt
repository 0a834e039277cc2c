use Rattle.std.proofs.Common.{◌≡◌, ◌++◌, map, drop}
use Rattle.nxf_tree.specs.Structures.{symbol_shapes}
use Rattle.fin_struct.specs.Cells.{grid_shape}
use Rattle.fin_struct.proofs.kripke_tables.add_symbols.Given as goal

-- the shapes so far, before those of the symbols to come
abbrev pub invariant-loop-symbol : goal.invariant-loop-symbol
invariant-loop-symbol l = map grid_shape l.shapes.items ++ symbol_shapes l.worlds l.sizes (drop l.symbol-index l.symbols) ≡ map grid_shape l.initial.shapes.items ++ symbol_shapes l.worlds l.sizes l.symbols
