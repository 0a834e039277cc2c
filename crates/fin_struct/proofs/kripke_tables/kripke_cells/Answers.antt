use Rattle.std.proofs.Common.{◌++◌, arith}
use Rattle.nxf_tree.specs.Structures.{relation_shapes, existence_shapes, symbol_shapes}
use Rattle.fin_struct.proofs.KripkeTableLemmas.{cells-append}
use Rattle.fin_struct.proofs.kripke_tables.kripke_cells.Goals as goal

pub returns : goal.returns
returns c =
    let n = c.args.worlds in
    let sig = c.args.over.now in
    let first = relation_shapes n sig.indexes in
    let second = existence_shapes n c.args.sizes.now 0 sig.sorts in
    let third = symbol_shapes n c.args.sizes.now sig.symbols in
    let relations = rw c.as_slice.ensures at c.relation_cells.ensures in
    let existence = rw c.as_slice-2.ensures at c.existence_cells.ensures in
    let symbols = rw c.as_slice-3.ensures at c.symbol_cells.ensures in
    omega (arith, relations, existence, symbols, c.saturating_add.ensures, c.saturating_add-2.ensures, cells-append first (second ++ third), cells-append second third)
