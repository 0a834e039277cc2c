use Rattle.std.proofs.Common.{◌≡◌, ℕ, ◌∙◌, ap, replicate, arith}
use Rattle.std.proofs.lemmas.List.{drop_all, length-replicate, append-nil}
use Rattle.fin_struct.specs.Cells.{total_rows}
use Rattle.fin_struct.proofs.CellsLemmas.{bounded_blank, tables_of-blank}
use Rattle.fin_struct.proofs.grid.Grid.new.Goals as goal
use Rattle.fin_struct.proofs.grid.Grid.new.Goals.{In_ok-cells}

-- the cells are as many zeros as there are rows
zeros : (c : In_ok-cells) → c.in_ok-cells.cells.items ≡ replicate (total_rows c.args.shapes.items) 0
zeros c =
    let over = drop_all c.loop-shape.shape-index _ c.loop-shape-test.false in
    let rows = rw (over, c.deref-shape-items.ensures.value) at c.loop-shape.invariant.rows in
    let e = c.in_ok-cells.ensures.items_if_clones_equal (λ y h. h) in
    let n : c.loop-shape.at ≡ total_rows c.args.shapes.items = omega (arith, rows) in
    e ∙ ap (λ (k : ℕ). replicate k 0) n

pub invariant_of-result : goal.invariant_of-result
invariant_of-result c =
    let over = drop_all c.loop-shape.shape-index _ c.loop-shape-test.false in
    let starts = rw (over, append-nil, c.deref-shape-items.ensures.value) at c.loop-shape.invariant.starts in
    rw (zeros c) (starts, length-replicate _ _, c.requires.small, bounded_blank c.args.shapes.items c.requires.positive)

pub returns : goal.returns
returns c = rw (zeros c) (tables_of-blank c.args.shapes.items)
