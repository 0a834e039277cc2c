use Rattle.std.proofs.Common.{◌≡◌, ◌<◌, ◌≤◌, ◌++◌, [], ap, sym, ◌∙◌, inl, inr, drop, get_or, length, arith}
use Rattle.std.specs.Prelude.{codes}
use Rattle.std.specs.List.{join_by}
use Rattle.nxf_tree.specs.Rows.{all_rows}
use Rattle.nxf_tree.specs.Text.{unit_text}
use Rattle.fin_struct.specs.Cells.{table_at}
use Rattle.interp_printer.proofs.Appending.{member_put}
use Rattle.interp_printer.proofs.Literals.{first_literals, literal_of, literals_more, literals_count, next_here, none_here, passed_one, row_long, all_passed, literal_unit}
use Rattle.interp_printer.proofs.tables.write_literals.Goals as goal

pub returns-in_default : goal.returns-in_default
returns-in_default c =
    let table = table_at c.args.tables.now c.args.table in
    let passed = none_here (all_rows table.sizes) c.loop-at.at (sym c.loop-at.invariant.1 ∙ c.in_default.ensures) in
    c.loop-at.invariant.0 ∙ ap (λ fs. c.args.out.now.items ++ join_by unit_text (codes " & ") fs) (all_passed c.args.sorts.now c.args.entry.now table c.loop-at.at (inl passed))

pub write_literal-requires-clause-long : goal.write_literal-requires-clause-long
write_literal-requires-clause-long c =
    let table = table_at c.args.tables.now c.args.table in
    let here = next_here (all_rows table.sizes) c.loop-at.at [] c.in-Some.row.now _ (sym c.loop-at.invariant.1 ∙ c.in-Some.ensures) in
    ap length (sym here.1) ∙ row_long table.sizes c.loop-at.at here.0 ∙ c.requires.long

pub loop-at-preserved : goal.loop-at-preserved
loop-at-preserved c =
    let sorts = c.args.sorts.now in
    let entry = c.args.entry.now in
    let table = table_at c.args.tables.now c.args.table in
    let n = c.loop-at.at in
    let old = c.args.out.now.items in
    let row = c.in-Some.row.now in
    let here = next_here (all_rows table.sizes) n [] row _ (sym c.loop-at.invariant.1 ∙ c.in-Some.ensures) in
    let cells = c.cells-cell-items.ensures in
    let cell : get_or c.cells-cell-items.result.now n 0 ≡ get_or table.cells n 0 = ap (λ xs. get_or xs n 0) cells in
    let there : n < length table.cells = omega (arith, ap length cells) in
    let f = literal_of sorts entry (get_or (all_rows table.sizes) n []) (get_or table.cells n 0) in
    let put = c.in_ok-write_literal.ensures in (
      member_put unit_text (codes " & ") (first_literals sorts entry table n) f n old c.loop-at.out.items c.put_between.new.out.items c.write_literal.new.out.items
          (literals_count sorts entry table n (omega (arith, here.0)) (omega arith)) c.loop-at.invariant.0 c.in_ok-put_between.ensures.text
          (put ∙ literal_unit sorts entry row (get_or (all_rows table.sizes) n []) _ (get_or table.cells n 0) c.put_between.new.out.items (sym here.1) cell)
          ∙ ap (λ fs. old ++ join_by unit_text (codes " & ") fs) (sym (literals_more sorts entry table n [] 0 here.0 there)),
      c.advance.ensures ∙ ap (drop 1) c.loop-at.invariant.1 ∙ passed_one (all_rows table.sizes) n,
    )

pub returns : goal.returns
returns c =
    let table = table_at c.args.tables.now c.args.table in
    let passed : length table.cells ≤ c.loop-at.at = omega (arith, ap length c.cells-cell-items.ensures) in
    c.loop-at.invariant.0 ∙ ap (λ fs. c.args.out.now.items ++ join_by unit_text (codes " & ") fs) (all_passed c.args.sorts.now c.args.entry.now table c.loop-at.at (inr passed))
