use Rattle.std.proofs.Common.{◌≡◌, ◌++◌, ap, ◌∙◌, length, get_or, arith}
use Rattle.std.specs.Prelude.{flat_map}
use Rattle.nxf_tree.specs.Text.{statement_text}
use Rattle.interpretation_text_definitions.specs.InterpretationText.{sort_statements}
use Rattle.interp_printer.proofs.Statements.{first_sorts, sizes_long, sort_put}
use Rattle.interp_printer.proofs.printer.put_sorts.Goals as goal

pub sort_statements-requires : goal.sort_statements-requires
sort_statements-requires c = omega (arith, sizes_long c.args.over.now.sorts c.args.structure.now.sizes c.requires.sorts, ap length c.as_slice-sorts.ensures, ap length c.sizes-size-items.ensures)

pub loop-sort-preserved : goal.loop-sort-preserved
loop-sort-preserved c =
    let n = c.loop-sort.sort in
    sort_put c.args.over.now.sorts c.args.structure.now.sizes n (get_or c.sizes-size-items.result.now n 0) c.args.out.now.items c.loop-sort.out.items c.sort_statements.new.out.items
    (ap (λ sizes. get_or sizes n 0) c.sizes-size-items.ensures) c.loop-sort.invariant
    (c.in_ok-sort_statements.ensures ∙ ap (λ sorts. c.loop-sort.out.items ++ flat_map statement_text (sort_statements sorts n (get_or c.sizes-size-items.result.now n 0))) c.as_slice-sorts.ensures)

pub returns : goal.returns
returns c =
    let all : c.loop-sort.sort ≡ length c.args.over.now.sorts = omega (arith, sizes_long c.args.over.now.sorts c.args.structure.now.sizes c.requires.sorts, ap length c.sizes-size-items.ensures) in
    c.loop-sort.invariant ∙ ap (λ n. c.args.out.now.items ++ flat_map statement_text (first_sorts c.args.over.now.sorts c.args.structure.now.sizes n)) all
