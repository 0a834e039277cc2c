use Rattle.std.proofs.Common.{◌≡◌, ◌+◌, [], ◌∷◌, ◌++◌, take, ap, sym, ◌∙◌, arith}
use Rattle.std.specs.Prelude.{max}
use Rattle.std.proofs.lemmas.List.{take_more}
use Rattle.nxf_tree.specs.FileDepth.{statement_depth, statement_list_depth}
use Rattle.nxf_sorts.proofs.CheckLemmas.{list_depth_after}
use Rattle.nxf_sorts.proofs.sort_check.greatest_depth.Goals as goal

pub loop-statement-preserved : goal.loop-statement-preserved
loop-statement-preserved c =
    let i = c.loop-statement.statement-index in
    let xs = c.args.statements.now in
    let x = c.statement-item.result in
    let e : statement_list_depth (take (i + 1) xs) ≡ max (statement_list_depth (take i xs)) (statement_depth x) = ap statement_list_depth (take_more xs i x c.loop-statement-test.true ∙ ap (λ y. take i xs ++ y ∷ []) (sym c.statement-item.is)) ∙ list_depth_after (take i xs) x in
    omega (arith, e, c.larger-deepest.ensures, c.depth_of.ensures, c.loop-statement.invariant)
