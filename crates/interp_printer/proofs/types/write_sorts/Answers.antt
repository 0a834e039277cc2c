use Rattle.std.proofs.Common.{◌≡◌, ◌+◌, ◌++◌, ◌∷◌, [], ap, sym, ◌∙◌, map, take, get_or, length, arith}
use Rattle.std.specs.Prelude.{codes}
use Rattle.std.specs.List.{join_by}
use Rattle.std.proofs.lemmas.List.{length-map, length-take-le, map-append, take_more}
use Rattle.nxf_tree.specs.Problem.{classical_sort_at}
use Rattle.nxf_tree.specs.Text.{sort_text}
use Rattle.interp_printer.proofs.Appending.{member_put}
use Rattle.interp_printer.proofs.Literals.{below_at}
use Rattle.interp_printer.proofs.types.write_sorts.Goals as goal

pub sort_at-requires : goal.sort_at-requires
sort_at-requires c = below_at _ c.args.args.now c.loop-at.at 0 c.requires c.loop-at-test.true

pub loop-at-preserved : goal.loop-at-preserved
loop-at-preserved c =
    let args = c.args.args.now in
    let n = c.loop-at.at in
    let f = classical_sort_at c.args.sorts.now in
    let more : map f (take (n + 1) args) ≡ map f (take n args) ++ f (get_or args n 0) ∷ [] = ap (map f) (take_more args n 0 c.loop-at-test.true) ∙ map-append f (take n args) (get_or args n 0 ∷ []) in
    let count : length (map f (take n args)) ≡ n = length-map (take n args) f ∙ length-take-le n args (omega arith) in
    member_put sort_text (codes " * ") (map f (take n args)) (f (get_or args n 0)) n c.args.out.now.items c.loop-at.out.items c.put_between.new.out.items c.write_sort.new.out.items
    count c.loop-at.invariant c.in_ok-put_between.ensures.text (c.in_ok-write_sort.ensures.text ∙ ap (λ s. c.put_between.new.out.items ++ sort_text s) c.sort_at.ensures)
    ∙ ap (λ ss. c.args.out.now.items ++ join_by sort_text (codes " * ") ss) (sym more)
