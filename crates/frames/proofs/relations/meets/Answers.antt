use Rattle.std.proofs.Common.{◌≡◌, sym, ap, ◌∙◌, arith}
use Rattle.nxf_tree.specs.Counting.{all_below}
use Rattle.fin_struct.specs.KripkeTables.{related_in}
use Rattle.structure_laws.proofs.Counted.{all_fails}
use Rattle.frames.specs.steps.WorldTests.{meets_at}
use Rattle.frames.proofs.StepLemmas.{by_worlds}
use Rattle.frames.proofs.relations.meets.Goals as goal

pub returns-then-not-meets_at : goal.returns-then-not-meets_at
returns-then-not-meets_at c =
    let k = c.args.kripke.now in
    let R = related_in k c.args.index in
    sym (by_worlds c.args.scheme k.worlds R ∙ all_fails k.worlds c.loop-from.from (meets_at c.args.scheme k.worlds R) (omega arith) (sym c.if-not-meets_at.ensures))

pub returns : goal.returns
returns c =
    let k = c.args.kripke.now in
    let R = related_in k c.args.index in
    let end : c.loop-from.from ≡ k.worlds = omega arith in
    sym (by_worlds c.args.scheme k.worlds R ∙ ap (λ n. all_below n (meets_at c.args.scheme k.worlds R)) (sym end) ∙ c.loop-from.invariant)
