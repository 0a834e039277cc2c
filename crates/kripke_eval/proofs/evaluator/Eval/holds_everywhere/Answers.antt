use Rattle.std.proofs.Common.{◌<◌, [], sym, ap, arith}
use Rattle.kripke_eval.specs.Evaluating.{Room}
use Rattle.formula_cells.specs.Stored.{node_at}
use Rattle.kripke_evaluation_definitions.specs.NumberedMeaning.{node_sat}
use Rattle.kripke_eval.proofs.FormulaCases.{all_below_fails}
use Rattle.kripke_eval.proofs.evaluator.Eval.holds_everywhere.Goals as goal

pub returns-then-not-holds_root-clause-value : goal.returns-then-not-holds_root-clause-value
returns-then-not-holds_root-clause-value g c =
    let view = c.args.view.now in
    let n = node_at c.args.checked.now.stored c.args.root in
    let below : c.loop-world.world < view.worlds = omega (arith, c.loop-world-test.true, c.worlds-world-end.ensures.worlds) in
    sym (all_below_fails view.worlds c.loop-world.world (λ w. node_sat view w [] n) below (sym c.if-not-holds_root.ensures.value))

pub holds_root-requires-clause-room : goal.holds_root-requires-clause-room
holds_root-requires-clause-room g c = omega (arith, c.requires.room, ap (λ (r : Room). r.depth) c.loop-world.invariant.kept)
