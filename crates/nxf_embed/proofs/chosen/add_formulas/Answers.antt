use Rattle.std.proofs.Common.{◌<◌, ◌≤◌, ◌++◌, [], length, get_or, drop, arith}
use Rattle.std.proofs.lemmas.Option.{slice_get-get_or}
use Rattle.numbered_definitions.specs.declared.node.Node as node
use Rattle.numbered_definitions.specs.declared.node.Numbered.{Numbered}
use Rattle.nxf_embed.specs.steps.Chosen.{chosen}
use Rattle.nxf_embed.proofs.Choosing.{loop-step, loop-end}
use Rattle.nxf_embed.proofs.chosen.add_formulas.Goals as goal

pub loop-at-preserved : goal.loop-at-preserved
loop-at-preserved c =
    let sig = c.args.checked.now.signature in
    let ns = c.args.checked.now.formulas in
    let within : c.loop-at.at < length ns = omega arith in
    let d : Numbered = record { place = 0; name = []; node = node.True } in
    let n = get_or ns c.loop-at.at d in
    let there = slice_get-get_or ns c.loop-at.at d within in
    record {
      within = c.in_ok-next.ensures.within;
      added = λ fs h.
          loop-step sig ns fs c.args.parts.now c.loop-at.at c.loop-at.next c.in_ok-next.next n c.loop-at.statements c.add_formula.new.statements (c.args.statements.now ++ chosen sig fs c.args.parts.now)
          h within there (c.in_ok-next.ensures.added n there) (c.loop-at.invariant.added fs h);
    }

pub returns : goal.returns
returns c fs h =
    let ns = c.args.checked.now.formulas in
    let past : length ns ≤ c.loop-at.at = omega arith in
    loop-end c.args.checked.now.signature ns fs (drop c.loop-at.next c.args.parts.now) c.loop-at.at c.loop-at.statements _ h past (c.loop-at.invariant.added fs h)
