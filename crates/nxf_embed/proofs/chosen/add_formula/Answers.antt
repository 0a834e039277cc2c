use Rattle.std.proofs.Common.{◌≤◌, ◌<◌, length, ◌∙◌, sym, arith}
use Rattle.nxf_translate.proofs.CallerLemmas.{named-at}
use Rattle.nxf_embed.proofs.Choosing.{step-none, step-later, step-own}
use Rattle.nxf_embed.proofs.chosen.add_formula.Goals as goal

pub returns-then-next-len-clause-added : goal.returns-then-next-len-clause-added
returns-then-next-len-clause-added c n at f h fs =
    let past : length c.args.parts.now ≤ c.args.next = omega arith in
    step-none c.args.checked.now.signature n f h c.args.parts.now c.args.next c.args.statements.now fs past

pub returns-then-entry-place-clause-added : goal.returns-then-entry-place-clause-added
returns-then-entry-place-clause-added c n at f h fs =
    let checked = c.args.checked.now in
    let within : c.args.next < length c.args.parts.now = omega arith in
    let place = named-at (λ n. n.place) checked.formulas c.args.at n c.place.result at c.place.ensures in
    step-later checked.signature n f h c.args.parts.now c.args.next c.get-entry.result.now c.args.statements.now fs within c.get-entry.ensures (λ e. c.if-entry-place.true (e ∙ place))

pub returns-clause-added : goal.returns-clause-added
returns-clause-added c n at f h fs =
    let checked = c.args.checked.now in
    let within : c.args.next < length c.args.parts.now = omega arith in
    let place = named-at (λ n. n.place) checked.formulas c.args.at n c.place.result at c.place.ensures in
    step-own checked.signature n f h c.args.parts.now c.args.next c.get-entry.result.now c.args.statements.now c.push.new.self c.in_ok-part_statement.field-0 fs within c.get-entry.ensures
    (c.if-entry-place.false ∙ sym place)
    c.in_ok-push.ensures.pushed (c.in_ok-part_statement.ensures n at)
