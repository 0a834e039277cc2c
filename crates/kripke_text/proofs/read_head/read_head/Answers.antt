use Rattle.std.proofs.Common.{◌+◌, ◌<◌, ◌≤◌, ap, sym, ◌∙◌, subst, arith, length, get_or}
use Rattle.kripke_text_laws.specs.steps.FirstParts.{IsWorlds, IsLocal}
use Rattle.kripke_text.specs.steps.Reading.{IsDomain, RefusesAt, HeadRefuses}
use Rattle.kripke_text.proofs.ReadHeads.{head_begins, head_next, head_done, worlds_refused, local_refused, domain_refused, err_passed}
use Rattle.kripke_text.proofs.read_head.read_head.Goals as goal

pub returns-in_err-worlds-clause-refused : goal.returns-in_err-worlds-clause-refused
returns-in_err-worlds-clause-refused c =
    err_passed c.from_residual.result _ (HeadRefuses c.args.over.now c.args.statements.now)
    (λ y e. worlds_refused c.args.over.now c.args.statements.now y c.requires.in_range (subst (RefusesAt 1 IsWorlds c.args.statements.now) (sym e) c.in_err-worlds.ensures.refused)) c.from_residual.ensures

pub returns-in_err-actual-clause-refused : goal.returns-in_err-actual-clause-refused
returns-in_err-actual-clause-refused c =
    err_passed c.from_residual-in_err-actual.result _ (HeadRefuses c.args.over.now c.args.statements.now)
    (λ y e. local_refused c.args.over.now c.in_ok-worlds.worlds c.args.statements.now c.next_worlds.new.statements y c.requires.in_range c.in_ok-worlds.ensures.ok (subst (RefusesAt 2 (IsLocal c.in_ok-worlds.worlds) c.next_worlds.new.statements) (sym e) c.in_err-actual.ensures.refused)) c.from_residual-in_err-actual.ensures

pub loop-place-init : goal.loop-place-init
loop-place-init c =
    head_begins c.args.over.now c.in_ok-worlds.worlds c.in_ok-actual.actual c.args.statements.now c.next_worlds.new.statements c.next_local.new.statements c.new-sizes.result c.push_size.new.sizes
    c.in_ok-worlds.ensures.ok.1 c.in_ok-actual.ensures.ok.0 c.in_ok-actual.ensures.ok.1 c.new-sizes.ensures c.in_ok-push_size.ensures

pub returns-in_err-size-clause-refused : goal.returns-in_err-size-clause-refused
returns-in_err-size-clause-refused c =
    let sorts = c.as_slice-sort-items.ensures in
    let below : c.loop-place.place < length c.args.over.now.sorts = omega (arith, ap length sorts, c.loop-place-test.true) in
    let entry = c.sort-item.is ∙ ap (λ es. get_or es c.loop-place.place c.sort-item.result) sorts in
    err_passed c.from_residual-in_err-size.result _ (HeadRefuses c.args.over.now c.args.statements.now)
    (λ y e. domain_refused c.args.over.now c.in_ok-worlds.worlds c.in_ok-actual.actual c.args.statements.now c.loop-place.statements c.loop-place.sizes c.loop-place.place c.sort-item.result y c.requires.in_range c.loop-place.invariant below entry
    (subst (RefusesAt (c.loop-place.place + 3) (IsDomain c.sort-item.result.name) c.loop-place.statements) (sym e) c.in_err-size.ensures.refused)) c.from_residual-in_err-size.ensures

pub loop-place-preserved : goal.loop-place-preserved
loop-place-preserved c =
    let sorts = c.as_slice-sort-items.ensures in
    let below : c.loop-place.place < length c.args.over.now.sorts = omega (arith, ap length sorts, c.loop-place-test.true) in
    let entry = c.sort-item.is ∙ ap (λ es. get_or es c.loop-place.place c.sort-item.result) sorts in
    head_next c.args.over.now c.in_ok-worlds.worlds c.in_ok-actual.actual c.args.statements.now c.loop-place.statements c.next_size.new.statements c.loop-place.sizes c.push_size-in-loop-place.new.sizes c.loop-place.place c.sort-item.result c.in_ok-size.size
    c.loop-place.invariant below entry c.in_ok-size.ensures.ok c.in_ok-push_size-2.ensures

pub returns-clause-head : goal.returns-clause-head
returns-clause-head c =
    let past : length c.args.over.now.sorts ≤ c.loop-place.place = omega (arith, ap length c.as_slice-sort-items.ensures, c.loop-place-test.false) in
    (head_done c.args.over.now c.in_ok-worlds.worlds c.in_ok-actual.actual c.args.statements.now c.loop-place.statements c.loop-place.sizes c.loop-place.place c.loop-place.invariant past).1
