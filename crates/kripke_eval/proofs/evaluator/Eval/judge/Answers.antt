use Rattle.std.proofs.Common.{sym, ap, ◌∙◌, arith}
use mathlib.Core.Bool.{beq}
use Rattle.std.specs.Prelude.{slice_get, Some}
use Rattle.std.proofs.lemmas.Bool.{eq-eqb, ne_eqb}
use Rattle.numbered_definitions.specs.declared.node.Numbered.{Numbered}
use Rattle.kripke_evaluation_definitions.specs.FileConditions.{node_meets}
use Rattle.kripke_eval.proofs.WalkLemmas.{there, of-member, none-left, other-place, other-kind, met, unmet}
use Rattle.kripke_eval.proofs.evaluator.Eval.judge.Goals as goal
use Rattle.kripke_eval.proofs.evaluator.Eval.judge.Goals.{else-is_conjecture-conjecture-via-then-is_conjecture-conjecture+else-not-is_met, else-is_conjecture-conjecture-via-else-is_conjecture-conjecture}

pub returns-then-next-len-clause-passed : goal.returns-then-next-len-clause-passed
returns-then-next-len-clause-passed g c =
    none-left c.args.view.now c.args.conjecture c.args.checked.now.formulas c.args.parts.now c.args.at c.args.next (omega (arith, c.if-next-len.true, c.len.ensures))

pub returns-then-entry-place-clause-passed : goal.returns-then-entry-place-clause-passed
returns-then-entry-place-clause-passed g c =
    let fs = c.args.checked.now.formulas in
    let n = there fs c.args.at c.requires.at in
    let entry = c.get-entry.result.now in
    let place = of-member (λ (m : Numbered). m.place) (slice_get fs c.args.at) n.formula c.place.result n.is c.place.ensures in
    other-place c.args.view.now c.args.conjecture fs c.args.parts.now c.args.at c.args.next n.formula entry n.is c.get-entry.ensures (ne_eqb entry.place n.formula.place (λ e. c.if-entry-place.true (e ∙ place)))

pub returns-then-not-is_met-clause-fault : goal.returns-then-not-is_met-clause-fault
returns-then-not-is_met-clause-fault g c =
    let fs = c.args.checked.now.formulas in
    let n = there fs c.args.at c.requires.at in
    let entry = c.get-entry.result.now in
    let place = of-member (λ (m : Numbered). m.place) (slice_get fs c.args.at) n.formula c.place.result n.is c.place.ensures in
    let kind = ap (λ b. beq b c.args.conjecture) (sym c.is_conjecture.ensures) ∙ c.if-is_conjecture-conjecture.true in
    let meets = of-member (λ (m : Numbered). node_meets c.args.view.now entry.part m.node) (slice_get fs c.args.at) n.formula c.is_met.result n.is c.is_met.ensures.value in
    unmet c.args.view.now c.args.conjecture fs c.args.parts.now c.args.at c.args.next n.formula entry n.is c.get-entry.ensures (eq-eqb entry.place n.formula.place (c.if-entry-place.false ∙ sym place)) kind (meets ∙ c.if-not-is_met.true)
    ∙ ap Some (sym c.condition_of.ensures)

pub returns-clause-passed : goal.returns-clause-passed
returns-clause-passed g c =
    let fs = c.args.checked.now.formulas in
    let n = there fs c.args.at c.requires.at in
    let entry = c.get-entry.result.now in
    let place = of-member (λ (m : Numbered). m.place) (slice_get fs c.args.at) n.formula c.place.result n.is c.place.ensures in
    let own = eq-eqb entry.place n.formula.place (c.if-entry-place.false ∙ sym place) in
    elim c.else-is_conjecture-conjecture.branch [
      | else-is_conjecture-conjecture-via-then-is_conjecture-conjecture+else-not-is_met w ↦
          met c.args.view.now c.args.conjecture fs c.args.parts.now c.args.at c.args.next n.formula entry n.is c.get-entry.ensures own
          (ap (λ b. beq b c.args.conjecture) (sym c.is_conjecture.ensures) ∙ w.if-is_conjecture-conjecture.true)
          (of-member (λ (m : Numbered). node_meets c.args.view.now entry.part m.node) (slice_get fs c.args.at) n.formula w.is_met.result n.is w.is_met.ensures.value ∙ w.if-not-is_met.false)
      | else-is_conjecture-conjecture-via-else-is_conjecture-conjecture w ↦
          other-kind c.args.view.now c.args.conjecture fs c.args.parts.now c.args.at c.args.next n.formula entry n.is c.get-entry.ensures own
          (ap (λ b. beq b c.args.conjecture) (sym c.is_conjecture.ensures) ∙ w.if-is_conjecture-conjecture.false)
    ]
