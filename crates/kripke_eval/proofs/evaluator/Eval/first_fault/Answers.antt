use Rattle.std.proofs.Common.{sym, ◌∙◌}
use Rattle.kripke_eval.proofs.JudgingLemmas.{premise-first, conjecture-first}
use Rattle.kripke_eval.proofs.evaluator.Eval.first_fault.Goals as goal

pub returns-in-Some-clause-first : goal.returns-in-Some-clause-first
returns-in-Some-clause-first g c file read =
    premise-first c.args.checked.now.signature file c.args.view.now c.signature-signature.ensures.well_formed c.worlds-worlds.ensures.within c.requires.over c.args.checked.now.formulas c.args.parts.now read.formulas c.signature-signature.ensures.sorted read.parts
    c.in-Some.condition (sym c.first_unmet.ensures.first ∙ c.in-Some.is)

pub returns-in-None-clause-first : goal.returns-in-None-clause-first
returns-in-None-clause-first g c file read =
    conjecture-first c.args.checked.now.signature file c.args.view.now c.signature-signature.ensures.well_formed c.worlds-worlds.ensures.within c.requires.over c.args.checked.now.formulas c.args.parts.now read.formulas c.signature-signature.ensures.sorted read.parts
    _ (sym c.first_unmet.ensures.first ∙ c.in-None.is) (sym c.first_unmet-in-None.ensures.first)
