use Rattle.std.proofs.Common.{◌≡◌, ◌+◌, [], ◌∷◌, ◌++◌, take, sym, ap, ap₂, ◌∙◌}
use Rattle.std.specs.Prelude.{max}
use Rattle.std.proofs.lemmas.Grind.{take_at_read}
use Rattle.classical_evaluation_definitions.specs.ClassicalFaults.{role_formulas}
use Rattle.classical_numbering.specs.Prepared.{deepest}
use Rattle.classical_numbering.proofs.ProblemLemmas.{deepest-append, role_formulas-push}
use Rattle.classical_numbering.proofs.problem.prepare.Goals as goal

pub loop-statement-preserved : goal.loop-statement-preserved
loop-statement-preserved c =
    let ss = c.as_slice-statements.result.now in
    let i = c.loop-statement.statement-index in
    let s = c.statement-item.result in
    let more : take (i + 1) ss ≡ take i ss ++ s ∷ [] = (take_at_read ss i s c.loop-statement-test.true).1 ∙ ap (λ y. take i ss ++ y ∷ []) (sym c.statement-item.is) in
    let all : role_formulas (take (i + 1) ss) ≡ role_formulas (take i ss) ++ role_formulas (s ∷ []) = ap role_formulas more ∙ role_formulas-push (take i ss) s in
    record {
      formulas = c.in_ok-own.ensures.added.formulas ∙ ap (λ fs. fs ++ role_formulas (s ∷ [])) c.loop-statement.invariant.formulas ∙ sym all;
      stand = c.in_ok-own.ensures.added.stand c.loop-statement.invariant.stand;
      deepest =
          c.larger-depth.ensures ∙ ap₂ max c.loop-statement.invariant.deepest c.in_ok-own.ensures.depth
          ∙ sym (ap deepest all ∙ deepest-append (role_formulas (take i ss)) (role_formulas (s ∷ [])));
    }
