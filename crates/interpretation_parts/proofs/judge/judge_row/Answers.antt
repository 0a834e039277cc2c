use Rattle.std.proofs.Common.{◌≡◌, ◌∷◌, map, ap, ◌∙◌, sym}
use Rattle.std.specs.Map.{lookup}
use Rattle.nxf_tree.specs.Names.{same_text}
use Rattle.interpretation_definitions.specs.Parts.{argument}
use Rattle.interpretation_definitions.specs.Given.{Given, elements_of, numbers_of}
use Rattle.interpretation_definitions.specs.Judging.{is_other}
use Rattle.interpretation_parts.specs.steps.Tables.{written}
use Rattle.interpretation_parts.specs.steps.Held.{context_in}
use Rattle.interpretation_parts.proofs.RowLemmas.{has_rows_next}
use Rattle.interpretation_parts.proofs.judge.judge_row.Goals as goal

pub returns-clause-rows : goal.returns-clause-rows
returns-clause-rows c given has =
    let place = c.args.place in
    let nums = numbers_of (elements_of (context_in c.args.context.now) (map argument c.args.terms.now)) in
    let old = c.args.rows.now.entries in
    let value = c.args.value in
    let key : c.of.result ≡ place ∷ nums = c.of.ensures ∙ c.in-Ok.ensures.numbers in
    let other = sym (c.in-Ok-give.ensures.clash ∙ ap (λ k. is_other (lookup (same_text k) old) value) key ∙ ap (λ o. is_other o value) (has place nums)) ∙ c.if-clash.false in
    let given_row : Given = record { place = place; row = nums; value = value } in
    has_rows_next old c.give.new.rows.entries given given_row has other (λ q. c.in-Ok-give.ensures.rows q ∙ ap (λ k. written q k value (lookup (same_text q) old)) key)
