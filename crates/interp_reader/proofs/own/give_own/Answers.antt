use Rattle.std.proofs.Common.{◌∷◌, ◌++◌, [], ◌∙◌, ap, sym, subst, OnOk}
use Rattle.std.specs.Map.{lookup}
use Rattle.nxf_tree.specs.Names.{same_text}
use Rattle.interpretation_definitions.specs.Context.{element}
use Rattle.interpretation_definitions.specs.Given.{Given}
use Rattle.interpretation_parts.specs.steps.Held.{context_in, HasRows}
use Rattle.interpretation_parts.specs.steps.Tables.{written}
use Rattle.interpretation_parts.proofs.CallerLemmas.{on_ok}
use Rattle.interp_reader.specs.steps.Own.{own_value, row_at}
use Rattle.interp_reader.proofs.OwnLemmas.{has_rows_front, own_is}
use Rattle.interp_reader.proofs.own.give_own.Goals as goal

pub returns-in_ok-push-in-Some : goal.returns-in_ok-push-in-Some
returns-in_ok-push-in-Some c given has =
    let entry = c.args.entry.now in
    let place = c.args.place in
    let value = c.in-Some.value in
    let old = c.args.rows.now.entries in
    let new = c.put.new.rows.entries in
    let listed = element (context_in c.args.context.now) entry.name in
    let own = sym (ap (λ a. own_value a entry.gives listed) c.as_slice.ensures) ∙ sym (ap (own_value c.as_slice.result.now entry.gives) c.element-element.ensures) ∙ sym c.value_listed.ensures ∙ c.in-Some.is in
    let key = c.of.ensures ∙ c.in_ok-push-in-Some.ensures.items ∙ ap (λ l. l ++ place ∷ []) c.new-numbers.ensures.items in
    let row : Given = record { place = place; row = []; value = value } in
    subst (λ l. OnOk c.put.result (HasRows new (l ++ given))) (sym (own_is place entry.args entry.gives listed ∙ ap (row_at place) own))
    (on_ok c.put.result (λ writes. has_rows_front old new given row has (λ q. writes q ∙ ap (λ k. written q k value (lookup (same_text q) old)) key)) c.put.ensures)
