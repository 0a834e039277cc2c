use Rattle.std.proofs.Common.{◌≡◌, ◌∙◌, [], None, Ok, IfErr, IfOk, ap, sym, subst}
use Rattle.nxf_tree.specs.Rows.{AreSizes}
use Rattle.interpretation_definitions.specs.Context.{context_of, elements_listed}
use Rattle.interpretation_definitions.specs.Given.{given_by}
use Rattle.interpretation_parts.specs.steps.After.{RefusesFault}
use Rattle.interpretation_parts.specs.steps.Held.{context_in, HasRows}
use Rattle.interpretation_parts.specs.steps.Items.{item_fault, items_in, numbered_parts, parts_in_items}
use Rattle.interp_reader.specs.Refusals.{Refuses}
use Rattle.interp_reader.specs.steps.Filling.{AreBelow}
use Rattle.interp_reader.specs.steps.Whole.{faultless, items_give}
use Rattle.interp_reader.proofs.Passing.{err_passed}
use Rattle.interp_reader.proofs.ReadLemmas.{fault_refuses, faultless_below, file_gives, sizes_fit, whole_read}
use Rattle.interp_reader.proofs.reader.read.Goals as goal

pub fill-requires-clause-sizes : goal.fill-requires-clause-sizes
fill-requires-clause-sizes c =
    let sorts = c.args.over.now.sorts in
    subst (AreSizes sorts) (sym c.in_ok-frame.ensures.sizes) (sizes_fit 0 (elements_listed sorts (parts_in_items c.as_slice-2.result.now)) sorts)

pub fill-requires-clause-below : goal.fill-requires-clause-below
fill-requires-clause-below c =
    let over = c.args.over.now in
    let items = c.as_slice-2.result.now in
    let entries = c.in_ok-rows.rows.entries in
    let held = context_in c.in_ok-frame.frame.context in
    let context = c.in_ok-frame.ensures.context in
    let same = c.as_slice-3.ensures.value ∙ sym c.as_slice-2.ensures.value in
    subst (λ sizes. AreBelow over sizes entries) (sym c.in_ok-frame.ensures.sizes)
    (faultless_below over (items_in items) entries c.requires.sorts
    (subst (λ x. item_fault x [] (items_in items) ≡ None) context (subst (λ xs. item_fault held [] (items_in xs) ≡ None) same c.in_ok-rows.ensures.judged))
    (subst (λ x. HasRows entries (given_by x (parts_in_items items))) context (subst (λ xs. HasRows entries (given_by held (parts_in_items xs))) same c.in_ok-rows.ensures.rows)))

pub returns-in_err-rows-clause-refused : goal.returns-in_err-rows-clause-refused
returns-in_err-rows-clause-refused c =
    let over = c.args.over.now in
    let items = c.as_slice-2.result.now in
    let parts = parts_in_items items in
    let held = context_in c.in_ok-frame.frame.context in
    let same = c.as_slice-3.ensures.value ∙ sym c.as_slice-2.ensures.value in
    let numbered = ap items_in c.as_slice-2.ensures.value ∙ c.in_ok-items.ensures ∙ ap (numbered_parts 1) c.as_slice.ensures in
    let whole = ap (items_give over) numbered ∙ file_gives over c.args.file.now in
    err_passed c.from_residual-in_err-rows.result _ _
    (λ y e. subst (λ a. Refuses a y) whole (fault_refuses (item_fault (context_of over parts) [] (items_in items)) (faultless over (context_of over parts) parts) y
    (subst (λ x. RefusesFault (item_fault x [] (items_in items)) y) c.in_ok-frame.ensures.context
    (subst (λ xs. RefusesFault (item_fault held [] (items_in xs)) y) same (subst (RefusesFault _) (sym e) c.in_err-rows.ensures.refused)))))
    c.from_residual-in_err-rows.ensures

pub returns-clause-exact : goal.returns-clause-exact
returns-clause-exact c =
    let numbers = ap items_in c.as_slice-2.ensures.value ∙ c.in_ok-items.ensures ∙ ap (numbered_parts 1) c.as_slice.ensures in
    let frame = c.in_ok-frame.ensures in
    let rows = c.in_ok-rows.ensures in
    let same = c.as_slice-3.ensures.value ∙ sym c.as_slice-2.ensures.value in
    let whole = whole_read c.args.over.now c.args.file.now c.as_slice-2.result.now c.as_slice-3.result.now (context_in c.in_ok-frame.frame.context) c.in_ok-frame.frame.sizes c.in_ok-rows.rows.entries
    same numbers frame.context frame.sizes rows.judged rows.rows in
    subst (λ a. IfOk c.fill.result (λ s. a ≡ Ok s)) whole c.fill.ensures.exact

pub returns-clause-refused : goal.returns-clause-refused
returns-clause-refused c =
    let numbers = ap items_in c.as_slice-2.ensures.value ∙ c.in_ok-items.ensures ∙ ap (numbered_parts 1) c.as_slice.ensures in
    let frame = c.in_ok-frame.ensures in
    let rows = c.in_ok-rows.ensures in
    let same = c.as_slice-3.ensures.value ∙ sym c.as_slice-2.ensures.value in
    let whole = whole_read c.args.over.now c.args.file.now c.as_slice-2.result.now c.as_slice-3.result.now (context_in c.in_ok-frame.frame.context) c.in_ok-frame.frame.sizes c.in_ok-rows.rows.entries
    same numbers frame.context frame.sizes rows.judged rows.rows in
    subst (λ a. IfErr c.fill.result (Refuses a)) whole c.fill.ensures.refused
