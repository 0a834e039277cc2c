use Rattle.std.proofs.Common.{None, false, ap, ◌∙◌, sym, subst}
use Rattle.std.specs.Prelude.{is_some}
use Rattle.nxf_tree.specs.Counting.{same_truth}
use Rattle.std.proofs.lemmas.Bool.{eqb-true}
use Rattle.name_laws.proofs.Spelling.{never}
use Rattle.nxf_sorts.specs.steps.Numbering.{Uses}
use Rattle.nxf_sorts.proofs.UseLemmas.{fault_is, no_entry, wrong_kind, wrong_count, used}
use Rattle.nxf_sorts.proofs.number.used_predicate.Goals as goal

pub returns-in-None : goal.returns-in-None
returns-in-None c =
    fault_is _ _ _ (no_entry c.args.names.now.signature c.args.names.now.declared c.args.name.now c.args.count false (sym c.has_sort.ensures ∙ c.if-has_sort.false) (sym c.in-None.ensures)) c.wrong_use.ensures

pub returns-in-Some-gives : goal.returns-in-Some-gives
returns-in-Some-gives c =
    fault_is _ _ _
    (wrong_kind c.args.names.now.signature c.args.names.now.declared c.args.name.now c.args.count false (c.in-Some.number, c.in-Some.entry.now) (sym c.has_sort.ensures ∙ c.if-has_sort.false) (sym c.in-Some.ensures) (ap (λ o. same_truth (is_some o) false) c.in-Some-gives.is))
    c.wrong_use-in-Some-gives.ensures

pub returns-then-len-count : goal.returns-then-len-count
returns-then-len-count c =
    subst (Uses c.args.names.now.signature c.args.names.now.declared c.args.name.now c.args.count None c.in-Some.number) (sym c.as_slice.ensures)
    (used c.args.names.now.signature c.args.names.now.declared c.args.name.now c.args.count (None) (c.in-Some.number, c.in-Some.entry.now) c.requires (sym c.has_sort.ensures ∙ c.if-has_sort.false) (sym c.in-Some.ensures) c.in-None-gives.is (sym c.len.ensures ∙ c.if-len-count.true))

pub returns-else-len-count : goal.returns-else-len-count
returns-else-len-count c =
    fault_is _ _ _
    (wrong_count c.args.names.now.signature c.args.names.now.declared c.args.name.now c.args.count false (c.in-Some.number, c.in-Some.entry.now) (sym c.has_sort.ensures ∙ c.if-has_sort.false) (sym c.in-Some.ensures) (never _ (λ e. c.if-len-count.false (c.len.ensures ∙ eqb-true _ _ e))))
    c.wrong_use-else-len-count.ensures
