use Rattle.std.proofs.Common.{◌∙◌}
use Rattle.std.specs.Option.{option_or}
use Rattle.nxf_tree.specs.Sorting.{modal_language}
use Rattle.nxf_tree.specs.SortFaults.{unknown_sort, unknown_sorts, gives_list}
use Rattle.nxf_sorts.proofs.UseLemmas.{fault_first, fault_is}
use Rattle.nxf_sorts.proofs.TypingLemmas.{unknown_parts, judges_is, judges_with, or_none}
use Rattle.nxf_sorts.proofs.typing.judge_type.Goals as goal

pub returns-in_err-judge_sorts : goal.returns-in_err-judge_sorts
returns-in_err-judge_sorts c =
    judges_with _ _ _ c.from_residual.ensures.1
    (fault_is _ _ _ (unknown_parts (modal_language c.args.names.now.signature) c.args.args.now (gives_list c.args.gives.now)) (fault_first _ _ _ c.in_err-judge_sorts.ensures))

pub returns-in-Some : goal.returns-in-Some
returns-in-Some c =
    let L = modal_language c.args.names.now.signature in
    judges_is _ _ _
    (unknown_parts L c.args.args.now (gives_list c.args.gives.now) ∙ (λ i. option_or (c.in_ok-judge_sorts.ensures i) (unknown_sorts L (gives_list (c.in-Some.is i)))) ∙ or_none (unknown_sort L c.in-Some.sort))
    c.judge_sort.ensures
