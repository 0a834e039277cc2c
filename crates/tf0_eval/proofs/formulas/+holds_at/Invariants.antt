use Rattle.std.proofs.Common.{◌≡◌, ◌+◌, ◌*◌, ◌++◌, ◌∷◌, [], false, take}
use Rattle.std.specs.List.{list_any}
use Rattle.nxf_tree.specs.Counting.{any_below, same_truth}
use Rattle.formula_cells.specs.Stored.{node_at}
use Rattle.classical_evaluation_definitions.specs.ClassicalMeaning.{node_sat}
use Rattle.tf0_eval.proofs.formulas.+holds_at.Given as goal

-- a part has a smaller number than its cell
abbrev pub decreases-holds_at : goal.decreases-holds_at
decreases-holds_at g l = 4 * l.at + 1

abbrev pub decreases-some_part : goal.decreases-some_part
decreases-some_part g l = 4 * l.at

abbrev pub decreases-holds_of : goal.decreases-holds_of
decreases-holds_of g l = 4 * l.body + 2

abbrev pub decreases-some_element : goal.decreases-some_element
decreases-some_element g l = 4 * l.body + 3

abbrev pub decreases-quantified : goal.decreases-quantified
decreases-quantified g l = 4 * l.body + 4

-- none of the parts so far has the truth
abbrev pub invariant-some_part-loop-part : goal.invariant-some_part-loop-part
invariant-some_part-loop-part g l = record {
  kept : take l.top l.stack ≡ take l.top l.fn.stack;
  none : list_any (λ n. same_truth l.truth (node_sat l.here.view.now (take l.top l.fn.stack) (node_at l.here.prepared.now.stored n))) (take l.part-index l.parts) ≡ false;
}

abbrev pub invariant-some_element-loop-element : goal.invariant-some_element-loop-element
invariant-some_element-loop-element g l = record {
  kept : take l.top l.stack ≡ take l.top l.fn.stack;
  none : any_below l.element (λ a. same_truth l.truth (node_sat l.here.view.now (take l.top l.fn.stack ++ a ∷ []) (node_at l.here.prepared.now.stored l.body))) ≡ false;
}
