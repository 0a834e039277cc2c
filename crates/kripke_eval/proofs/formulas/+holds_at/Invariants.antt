use Rattle.std.proofs.Common.{◌≡◌, ◌+◌, ◌*◌, ◌++◌, ◌∷◌, [], false, take}
use Rattle.std.specs.Prelude.{◌&&◌}
use Rattle.std.specs.List.{list_any}
use Rattle.nxf_tree.specs.Counting.{any_below, same_truth}
use Rattle.fin_struct.specs.KripkeTables.{related_in, exists_in}
use Rattle.formula_cells.specs.Stored.{node_at}
use Rattle.kripke_evaluation_definitions.specs.NumberedMeaning.{node_sat}
use Rattle.kripke_eval.proofs.formulas.+holds_at.Given as goal

-- a part has a smaller number than its cell
abbrev pub decreases-holds_at : goal.decreases-holds_at
decreases-holds_at g l = 4 * l.at + 1

abbrev pub decreases-some_part : goal.decreases-some_part
decreases-some_part g l = 4 * l.at

abbrev pub decreases-holds_of : goal.decreases-holds_of
decreases-holds_of g l = 4 * l.body + 2

abbrev pub decreases-some_element : goal.decreases-some_element
decreases-some_element g l = 4 * l.body + 3

abbrev pub decreases-some_world : goal.decreases-some_world
decreases-some_world g l = 4 * l.body + 3

-- none of the parts so far has the truth
abbrev pub invariant-some_part-loop-part : goal.invariant-some_part-loop-part
invariant-some_part-loop-part g l = record {
  kept : take l.top l.stack ≡ take l.top l.fn.stack;
  none : list_any (λ n. same_truth l.truth (node_sat l.here.view.now l.here.world (take l.top l.fn.stack) (node_at l.here.checked.now.stored n))) (take l.part-index l.parts) ≡ false;
}

abbrev pub invariant-some_element-loop-element : goal.invariant-some_element-loop-element
invariant-some_element-loop-element g l = record {
  kept : take l.top l.stack ≡ take l.top l.fn.stack;
  none : any_below l.element (λ a. exists_in l.here.view.now l.sort l.here.world a && same_truth l.truth (node_sat l.here.view.now l.here.world (take l.top l.fn.stack ++ a ∷ []) (node_at l.here.checked.now.stored l.body))) ≡ false;
}

abbrev pub invariant-some_world-loop-world : goal.invariant-some_world-loop-world
invariant-some_world-loop-world g l = record {
  kept : take l.top l.stack ≡ take l.top l.fn.stack;
  none : any_below l.world (λ v. related_in l.here.view.now l.index l.here.world v && same_truth l.truth (node_sat l.here.view.now v (take l.top l.fn.stack) (node_at l.here.checked.now.stored l.body))) ≡ false;
}
