use Rattle.std.proofs.Common.{◌≡◌, drop, take}
use Rattle.std.specs.Prelude.{map, Some}
use Rattle.nxf_tree.specs.Signature.{sort_at}
use Rattle.nxf_tree.specs.Sorting.{modal_language}
use Rattle.nxf_tree.specs.SortFaults.{arguments_fault}
use Rattle.numbered_definitions.specs.NamedForm.{named_terms}
use Rattle.formula_cells.specs.Putting.{PutsTerms}
use Rattle.nxf_sorts.specs.steps.Scope.{variables, bound_in}
use Rattle.nxf_sorts.proofs.number.+number_term.Given as goal

abbrev pub invariant-number_terms-loop-term : goal.invariant-number_terms-loop-term
invariant-number_terms-loop-term l = record {
  faults :
      arguments_fault (modal_language l.names.signature) l.names.declared (bound_in l.names.signature l.binders) l.of (map (sort_at l.names.signature.sorts) l.sorts) l.terms
      ≡ arguments_fault (modal_language l.names.signature) l.names.declared (bound_in l.names.signature l.binders) l.of (map (sort_at l.names.signature.sorts) (drop l.term-index l.sorts)) (drop l.term-index l.terms);
  puts : PutsTerms (λ ns. named_terms l.names.signature (variables l.binders) ns ≡ Some (take l.term-index l.terms)) l.fn.cells l.cells l.args;
  place : l.at ≡ l.term-index;
}
