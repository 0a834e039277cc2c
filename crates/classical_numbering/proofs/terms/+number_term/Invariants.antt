use Rattle.std.proofs.Common.{◌+◌, ◌*◌, take}
use Rattle.nxf_tree.specs.Depth.{term_depth, list_depth}
use Rattle.formula_cells.specs.Putting.{PutsTerms}
use Rattle.classical_numbering.specs.steps.Numbering.{NamesTerms}
use Rattle.classical_numbering.proofs.terms.+number_term.Given as goal

abbrev pub decreases-number_term : goal.decreases-number_term
decreases-number_term l = 2 * term_depth l.term.now

abbrev pub decreases-number_terms : goal.decreases-number_terms
decreases-number_terms l = 2 * list_depth l.terms.now + 1

-- the terms so far
abbrev pub invariant-number_terms-loop-term : goal.invariant-number_terms-loop-term
invariant-number_terms-loop-term l = PutsTerms (NamesTerms l.names.over.now l.binders (take l.term-index l.terms)) l.fn.cells l.cells l.args
