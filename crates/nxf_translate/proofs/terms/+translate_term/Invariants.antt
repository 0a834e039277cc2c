use Rattle.std.proofs.Common.{◌≡◌, ◌+◌, ◌*◌, ◌++◌, List, take}
use Rattle.std.specs.Prelude.{map, Some}
use Rattle.nxf_tree.specs.declared.tree.Term.{Term}
use Rattle.nxf_tree.specs.Embedding.{st_term}
use Rattle.numbered_definitions.specs.NamedForm.{named_terms}
use Rattle.formula_cells.specs.Stored.{term_at}
use Rattle.nxf_translate.specs.steps.Place.{term_of}
use Rattle.nxf_translate.proofs.terms.+translate_term.Given as goal

abbrev pub invariant-translate_terms-loop-arg : goal.invariant-translate_terms-loop-arg
invariant-translate_terms-loop-arg l =
    (us : List Term) → named_terms l.checked.signature l.binders (map (term_at l.checked.stored) (take l.arg-index l.args)) ≡ Some us → l.made ≡ l.initial.made ++ map (st_term l.checked.signature (term_of l.place)) us

abbrev pub decreases-translate_term : goal.decreases-translate_term
decreases-translate_term l = 2 * l.at + 1

abbrev pub decreases-translate_terms : goal.decreases-translate_terms
decreases-translate_terms l = 2 * l.before
