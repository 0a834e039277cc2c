use Rattle.std.proofs.Common.{◌≡◌, ◌+◌, ◌*◌, take}
use Rattle.std.specs.Prelude.{max, map}
use Rattle.formula_cells.specs.Stored.{node_at}
use Rattle.nxf_translate.specs.steps.Forms.{AreForms}
use Rattle.nxf_translate.specs.steps.Place.{term_of}
use Rattle.nxf_translate.proofs.formulas.+translate.Given as goal

abbrev pub invariant-translate_all-loop-part : goal.invariant-translate_all-loop-part
invariant-translate_all-loop-part l = record {
  same : l.binders.items ≡ l.initial.binders.items;
  so_far : AreForms l.here.checked.now.signature l.initial.binders.items (term_of l.here.place) l.here.next (map (node_at l.here.checked.now.stored) (take l.part-index l.parts)) l.made;
}

abbrev pub decreases-translate : goal.decreases-translate
decreases-translate l = 2 * l.at + 1

abbrev pub decreases-translate_all : goal.decreases-translate_all
decreases-translate_all l = 2 * l.before

abbrev pub decreases-negation : goal.decreases-negation
decreases-negation l = 2 * l.part + 2

abbrev pub decreases-two_sides : goal.decreases-two_sides
decreases-two_sides l = 2 * max l.left l.right + 2

abbrev pub decreases-quantification : goal.decreases-quantification
decreases-quantification l = 2 * l.body + 2

abbrev pub decreases-modality : goal.decreases-modality
decreases-modality l = 2 * l.body + 2
