use Rattle.std.proofs.Common.{◌≡◌, map}
use Rattle.std.specs.List.{fold}
use Rattle.nxf_tree.specs.Signature.{sort_at}
use Rattle.kripke_text_definitions.specs.KripkeText.{elements}
use Rattle.kripke_text.specs.steps.Taking.{elements_from}
use Rattle.kripke_text.proofs.pieces.elements.Given as goal

abbrev pub invariant-loop-i : goal.invariant-loop-i
invariant-loop-i g l = fold g.M.Taker.takes l.out (elements_from (map (sort_at l.over.sorts) l.args) l.row l.i) ≡ fold g.M.Taker.takes l.fn.out (elements (map (sort_at l.over.sorts) l.args) l.row)
