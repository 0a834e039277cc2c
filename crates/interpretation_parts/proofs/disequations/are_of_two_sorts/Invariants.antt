use Rattle.std.proofs.Common.{◌≡◌, take, nat_eq}
use Rattle.std.specs.Prelude.{not}
use Rattle.std.specs.List.{list_any}
use Rattle.interpretation_definitions.specs.declared.element.Element.{Element}
use Rattle.interpretation_parts.proofs.disequations.are_of_two_sorts.Given as goal

abbrev pub invariant-loop-element : goal.invariant-loop-element
invariant-loop-element l = l.two ≡ list_any (λ (d : Element). not (nat_eq d.sort l.sort)) (take l.element-index l.elements)
