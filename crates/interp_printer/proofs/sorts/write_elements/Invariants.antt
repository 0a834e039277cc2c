use Rattle.std.proofs.Common.{◌≡◌, ◌++◌, map}
use Rattle.nxf_tree.specs.Shapes.{Name0}
use Rattle.nxf_tree.specs.Text.{terms_text}
use Rattle.interpretation_text_definitions.specs.ElementNames.{element_names}
use Rattle.interp_printer.proofs.sorts.write_elements.Given as goal

abbrev pub invariant-loop-number : goal.invariant-loop-number
invariant-loop-number l = l.out.items ≡ l.initial.out.items ++ terms_text (map Name0 (element_names l.sorts l.sort l.number))
