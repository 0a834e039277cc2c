use Rattle.std.proofs.Common.{◌≡◌, ◌++◌, map}
use Rattle.std.specs.Prelude.{codes}
use Rattle.std.specs.List.{join_by}
use Rattle.nxf_tree.specs.Text.{unit_text}
use Rattle.interpretation_text_definitions.specs.ElementNames.{element_names}
use Rattle.interpretation_text_definitions.specs.InterpretationText.{is_element}
use Rattle.interp_printer.proofs.sorts.write_members.Given as goal

abbrev pub invariant-loop-number : goal.invariant-loop-number
invariant-loop-number l = l.out.items ≡ l.initial.out.items ++ join_by unit_text (codes " | ") (map is_element (element_names l.sorts l.sort l.number))
