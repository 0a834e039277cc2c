use Rattle.std.proofs.Common.{◌≡◌, ◌++◌, map}
use Rattle.std.specs.Prelude.{flat_map}
use Rattle.nxf_tree.specs.Rows.{numbers_below}
use Rattle.nxf_tree.specs.Text.{statement_text}
use Rattle.interpretation_text_definitions.specs.InterpretationText.{element_declaration}
use Rattle.interp_printer.proofs.sorts.declare_elements.Given as goal

abbrev pub invariant-loop-number : goal.invariant-loop-number
invariant-loop-number l = l.out.items ≡ l.initial.out.items ++ flat_map statement_text (map (element_declaration l.sorts l.sort) (numbers_below l.number))
