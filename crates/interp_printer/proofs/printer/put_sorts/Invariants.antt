use Rattle.std.proofs.Common.{◌≡◌, ◌++◌}
use Rattle.std.specs.Prelude.{flat_map}
use Rattle.nxf_tree.specs.Text.{statement_text}
use Rattle.interp_printer.proofs.Statements.{first_sorts}
use Rattle.interp_printer.proofs.printer.put_sorts.Given as goal

abbrev pub invariant-loop-sort : goal.invariant-loop-sort
invariant-loop-sort l = l.out.items ≡ l.initial.out.items ++ flat_map statement_text (first_sorts l.over.sorts l.structure.sizes l.sort)
