use Rattle.std.proofs.Common.{◌≡◌, ◌+◌, drop}
use Rattle.interpretation_definitions.specs.Interpretation.{incomplete_from}
use Rattle.interp_reader.specs.steps.Filling.{IsFilledBelow, rows_in}
use Rattle.interp_reader.proofs.fill.fill_tables.Given as goal

abbrev pub invariant-loop-at : goal.invariant-loop-at
invariant-loop-at l = record {
  complete : incomplete_from 1 l.sizes (rows_in l.rows.entries) l.over.tables ≡ incomplete_from (l.at + 1) l.sizes (rows_in l.rows.entries) (drop l.at l.over.tables);
  filled : IsFilledBelow l.over l.sizes l.rows.entries l.at l.structure;
}
