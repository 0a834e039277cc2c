use Rattle.std.proofs.Common.{◌+◌, drop}
use Rattle.interpretation_definitions.specs.Given.{own_rows_from}
use Rattle.interpretation_parts.specs.steps.Held.{context_in, HasRows}
use Rattle.interp_reader.proofs.own.own_rows.Given as goal

-- the rows of the tables that the walk has passed
abbrev pub invariant-loop-at : goal.invariant-loop-at
invariant-loop-at l = HasRows l.rows.entries (own_rows_from (l.at + 1) (context_in l.context) (drop l.at l.context.known.over.now.tables))
