use Rattle.std.proofs.Common.{◌≡◌, ◌++◌, take}
use Rattle.std.specs.Prelude.{map}
use Rattle.nxf_tree.specs.Problem.{table_declaration}
use Rattle.nxf_embed.proofs.declare.declare_tables.Given as goal

abbrev pub invariant-loop-table : goal.invariant-loop-table
invariant-loop-table l =
    l.statements ≡ l.initial.statements ++ map (table_declaration l.signature.sorts) (take l.table-index l.table-items)
