-- The depth of the deepest formula of a file.
use Rattle.std.specs.Prelude.{ℕ, max, List, [], ◌∷◌}
use Rattle.nxf_tree.specs.declared.tree.Body.TheVariants as body
use Rattle.nxf_tree.specs.declared.tree.Statement.{Statement}
use Rattle.nxf_tree.specs.declared.tree.Statement.TheVariants as statement
use Rattle.nxf_tree.specs.declared.tree.File.{File}
use Rattle.nxf_tree.specs.Depth.{formula_depth}

-- the depth of the formula of a statement, or 0 where it has none
abbrev pub statement_depth : Statement → ℕ
statement_depth (statement.Annotated name role (body.Formula f)) = formula_depth f
statement_depth (statement.Annotated name role (body.Typing t)) = 0
statement_depth (statement.Annotated name role (body.Logic l)) = 0
statement_depth (statement.Include file names) = 0

-- the depth of the deepest formula of the statements
abbrev pub statement_list_depth : List Statement → ℕ
statement_list_depth [] = 0
statement_list_depth (s ∷ ss) = max (statement_depth s) (statement_list_depth ss)

-- the depth of the deepest formula of a file
abbrev pub file_depth : File → ℕ
file_depth file = statement_list_depth file.statements
