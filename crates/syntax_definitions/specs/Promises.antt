-- What every gathered file is, whatever the libraries tell.
use Rattle.std.specs.Prelude.{◌≤◌, Bool, true, false, List, IsTrue}
use Rattle.std.specs.List.{list_all, AllByRecursion}
use Rattle.nxf_tree.specs.declared.profile.Profile.TheVariants.{Problem}
use Rattle.nxf_tree.specs.declared.tree.File.{File}
use Rattle.nxf_tree.specs.declared.tree.Statement.{Statement}
use Rattle.nxf_tree.specs.declared.tree.Statement.TheVariants.{Annotated, Include}
use Rattle.nxf_tree.specs.FileDepth.{statement_depth, file_depth}
use Rattle.nxf_tree.specs.Weight.{file_weight}
use Rattle.nxf_tree.specs.Regular.{is_regular_statement, IsRegular}
use Rattle.syntax_definitions.specs.Levels.{statement_levels, file_levels}
use Rattle.nxf_tree.specs.Profiles.{allowed_in, any_allowed, levels_of}

-- the statement is no include
abbrev pub is_no_include : Statement → Bool
is_no_include (Annotated name role body) = true
is_no_include (Include file names) = false

pub record IsFine (file : File) : Type 0 where
  -- as any text of the language
  pub regular : IsRegular any_allowed file
  -- no `$distinct`, and no name with more than 1,000 arguments
  pub allowed : IsRegular (allowed_in Problem) file
  pub no_include : IsTrue (list_all is_no_include file.statements)
  pub depth : file_depth file ≤ 2001
  -- as deep in brackets as a problem may be
  pub levels : file_levels file ≤ levels_of Problem
  pub weight : file_weight file ≤ 67108864

-- ---- the same of one statement after another

-- what the reading of a file promises of each statement
pub record IsReadStatement (s : Statement) : Type 0 where
  pub regular : IsTrue (is_regular_statement any_allowed s)
  pub allowed : IsTrue (is_regular_statement (allowed_in Problem) s)
  pub depth : statement_depth s ≤ 2001
  pub levels : statement_levels s ≤ levels_of Problem

pub record IsFineStatement (s : Statement) : Type 0 where
  pub read : IsReadStatement s
  pub no_include : IsTrue (is_no_include s)

abbrev pub AreReadStatements : List Statement → Type 0
AreReadStatements = AllByRecursion IsReadStatement

abbrev pub AreFine : List Statement → Type 0
AreFine = AllByRecursion IsFineStatement
