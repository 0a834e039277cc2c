-- What a printed problem keeps of a file: its countermodels, one for one, how many worlds they have, and one conjecture at most.
use Rattle.std.specs.Prelude.{◌≤◌, Bool, false, codes, count_by}
use Rattle.nxf_tree.specs.declared.tree.Statement.{Statement}
use Rattle.nxf_tree.specs.declared.tree.Statement.TheVariants.{Annotated, Include}
use Rattle.nxf_tree.specs.declared.tree.File.{File}
use Rattle.nxf_tree.specs.Names.{same_text}

-- whether the role of the statement is that of a conjecture
abbrev pub has_conjecture_role : Statement → Bool
has_conjecture_role (Annotated name role body) = same_text role.word (codes "conjecture")
has_conjecture_role (Include file names) = false

abbrev pub HasOneConjectureAtMost : File → Type 0
HasOneConjectureAtMost file = count_by has_conjecture_role file.statements ≤ 1
