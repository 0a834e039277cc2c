-- The parts of a statement's text.
use Rattle.std.specs.Prelude.{ℕ, List, ◌++◌, codes}
use Rattle.nxf_tree.specs.declared.tree.Role.{Role}
use Rattle.nxf_tree.specs.Text.{name_text, role_text}

-- what stands before the body of a statement, which its body and `).` with a line feed follow
abbrev pub front_text : List ℕ → Role → List ℕ
front_text name role = codes "tff(" ++ name_text name ++ codes "," ++ role_text role ++ codes ","
