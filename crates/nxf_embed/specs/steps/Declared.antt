-- The declaration of the actual world.
use Rattle.std.specs.Prelude.{[], Some}
use Rattle.nxf_tree.specs.declared.tree.SortName.TheVariants.{User}
use Rattle.nxf_tree.specs.declared.tree.Statement.{Statement}
use Rattle.nxf_tree.specs.declared.tree.Typing.TheVariants.{Symbol}
use Rattle.nxf_tree.specs.Names.{world_name, actual_name}
use Rattle.nxf_tree.specs.Problem.{declaration}

-- it is a constant of the sort of worlds
abbrev pub actual_declaration : Statement
actual_declaration = declaration actual_name (Symbol actual_name [] (Some (User world_name)))
