-- The term that stands for a world.
use Rattle.nxf_tree.specs.declared.tree.Term.{Term, Var}
use Rattle.nxf_tree.specs.Shapes.{Name0}
use Rattle.nxf_tree.specs.Names.{actual_name, world_variable}
use Rattle.nxf_translate.specs.declared.place.Place.{Place}
use Rattle.nxf_translate.specs.declared.place.Place.TheVariants.{Actual, Reached}

abbrev pub term_of : Place → Term
term_of Actual = Name0 actual_name
term_of (Reached j) = Var (world_variable j)
