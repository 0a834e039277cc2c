use Rattle.nxf_tree.specs.Shapes.{Name_is}
use Rattle.nxf_tree.specs.Names.{actual_name}
use Rattle.nxf_translate.proofs.place.place_term.Goals as goal

pub returns-in_ok-actual_name-in-Actual : goal.returns-in_ok-actual_name-in-Actual
returns-in_ok-actual_name-in-Actual c = rw (c.new.ensures, c.in_ok-actual_name-in-Actual.ensures, c.in-Actual.is) (Name_is actual_name)
