use Rattle.syntax_definitions.proofs.CallerLemmas.{type_is}
use Rattle.nxf_statements.proofs.typings.+type_of.Goals as goal

pub type_of-returns : goal.type_of-returns
type_of-returns t c = rw (type_is c.args.most c.args.name c.args.left c.args.cursor.now) c.type_from.ensures
