use Rattle.syntax_definitions.proofs.CallerLemmas.{typing_is}
use Rattle.nxf_statements.proofs.typings.+typing.Goals as goal

pub typing-returns : goal.typing-returns
typing-returns t c = rw (typing_is c.args.most c.args.left c.args.cursor.now) c.typing_from.ensures
