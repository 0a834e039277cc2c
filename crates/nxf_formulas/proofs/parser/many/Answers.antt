use Rattle.std.proofs.Common.{arith}
use Rattle.syntax_definitions.proofs.CallerLemmas.{no_many}
use Rattle.nxf_formulas.proofs.parser.many.Goals as goal

pub returns-then-left-eq0 : goal.returns-then-left-eq0
returns-then-left-eq0 c other = no_many c.args.most c.args.left c.args.cursor.now (omega arith)
