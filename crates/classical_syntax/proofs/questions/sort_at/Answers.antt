use Rattle.std.proofs.Common.{sym}
use Rattle.classical_syntax.proofs.Places.{sort_at-place}
use Rattle.classical_syntax.proofs.questions.sort_at.Goals as goal

pub returns : goal.returns
returns c = sym (sort_at-place c.args.signature.now.sorts c.args.number _ c.sort_entry.ensures)
