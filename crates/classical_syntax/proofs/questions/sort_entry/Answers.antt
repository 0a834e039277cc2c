use Rattle.classical_syntax.proofs.Places.{in_range-below}
use Rattle.classical_syntax.proofs.questions.sort_entry.Goals as goal

pub get-requires : goal.get-requires
get-requires c = in_range-below c.args.signature.now.sorts c.args.number c.requires
