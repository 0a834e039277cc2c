use Rattle.std.proofs.Common.{subst}
use Rattle.kripke_text.specs.steps.Subjects.{IsIn}
use Rattle.kripke_text.proofs.SubjectReads.{sort_in}
use Rattle.kripke_text.proofs.table.front.Goals as goal

pub sort_at-requires : goal.sort_at-requires
sort_at-requires g c = sort_in c.args.over.now.sorts c.in-Existence.sort (subst (IsIn c.args.over.now) c.in-Existence.is c.requires.subject_in).0
