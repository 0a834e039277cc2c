use Rattle.std.proofs.Common.{◌∙◌}
use Rattle.fin_struct.proofs.LimitsLemmas.{size_at-read, size_missing}
use Rattle.fin_struct.proofs.limits.size_at.Goals as goal

pub returns-in-Some : goal.returns-in-Some
returns-in-Some c = c.in-Some.ensures.lookup.3.1 0 ∙ size_at-read c.args.sizes.now c.args.sort

pub returns-in-None : goal.returns-in-None
returns-in-None c = size_missing c.args.sizes.now c.args.sort c.in-None.ensures.lookup.3
