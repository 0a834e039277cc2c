use Rattle.std.proofs.Common.{sym, ◌∙◌, arith}
use Rattle.domains.proofs.FaultLemmas.{monotone-holds, monotone-fails}
use Rattle.domains.proofs.faults.monotone_fault.Goals as goal

pub returns-then-not-goes_along : goal.returns-then-not-goes_along
returns-then-not-goes_along c =
    sym (sym c.loop-index.invariant ∙ monotone-fails c.args.kripke.now c.args.regime c.args.sort c.loop-index.index c.args.indexes.now (omega arith) (sym c.if-not-goes_along.ensures))

pub loop-index-preserved : goal.loop-index-preserved
loop-index-preserved c =
    sym (monotone-holds c.args.kripke.now c.args.regime c.args.sort c.loop-index.index c.args.indexes.now (omega arith) (sym c.if-not-goes_along.ensures)) ∙ c.loop-index.invariant
