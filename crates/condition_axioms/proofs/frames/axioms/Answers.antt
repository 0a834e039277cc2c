use Rattle.std.proofs.Common.{ap, ◌∙◌}
use Rattle.std.proofs.lemmas.Grind.{take_at_read}
use Rattle.std.proofs.lemmas.List.{take_all}
use Rattle.nxf_tree.specs.Axioms.{frame_axioms}
use Rattle.embedding_laws.proofs.Whole.{axioms_theorem}
use Rattle.condition_axioms.proofs.AddingFrames.{frame_axioms-more}
use Rattle.condition_axioms.proofs.frames.axioms.Goals as goal

pub loop-index-preserved : goal.loop-index-preserved
loop-index-preserved c =
    let more = (take_at_read c.as_slice-index-items.result.now c.loop-index.index-index c.index-item.result c.loop-index-test.true).1 in
    rw (more, ← c.index-item.is, frame_axioms-more, ← c.loop-index.invariant) c.in_ok-add_axioms.ensures

pub returns-clause-written : goal.returns-clause-written
returns-clause-written c =
    c.loop-index.invariant ∙ ap frame_axioms (take_all _ _ c.loop-index-test.false ∙ c.as_slice-index-items.ensures)

pub returns-clause-say : goal.returns-clause-say
returns-clause-say c K S over h = rw (returns-clause-written c) (axioms_theorem c.args.signature.now K S over h).frames
