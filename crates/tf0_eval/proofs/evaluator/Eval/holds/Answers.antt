use Rattle.std.proofs.Common.{[], Some, sym, ap, ◌∙◌}
use Rattle.std.specs.Prelude.{slice_get}
use Rattle.nxf_tree.specs.Classical.{csat}
use Rattle.formula_cells.specs.Stored.{node_at}
use Rattle.classical_evaluation_definitions.specs.ClassicalFaults.{model_of}
use Rattle.classical_evaluation_laws.proofs.Evaluation.{evaluates}
use Rattle.classical_numbering.specs.Prepared.{meant_by}
use Rattle.tf0_eval.proofs.RoomLemmas.{node-room, of-formula}
use Rattle.tf0_eval.proofs.evaluator.Eval.holds.Goals as goal

pub holds_root-requires-clause-room : goal.holds_root-requires-clause-room
holds_root-requires-clause-room g c =
    let n = node_at c.args.prepared.now.stored c.root-root.result in
    node-room c.args.self.now c.args.prepared.now c.args.at n (meant_by c.args.prepared.now.signature n) c.requires.room c.root-root.ensures.is c.root-root.ensures.stands

pub holds_root-requires-clause-fits : goal.holds_root-requires-clause-fits
holds_root-requires-clause-fits g c =
    let csig = c.args.prepared.now.signature in
    let n = node_at c.args.prepared.now.stored c.root-root.result in
    let s = c.root-root.ensures.stands in
    (evaluates csig c.args.view.now c.signature-signature.ensures.well_formed c.size-worlds.ensures.within c.requires.over n (meant_by csig n) s.named s.sorted).fits

pub returns-clause-value : goal.returns-clause-value
returns-clause-value g c =
    let csig = c.args.prepared.now.signature in
    let view = c.args.view.now in
    let n = node_at c.args.prepared.now.stored c.root-root.result in
    let s = c.root-root.ensures.stands in
    let same = (evaluates csig view c.signature-signature.ensures.well_formed c.size-worlds.ensures.within c.requires.over n (meant_by csig n) s.named s.sorted).same in
    of-formula (csat (model_of csig view) []) (slice_get c.args.prepared.now.formulas c.args.at) (meant_by csig n) c.root-root.ensures.is
    ∙ ap Some (sym same ∙ sym c.holds_root.ensures.value)
