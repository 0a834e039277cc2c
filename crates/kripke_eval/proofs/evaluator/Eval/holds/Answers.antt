use Rattle.std.proofs.Common.{[], Some, sym, ap, ◌∙◌, arith}
use Rattle.std.specs.Prelude.{slice_get}
use Rattle.std.specs.Option.{option_map}
use Rattle.nxf_tree.specs.Kripke.{sat}
use Rattle.formula_cells.specs.Stored.{node_at}
use Rattle.kripke_evaluation_definitions.specs.FileConditions.{model_of}
use Rattle.evaluation_laws.proofs.DepthLemmas.{depth-same}
use Rattle.evaluation_laws.proofs.Evaluation.{evaluates}
use Rattle.kripke_eval.proofs.RoomLemmas.{of-node}
use Rattle.kripke_eval.proofs.evaluator.Eval.holds.Goals as goal

pub holds_root-requires-clause-room : goal.holds_root-requires-clause-room
holds_root-requires-clause-room g c =
    let sig = c.args.checked.now.signature in
    let s = c.root-root.ensures.sorted in
    let n = node_at c.args.checked.now.stored c.root-root.result in
    omega (arith, depth-same sig n [] s.formula s.named, c.requires.room s.formula (of-node sig (slice_get c.args.checked.now.formulas c.args.at) n s.formula c.root-root.ensures.stands s.named))

pub holds_root-requires-clause-fits : goal.holds_root-requires-clause-fits
holds_root-requires-clause-fits g c =
    let sig = c.args.checked.now.signature in
    let s = c.root-root.ensures.sorted in
    (evaluates sig c.args.view.now c.signature-signature.ensures.well_formed c.worlds-worlds.ensures.within c.requires.over (node_at c.args.checked.now.stored c.root-root.result) s.formula s.named s).fits c.args.world c.requires.world_in

pub returns-clause-value : goal.returns-clause-value
returns-clause-value g c =
    let sig = c.args.checked.now.signature in
    let view = c.args.view.now in
    let s = c.root-root.ensures.sorted in
    let n = node_at c.args.checked.now.stored c.root-root.result in
    let same = (evaluates sig view c.signature-signature.ensures.well_formed c.worlds-worlds.ensures.within c.requires.over n s.formula s.named s).same c.args.world c.requires.world_in in
    ap (option_map (sat (model_of sig view) c.args.world [])) (of-node sig (slice_get c.args.checked.now.formulas c.args.at) n s.formula c.root-root.ensures.stands s.named)
    ∙ ap Some (sym same ∙ sym c.holds_root.ensures.value)
