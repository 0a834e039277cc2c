use Rattle.formula_cells.specs.Stored.{node_at}
use Rattle.evaluation_laws.proofs.Evaluation.{evaluates}
use Rattle.kripke_eval.proofs.RoomLemmas.{node-room}
use Rattle.kripke_eval.proofs.evaluator.Eval.is_met.Goals as goal

pub holds_where-requires-clause-room : goal.holds_where-requires-clause-room
holds_where-requires-clause-room g c =
    node-room c.args.self.now c.args.checked.now c.args.at (node_at c.args.checked.now.stored c.root-root.result) c.requires.room c.root-root.ensures.stands c.root-root.ensures.sorted

pub holds_where-requires-clause-fits : goal.holds_where-requires-clause-fits
holds_where-requires-clause-fits g c =
    let s = c.root-root.ensures.sorted in
    (evaluates c.args.checked.now.signature c.args.view.now c.signature-signature.ensures.well_formed c.worlds-worlds.ensures.within c.requires.over (node_at c.args.checked.now.stored c.root-root.result) s.formula s.named s).fits

pub holds_where-requires-in-Conjecture-clause-room : goal.holds_where-requires-in-Conjecture-clause-room
holds_where-requires-in-Conjecture-clause-room g c =
    node-room c.args.self.now c.args.checked.now c.args.at (node_at c.args.checked.now.stored c.root-root.result) c.requires.room c.root-root.ensures.stands c.root-root.ensures.sorted

pub holds_where-requires-in-Conjecture-clause-fits : goal.holds_where-requires-in-Conjecture-clause-fits
holds_where-requires-in-Conjecture-clause-fits g c =
    let s = c.root-root.ensures.sorted in
    (evaluates c.args.checked.now.signature c.args.view.now c.signature-signature.ensures.well_formed c.worlds-worlds.ensures.within c.requires.over (node_at c.args.checked.now.stored c.root-root.result) s.formula s.named s).fits
