use Rattle.std.proofs.Common.{◌≡◌, refl, ap, sym, ◌∙◌}
use Rattle.std.specs.Prelude.{slice_get, Some}
use Rattle.std.proofs.lemmas.Grind.{take_at_read}
use Rattle.std.proofs.lemmas.List.{take_all}
use Rattle.std.proofs.lemmas.Option.{slice_get_read}
use Rattle.nxf_tree.specs.Axioms.{term_axioms_of}
use Rattle.embedding_laws.proofs.Whole.{axioms_theorem}
use Rattle.condition_axioms.proofs.AddingTerms.{term_axioms-more, listed-at}
use Rattle.condition_axioms.proofs.designation.axioms.Goals as goal

pub add_axiom-requires-clause-listed : goal.add_axiom-requires-clause-listed
add_axiom-requires-clause-listed c =
    let sig = c.args.signature.now in
    let symbols = c.as_slice-symbol-items.result.now in
    let at : slice_get sig.symbols c.loop-symbol.symbol-index ≡ Some c.symbol-item.result =
    ap (λ xs. slice_get xs c.loop-symbol.symbol-index) (sym c.as_slice-symbol-items.ensures)
    ∙ slice_get_read symbols _ c.loop-symbol.symbol-index c.symbol-item.result refl c.loop-symbol-test.true c.symbol-item.is in
    listed-at sig c.requires c.loop-symbol.symbol-index c.symbol-item.result at

pub loop-symbol-preserved : goal.loop-symbol-preserved
loop-symbol-preserved c =
    let more = (take_at_read c.as_slice-symbol-items.result.now c.loop-symbol.symbol-index c.symbol-item.result c.loop-symbol-test.true).1 in
    rw (more, ← c.symbol-item.is, term_axioms-more, ← c.loop-symbol.invariant) c.in_ok-add_axiom.ensures

pub returns-clause-written : goal.returns-clause-written
returns-clause-written c =
    c.loop-symbol.invariant ∙ ap (term_axioms_of c.args.signature.now) (take_all _ _ c.loop-symbol-test.false ∙ c.as_slice-symbol-items.ensures)

pub returns-clause-say : goal.returns-clause-say
returns-clause-say c K S over h = rw (returns-clause-written c) (axioms_theorem c.args.signature.now K S over h).terms
