use Rattle.std.proofs.Common.{◌≡◌, refl, ap, sym, ◌∙◌}
use Rattle.std.specs.Prelude.{slice_get, Some}
use Rattle.std.proofs.lemmas.Grind.{take_at_read}
use Rattle.std.proofs.lemmas.List.{take_all}
use Rattle.std.proofs.lemmas.Option.{slice_get_read}
use Rattle.nxf_tree.specs.Axioms.{domain_axioms_of}
use Rattle.embedding_laws.proofs.Whole.{axioms_theorem}
use Rattle.condition_axioms.proofs.AddingDomains.{domain_axioms-more}
use Rattle.condition_axioms.proofs.domains.axioms.Goals as goal

pub loop-sort-preserved : goal.loop-sort-preserved
loop-sort-preserved c =
    let sig = c.args.signature.now in
    let sorts = c.as_slice-sort-items.result.now in
    let more = (take_at_read sorts c.loop-sort.sort-index c.sort-item.result c.loop-sort-test.true).1 in
    let at : slice_get sig.sorts c.loop-sort.sort-index ≡ Some c.sort-item.result =
    ap (λ xs. slice_get xs c.loop-sort.sort-index) (sym c.as_slice-sort-items.ensures)
    ∙ slice_get_read sorts _ c.loop-sort.sort-index c.sort-item.result refl c.loop-sort-test.true c.sort-item.is in
    rw (more, ← c.sort-item.is, domain_axioms-more sig c.requires.different _ c.loop-sort.sort-index c.sort-item.result at, ← c.loop-sort.invariant) c.in_ok-add_axioms.ensures

pub returns-clause-written : goal.returns-clause-written
returns-clause-written c =
    c.loop-sort.invariant ∙ ap (domain_axioms_of c.args.signature.now) (take_all _ _ c.loop-sort-test.false ∙ c.as_slice-sort-items.ensures)

pub returns-clause-say : goal.returns-clause-say
returns-clause-say c K S over h = rw (returns-clause-written c) (axioms_theorem c.args.signature.now K S over h).domains
