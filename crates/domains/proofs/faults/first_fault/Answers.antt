use Rattle.std.proofs.Common.{◌≡◌, ◌≤◌, length, sym, ap, ◌∙◌, arith, None, Some}
use Rattle.std.proofs.lemmas.List.{drop_all}
use Rattle.nxf_tree.specs.Structures.{kripke_model}
use Rattle.fin_struct.specs.FirstFault.{domains_from, domain_conditions}
use Rattle.fin_struct.specs.KripkeTables.{kripke_structure}
use Rattle.structure_laws.specs.KripkeLaws.{HasPlaces}
use Rattle.structure_laws.proofs.FirstFaultLemmas.{first_failing, first_told, none_told, domain_conditions-all}
use Rattle.structure_laws.proofs.KripkeNames.{places-law}
use Rattle.domains.proofs.FaultLemmas.{holds_in, at-sort, sort-none, sort-some}
use Rattle.domains.proofs.faults.first_fault.Goals as goal
use Rattle.domains.proofs.faults.first_fault.Goals.{In-Some, After-loop-place}

pub sort_fault-requires-clause-sort_in : goal.sort_fault-requires-clause-sort_in
sort_fault-requires-clause-sort_in c =
    let places : HasPlaces c.args.over.now c.args.kripke.now = places-law c.args.over.now c.args.kripke.now c.worlds-worlds.ensures.within c.requires.over in
    omega (arith, places.sorts, ap length c.as_slice-sort-items.ensures)

found : (c : In-Some) → first_failing (holds_in c.args.over.now c.args.kripke.now) (domain_conditions c.args.over.now) ≡ Some c.in-Some.fault
found c =
    let at = at-sort c.args.over.now c.args.kripke.now c.loop-place.place c.sort-item.result _ c.requires.well_formed.different c.worlds-worlds.ensures.within c.requires.over c.as_slice-sort-items.ensures c.loop-place-test.true c.sort-item.is in
    sym c.loop-place.invariant ∙ sort-some c.args.over.now c.args.kripke.now c.loop-place.place c.sort-item.result c.in-Some.fault at (sym c.in-Some.ensures)

pub returns-in-Some-clause-first : goal.returns-in-Some-clause-first
returns-in-Some-clause-first c = first_told (holds_in c.args.over.now c.args.kripke.now) (domain_conditions c.args.over.now) _ (found c)

pub returns-in-Some-clause-none : goal.returns-in-Some-clause-none
returns-in-Some-clause-none c =
    let sig = c.args.over.now in
    none_told (holds_in sig c.args.kripke.now) (domain_conditions sig) _ _ (domain_conditions-all sig (kripke_model sig (kripke_structure c.args.kripke.now)) c.requires.well_formed.different) (found c)

pub loop-place-preserved : goal.loop-place-preserved
loop-place-preserved c =
    let at = at-sort c.args.over.now c.args.kripke.now c.loop-place.place c.sort-item.result _ c.requires.well_formed.different c.worlds-worlds.ensures.within c.requires.over c.as_slice-sort-items.ensures c.loop-place-test.true c.sort-item.is in
    sym (sort-none c.args.over.now c.args.kripke.now c.loop-place.place c.sort-item.result at (sym c.in_default.ensures)) ∙ c.loop-place.invariant

end : (c : After-loop-place) → first_failing (holds_in c.args.over.now c.args.kripke.now) (domain_conditions c.args.over.now) ≡ None
end c =
    let sig = c.args.over.now in
    let past : length sig.sorts ≤ c.loop-place.place = omega (arith, ap length c.as_slice-sort-items.ensures) in
    sym c.loop-place.invariant ∙ ap (λ rest. first_failing (holds_in sig c.args.kripke.now) (domains_from sig.indexes c.loop-place.place rest)) (drop_all _ _ past)

pub returns-clause-first : goal.returns-clause-first
returns-clause-first c = first_told (holds_in c.args.over.now c.args.kripke.now) (domain_conditions c.args.over.now) None (end c)

pub returns-clause-none : goal.returns-clause-none
returns-clause-none c =
    let sig = c.args.over.now in
    none_told (holds_in sig c.args.kripke.now) (domain_conditions sig) None _ (domain_conditions-all sig (kripke_model sig (kripke_structure c.args.kripke.now)) c.requires.well_formed.different) (end c)
