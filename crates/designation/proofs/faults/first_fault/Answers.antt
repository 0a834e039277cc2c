use Rattle.std.proofs.Common.{◌≡◌, ◌≤◌, length, sym, ap, ◌∙◌, arith, None, Some}
use Rattle.std.proofs.lemmas.List.{drop_all}
use Rattle.nxf_tree.specs.Kripke.{KripkeModel}
use Rattle.nxf_tree.specs.Structures.{kripke_model}
use Rattle.fin_struct.specs.declared.condition.Condition.TheVariants.{Local}
use Rattle.fin_struct.specs.FirstFault.{meets_condition, terms_from, term_conditions}
use Rattle.fin_struct.specs.KripkeTables.{kripke_structure}
use Rattle.structure_laws.proofs.FirstFaultLemmas.{first_failing, first_told, none_told, term_conditions-all}
use Rattle.designation.proofs.FaultLemmas.{at-symbol, found-symbol, symbol-holds, symbol-fails}
use Rattle.designation.proofs.faults.first_fault.Goals as goal
use Rattle.designation.proofs.faults.first_fault.Goals.{Then-not-meets_term, After-loop-place}

pub meets_term-requires-clause-place : goal.meets_term-requires-clause-place
meets_term-requires-clause-place c =
    found-symbol c.args.over.now c.loop-place.place c.symbol-item.result (at-symbol c.args.over.now c.loop-place.place c.symbol-item.result _ c.as_slice-symbol-items.ensures c.loop-place-test.true c.symbol-item.is)

found : (c : Then-not-meets_term) → first_failing (meets_condition c.args.over.now (kripke_model c.args.over.now (kripke_structure c.args.kripke.now))) (term_conditions c.args.over.now) ≡ Some (Local c.loop-place.place)
found c =
    let sig = c.args.over.now in
    let K : KripkeModel = kripke_model sig (kripke_structure c.args.kripke.now) in
    let at = at-symbol sig c.loop-place.place c.symbol-item.result _ c.as_slice-symbol-items.ensures c.loop-place-test.true c.symbol-item.is in
    sym c.loop-place.invariant ∙ symbol-fails sig K c.loop-place.place c.symbol-item.result at (sym c.if-not-meets_term.ensures)

pub returns-then-not-meets_term-clause-first : goal.returns-then-not-meets_term-clause-first
returns-then-not-meets_term-clause-first c = first_told (meets_condition c.args.over.now (kripke_model c.args.over.now (kripke_structure c.args.kripke.now))) (term_conditions c.args.over.now) _ (found c)

pub returns-then-not-meets_term-clause-none : goal.returns-then-not-meets_term-clause-none
returns-then-not-meets_term-clause-none c =
    let sig = c.args.over.now in
    let K : KripkeModel = kripke_model sig (kripke_structure c.args.kripke.now) in
    none_told (meets_condition sig K) (term_conditions sig) _ _ (term_conditions-all sig K) (found c)

pub loop-place-preserved : goal.loop-place-preserved
loop-place-preserved c =
    let sig = c.args.over.now in
    let K : KripkeModel = kripke_model sig (kripke_structure c.args.kripke.now) in
    let at = at-symbol sig c.loop-place.place c.symbol-item.result _ c.as_slice-symbol-items.ensures c.loop-place-test.true c.symbol-item.is in
    sym (symbol-holds sig K c.loop-place.place c.symbol-item.result at (sym c.if-not-meets_term.ensures)) ∙ c.loop-place.invariant

end : (c : After-loop-place) → first_failing (meets_condition c.args.over.now (kripke_model c.args.over.now (kripke_structure c.args.kripke.now))) (term_conditions c.args.over.now) ≡ None
end c =
    let sig = c.args.over.now in
    let K : KripkeModel = kripke_model sig (kripke_structure c.args.kripke.now) in
    let past : length sig.symbols ≤ c.loop-place.place = omega (arith, ap length c.as_slice-symbol-items.ensures) in
    sym c.loop-place.invariant ∙ ap (λ rest. first_failing (meets_condition sig K) (terms_from c.loop-place.place rest)) (drop_all _ _ past)

pub returns-clause-first : goal.returns-clause-first
returns-clause-first c = first_told (meets_condition c.args.over.now (kripke_model c.args.over.now (kripke_structure c.args.kripke.now))) (term_conditions c.args.over.now) None (end c)

pub returns-clause-none : goal.returns-clause-none
returns-clause-none c =
    let sig = c.args.over.now in
    let K : KripkeModel = kripke_model sig (kripke_structure c.args.kripke.now) in
    none_told (meets_condition sig K) (term_conditions sig) None _ (term_conditions-all sig K) (end c)
