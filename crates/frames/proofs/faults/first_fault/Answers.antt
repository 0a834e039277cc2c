use Rattle.std.proofs.Common.{◌≡◌, ◌≤◌, length, sym, ap, ◌∙◌, arith, None, Some}
use Rattle.std.proofs.lemmas.List.{drop_all}
use Rattle.nxf_tree.specs.declared.tree.Scheme.{Scheme}
use Rattle.nxf_tree.specs.Conditions.{meets_scheme}
use Rattle.nxf_tree.specs.Structures.{kripke_model}
use Rattle.fin_struct.specs.declared.condition.Condition.TheVariants.{Frame}
use Rattle.fin_struct.specs.FirstFault.{frames_from, frame_conditions}
use Rattle.fin_struct.specs.KripkeTables.{related_in, kripke_structure}
use Rattle.structure_laws.proofs.FirstFaultLemmas.{first_failing, first_told, none_told, frame_conditions-all}
use Rattle.frames.proofs.FaultLemmas.{holds_in, at-index, index-none, index-some}
use Rattle.frames.proofs.faults.first_fault.Goals as goal
use Rattle.frames.proofs.faults.first_fault.Goals.{In-Some, After-loop-place}

found : (c : In-Some) → first_failing (holds_in c.args.over.now c.args.kripke.now) (frame_conditions c.args.over.now) ≡ Some (Frame c.loop-place.place c.in-Some.scheme)
found c =
    let meets = λ (s : Scheme). meets_scheme s c.args.kripke.now.worlds (related_in c.args.kripke.now c.loop-place.place) in
    let at = at-index c.args.over.now c.args.kripke.now c.loop-place.place c.index-item.result _ c.requires.well_formed.different c.worlds-worlds.ensures.within c.requires.over c.as_slice-index-items.ensures c.loop-place-test.true c.index-item.is in
    sym c.loop-place.invariant ∙ index-some c.args.over.now c.args.kripke.now c.loop-place.place c.index-item.result c.in-Some.scheme at (ap (first_failing meets) (sym c.as_slice.ensures) ∙ sym c.in-Some.ensures)

pub returns-in-Some-clause-first : goal.returns-in-Some-clause-first
returns-in-Some-clause-first c = first_told (holds_in c.args.over.now c.args.kripke.now) (frame_conditions c.args.over.now) _ (found c)

pub returns-in-Some-clause-none : goal.returns-in-Some-clause-none
returns-in-Some-clause-none c =
    let sig = c.args.over.now in
    none_told (holds_in sig c.args.kripke.now) (frame_conditions sig) _ _ (frame_conditions-all sig (kripke_model sig (kripke_structure c.args.kripke.now))) (found c)

pub loop-place-preserved : goal.loop-place-preserved
loop-place-preserved c =
    let meets = λ (s : Scheme). meets_scheme s c.args.kripke.now.worlds (related_in c.args.kripke.now c.loop-place.place) in
    let at = at-index c.args.over.now c.args.kripke.now c.loop-place.place c.index-item.result _ c.requires.well_formed.different c.worlds-worlds.ensures.within c.requires.over c.as_slice-index-items.ensures c.loop-place-test.true c.index-item.is in
    sym (index-none c.args.over.now c.args.kripke.now c.loop-place.place c.index-item.result at (ap (first_failing meets) (sym c.as_slice.ensures) ∙ sym c.in_default.ensures)) ∙ c.loop-place.invariant

end : (c : After-loop-place) → first_failing (holds_in c.args.over.now c.args.kripke.now) (frame_conditions c.args.over.now) ≡ None
end c =
    let items = c.as_slice-index-items.ensures in
    let past : length c.args.over.now.indexes ≤ c.loop-place.place = omega (arith, ap length items) in
    sym c.loop-place.invariant ∙ ap (λ rest. first_failing (holds_in c.args.over.now c.args.kripke.now) (frames_from c.loop-place.place rest)) (drop_all _ _ past)

pub returns-clause-first : goal.returns-clause-first
returns-clause-first c = first_told (holds_in c.args.over.now c.args.kripke.now) (frame_conditions c.args.over.now) None (end c)

pub returns-clause-none : goal.returns-clause-none
returns-clause-none c =
    let sig = c.args.over.now in
    none_told (holds_in sig c.args.kripke.now) (frame_conditions sig) None _ (frame_conditions-all sig (kripke_model sig (kripke_structure c.args.kripke.now))) (end c)
