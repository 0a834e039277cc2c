use Rattle.std.proofs.Common.{◌≡◌, ℕ, true, List, sym, ap, subst, ◌∙◌}
use Rattle.nxf_tree.specs.Sorting.{in_range}
use Rattle.nxf_tree.specs.Structures.{kripke_model}
use Rattle.classical_syntax.proofs.CallerLemmas.{in_range-below}
use Rattle.fin_struct.specs.KripkeTables.{kripke_structure}
use Rattle.structure_laws.specs.KripkeLaws.{ReadsByName}
use Rattle.structure_laws.proofs.KripkeNames.{names-law}
use Rattle.designation.specs.steps.RowTests.{HasFunction, values_exist_in}
use Rattle.condition_axioms.specs.steps.Listed.{IsListed}
use Rattle.condition_axioms.proofs.CallerLemmas.{listed-at}
use Rattle.designation.proofs.FaultLemmas.{gives-in, args-in, listed-function, result-varying, values-named}
use Rattle.designation.proofs.faults.meets_local.Goals as goal

pub is_constant-requires-clause-in_range : goal.is_constant-requires-clause-in_range
is_constant-requires-clause-in_range c =
    let listed : IsListed c.args.over.now c.args.symbol.now = listed-at c.args.over.now c.requires.well_formed c.args.number c.args.symbol.now c.requires.place in
    gives-in c.args.over.now c.args.symbol.now c.in-Some.gives listed.in_range c.in-Some.is

pub values_exist-requires : goal.values_exist-requires
values_exist-requires c =
    let function = listed-function c.args.over.now c.args.kripke.now c.args.number c.in-Some.gives c.args.symbol.now c.requires.well_formed c.worlds-worlds.ensures.within c.requires.over c.requires.place c.in-Some.is in
    subst (λ (args : List ℕ). HasFunction c.args.kripke.now c.args.number args c.in-Some.gives) (sym c.as_slice.ensures) function

pub returns-else-is_constant : goal.returns-else-is_constant
returns-else-is_constant c =
    let sig = c.args.over.now in
    let view = c.args.kripke.now in
    let entry = c.args.symbol.now in
    let listed : IsListed sig entry = listed-at sig c.requires.well_formed c.args.number entry c.requires.place in
    let reads : ReadsByName sig view (kripke_model sig (kripke_structure view)) = names-law sig view c.requires.well_formed.different c.worlds-worlds.ensures.within c.requires.over in
    let gives : in_range sig.sorts c.in-Some.gives ≡ true = gives-in sig entry c.in-Some.gives listed.in_range c.in-Some.is in
    let function = listed-function sig view c.args.number c.in-Some.gives entry c.requires.well_formed c.worlds-worlds.ensures.within c.requires.over c.requires.place c.in-Some.is in
    c.values_exist.ensures
    ∙ ap (λ (args : List ℕ). values_exist_in view c.args.number args c.in-Some.gives) c.as_slice.ensures
    ∙ sym (
    result-varying sig (kripke_model sig (kripke_structure view)) entry c.in-Some.gives c.in-Some.is (sym c.if-is_constant.ensures)
    ∙ values-named sig view c.args.number c.in-Some.gives entry reads c.worlds-worlds.ensures.within function c.requires.place c.in-Some.is (args-in sig entry listed.in_range) (in_range-below sig.sorts c.in-Some.gives gives)
    )
