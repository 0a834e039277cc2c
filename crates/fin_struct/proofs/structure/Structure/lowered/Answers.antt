use Rattle.std.proofs.Common.{◌≡◌, ◌∷◌, ◌∙◌, ap₂, sym, subst}
use Rattle.nxf_tree.specs.ClassicalSignature.{classical_signature_of}
use Rattle.nxf_tree.specs.Structures.{Corresponds}
use Rattle.fin_struct.specs.StructureTables.{StructureTables, IsStructure, IsFor, classical_structure}
use Rattle.fin_struct.specs.KripkeTables.{kripke_structure}
use Rattle.fin_struct.specs.Corresponding.{lowered, lifted}
use Rattle.fin_struct.proofs.CorrespondingLemmas.{lowered-is, lowered-agrees, lowered-for, lifted-lowered, made-lowered}
use Rattle.fin_struct.proofs.structure.Structure.lowered.Goals as goal
use Rattle.fin_struct.proofs.structure.Structure.lowered.Goals.{In_ok-grid}

made : (c : In_ok-grid) → lowered c.args.kripke.now ≡ record { actual = c.actual-actual.result; sizes = c.in_ok-sizes.sizes.items; tables = c.in_ok-grid.grid }
made c =
    made-lowered c.args.kripke.now c.actual-actual.result c.in_ok-sizes.sizes.items c.in_ok-grid.grid c.actual-actual.ensures.actual (c.in_ok-sizes.ensures ∙ ap₂ ◌∷◌ c.worlds.ensures.worlds c.sizes.ensures) (c.in_ok-grid.ensures ∙ c.tables.ensures)

pub invariant_of-result : goal.invariant_of-result
invariant_of-result c = subst IsStructure (made c) (lowered-is c.args.kripke.now c.worlds.ensures.within)

pub returns-clause-made : goal.returns-clause-made
returns-clause-made c = sym (made c)

pub returns-clause-over : goal.returns-clause-over
returns-clause-over c = λ sig o. subst (IsFor (classical_signature_of sig)) (made c) (lowered-for sig c.args.kripke.now c.worlds.ensures.within o)

pub returns-clause-within : goal.returns-clause-within
returns-clause-within c = subst IsStructure (made c) (lowered-is c.args.kripke.now c.worlds.ensures.within)

pub returns-clause-corresponds : goal.returns-clause-corresponds
returns-clause-corresponds c = subst (λ (s : StructureTables). Corresponds (kripke_structure c.args.kripke.now) (classical_structure s)) (made c) (lowered-agrees c.args.kripke.now c.worlds.ensures.within)

pub returns-clause-undone : goal.returns-clause-undone
returns-clause-undone c = λ sig o. subst (λ (s : StructureTables). lifted sig s ≡ c.args.kripke.now) (made c) (lifted-lowered sig c.args.kripke.now c.worlds.ensures.within o)
