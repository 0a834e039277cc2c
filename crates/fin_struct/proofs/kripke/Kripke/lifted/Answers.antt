use Rattle.std.proofs.Common.{◌≡◌, ◌∙◌, ap, sym, subst}
use Rattle.std.specs.Prelude.{map}
use Rattle.nxf_tree.specs.Signature.{takes_world}
use Rattle.nxf_tree.specs.Structures.{Corresponds}
use Rattle.fin_struct.specs.StructureTables.{classical_structure}
use Rattle.fin_struct.specs.KripkeTables.{KripkeTables, IsKripke, IsKripkeFor, others_of, kripke_structure}
use Rattle.fin_struct.specs.Corresponding.{lowered, lifted}
use Rattle.fin_struct.proofs.CorrespondingLemmas.{Lifts, lifts, lowered-lifted, made-lifted}
use Rattle.fin_struct.proofs.kripke.Kripke.lifted.Goals as goal
use Rattle.fin_struct.proofs.kripke.Kripke.lifted.Goals.{In_ok-grid}

made : (c : In_ok-grid) → lifted c.args.over.now c.args.structure.now ≡ record {
  worlds = c.size-worlds.result;
  actual = c.actual-actual.result;
  sizes = c.in_ok-sizes.sizes.items;
  indexes = c.len-indexes.result;
  existence = c.in_ok-numbers.numbers.existence.items;
  first_symbol = c.in_ok-numbers.numbers.first_symbol;
  world_first = c.in_ok-world_first.world_first.items;
  tables = c.in_ok-grid.grid;
}
made c =
    made-lifted c.args.over.now c.args.structure.now c.size-worlds.result c.actual-actual.result c.in_ok-sizes.sizes.items c.len-indexes.result c.in_ok-numbers.numbers.existence.items c.in_ok-numbers.numbers.first_symbol c.in_ok-world_first.world_first.items c.in_ok-grid.grid
    c.size-worlds.ensures.size c.actual-actual.ensures.actual (c.in_ok-sizes.ensures ∙ c.other_sizes.ensures ∙ ap others_of c.sizes.ensures) c.len-indexes.ensures
    (rw (c.as_slice.ensures, c.len-indexes.ensures) at c.in_ok-numbers.ensures.existence) (rw (c.as_slice.ensures, c.len-indexes.ensures) at c.in_ok-numbers.ensures.first_symbol) (c.in_ok-world_first.ensures ∙ ap (map takes_world) c.as_slice-2.ensures) (c.in_ok-grid.ensures ∙ c.tables.ensures)

known : (c : In_ok-grid) → Lifts c.args.over.now c.args.structure.now
known c = lifts c.args.over.now c.args.structure.now c.size-worlds.ensures.within c.requires.over

pub invariant_of-result : goal.invariant_of-result
invariant_of-result c = subst IsKripke (made c) (known c).is

pub returns-clause-made : goal.returns-clause-made
returns-clause-made c = sym (made c)

pub returns-clause-over : goal.returns-clause-over
returns-clause-over c = subst (IsKripkeFor c.args.over.now) (made c) (known c).for

pub returns-clause-within : goal.returns-clause-within
returns-clause-within c = subst IsKripke (made c) (known c).is

pub returns-clause-corresponds : goal.returns-clause-corresponds
returns-clause-corresponds c = subst (λ (k : KripkeTables). Corresponds (kripke_structure k) (classical_structure c.args.structure.now)) (made c) (known c).agrees

pub returns-clause-undone : goal.returns-clause-undone
returns-clause-undone c = subst (λ (k : KripkeTables). lowered k ≡ c.args.structure.now) (made c) (lowered-lifted c.args.over.now c.args.structure.now c.requires.over)
