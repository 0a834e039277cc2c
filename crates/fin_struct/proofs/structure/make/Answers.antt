use Rattle.std.proofs.Common.{◌≡◌}
use Rattle.nxf_tree.specs.Structures.{table_shapes}
use Rattle.fin_struct.specs.StructureTables.{blank_structure}
use Rattle.fin_struct.proofs.StructureLemmas.{structure_view, all_positive, positive-classical, small_total, made_blank, blank_fits, blank_is_for}
use Rattle.fin_struct.proofs.structure.make.Goals as goal
use Rattle.fin_struct.proofs.structure.make.Goals.{In_ok-sizes}

made : (c : In_ok-sizes) → structure_view 0 c.in_ok-sizes.sizes.items c.in_ok-grid.grid ≡ blank_structure c.args.over.now c.args.sizes.now
made c = made_blank c.args.over.now c.args.sizes.now c.in_ok-sizes.sizes.items c.in_ok-grid.grid c.in_ok-shapes.shapes.items c.in_ok-sizes.ensures c.in_ok-grid.ensures (rw c.as_slice.ensures at c.in_ok-shapes.ensures)

pub new-requires-clause-positive : goal.new-requires-clause-positive
new-requires-clause-positive c =
    all_positive c.in_ok-shapes.shapes.items (table_shapes c.args.sizes.now c.args.over.now.tables) (rw c.as_slice.ensures at c.in_ok-shapes.ensures) (positive-classical c.args.over.now c.args.sizes.now c.requires.has_sorts c.requires.sizes)

pub new-requires-clause-small : goal.new-requires-clause-small
new-requires-clause-small c =
    small_total c.args.over.now c.args.sizes.now c.in_ok-shapes.shapes.items (rw c.as_slice.ensures at c.in_ok-shapes.ensures) c.requires.within

pub invariant_of-result : goal.invariant_of-result
invariant_of-result c =
    blank_fits c.args.over.now c.args.sizes.now (structure_view 0 c.in_ok-sizes.sizes.items c.in_ok-grid.grid) (made (goal.at.invariant_of-result c).In_ok-sizes) c.requires.has_sorts c.requires.sizes c.requires.within

pub returns-clause-made : goal.returns-clause-made
returns-clause-made c = made (goal.at.returns-clause-made c).In_ok-sizes

pub returns-clause-over : goal.returns-clause-over
returns-clause-over c =
    blank_is_for c.args.over.now c.args.sizes.now (structure_view 0 c.in_ok-sizes.sizes.items c.in_ok-grid.grid) (made (goal.at.returns-clause-over c).In_ok-sizes) c.requires.sizes

pub returns-clause-within : goal.returns-clause-within
returns-clause-within c =
    blank_fits c.args.over.now c.args.sizes.now (structure_view 0 c.in_ok-sizes.sizes.items c.in_ok-grid.grid) (made (goal.at.returns-clause-within c).In_ok-sizes) c.requires.has_sorts c.requires.sizes c.requires.within
