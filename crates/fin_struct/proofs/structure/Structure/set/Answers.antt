use Rattle.std.proofs.Common.{ap, ◌∙◌}
use Rattle.fin_struct.specs.RowLists.{shapes_of}
use Rattle.fin_struct.specs.StructureTables.{StructureTables}
use Rattle.fin_struct.proofs.StructureLemmas.{written_structure, written_shapes_of}
use Rattle.fin_struct.proofs.structure.Structure.set.Goals as goal

pub invariant_of-self : goal.invariant_of-self
invariant_of-self c =
    written_structure c.self.inside.actual c.self.inside.sizes.items c.self.inside.grid c.set.new.self c.args.self.now c.args.table c.args.args.now c.args.value c.self.invariant c.self.view_is c.requires.table_in c.requires.below c.set.ensures.written

pub returns-clause-shapes : goal.returns-clause-shapes
returns-clause-shapes c =
    ap shapes_of c.set.ensures.written
    ∙ written_shapes_of c.self.inside.grid c.args.table c.args.args.now c.args.value
    ∙ ap (λ (view : StructureTables). shapes_of view.tables) c.self.view_is
