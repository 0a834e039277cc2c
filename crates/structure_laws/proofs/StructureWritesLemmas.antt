-- A structure for a signature stays one where it is written.
use Rattle.std.proofs.Common.{◌∙◌}
use Rattle.fin_struct.proofs.CallerLemmas.{written_shapes_of}
use Rattle.structure_laws.specs.StructureWrites.{StaysForLaw, StaysKripkeForLaw}

pub stays-for : StaysForLaw
stays-for csig view o = record {
  written = λ t row value. record { sorts = o.sorts; shapes = written_shapes_of view.tables t row value ∙ o.shapes };
  moved = λ world. record { sorts = o.sorts; shapes = o.shapes };
}

pub stays-kripke-for : StaysKripkeForLaw
stays-kripke-for sig view o = record {
  written = λ t row value. record { sorts = o.sorts; indexes = o.indexes; existence = o.existence; world_first = o.world_first; shapes = written_shapes_of view.tables t row value ∙ o.shapes };
  moved = λ world. record { sorts = o.sorts; indexes = o.indexes; existence = o.existence; world_first = o.world_first; shapes = o.shapes };
}
