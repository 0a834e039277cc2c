use Rattle.std.proofs.Common.{[], ◌∷◌, sym, subst}
use Rattle.fin_struct.specs.KripkeTables.{IsKripkeFor}
use Rattle.structure_laws.proofs.StructureWritesLemmas.{stays-kripke-for}
use Rattle.structure_tests.proofs.corresponding.relate.Goals as goal

pub returns : goal.returns
returns c = subst (IsKripkeFor c.args.over.now) (sym c.set_related.ensures.written) ((stays-kripke-for c.args.over.now c.args.kripke.now c.requires.over).written 0 (c.args.from ∷ c.args.to ∷ []) 1)
