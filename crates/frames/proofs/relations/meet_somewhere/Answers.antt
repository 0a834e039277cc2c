use Rattle.std.proofs.Common.{ℕ, sym, arith}
use Rattle.std.specs.Prelude.{◌&&◌}
use Rattle.std.proofs.lemmas.Bool.{and_from}
use Rattle.fin_struct.specs.KripkeTables.{related_in}
use Rattle.structure_laws.proofs.Counted.{any_found}
use Rattle.frames.proofs.relations.meet_somewhere.Goals as goal

pub returns-then-related-2 : goal.returns-then-related-2
returns-then-related-2 c =
    let R = related_in c.args.kripke.now c.args.index in
    let both = λ (x : ℕ). R c.args.left x && R c.args.right x in
    sym (any_found c.args.kripke.now.worlds c.loop-to.to both (omega arith) (and_from _ _ (sym c.if-related.ensures.cell) (sym c.if-related-2.ensures.cell)))
