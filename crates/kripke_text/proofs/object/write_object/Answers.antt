use Rattle.std.proofs.Common.{◌++◌, ap, ◌∙◌}
use Rattle.nxf_tree.specs.Names.{numeral}
use Rattle.kripke_text.proofs.Folds.{on_ok}
use Rattle.kripke_text.proofs.Objects.{object_put}
use Rattle.kripke_text.proofs.object.write_object.Goals as goal

pub returns : goal.returns
returns c =
    on_ok c.put-2.result (λ h. object_put c.args.out.now.items c.put.new.out.items c.write_escaped.new.out.items c.write_numeral.new.out.items c.put-2.new.out.items c.args.front.now c.args.number c.in_ok-put.ensures.text c.in_ok-write_escaped.ensures (c.in_ok-write_numeral.ensures.text ∙ ap (λ n. c.write_escaped.new.out.items ++ numeral n) c.from.ensures) h) c.put-2.ensures.text
