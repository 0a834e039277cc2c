use Rattle.std.proofs.Common.{sym, ap, ◌∙◌}
use Rattle.nxf_tree.specs.Signature.{is_constant}
use Rattle.classical_syntax.proofs.Places.{sort_at-place, is_constant-place}
use Rattle.classical_syntax.proofs.questions.is_constant.Goals as goal

pub returns : goal.returns
returns c =
    let sig = c.args.signature.now in
    c.is_constant_regime.ensures
    ∙ sym (is_constant-place sig c.requires.different c.args.number c.sort_entry.result.now c.sort_entry.ensures)
    ∙ ap (is_constant sig) (sym (sort_at-place sig.sorts c.args.number c.sort_entry.result.now c.sort_entry.ensures))
