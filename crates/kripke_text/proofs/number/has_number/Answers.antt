use Rattle.std.proofs.Common.{◌∙◌, sym}
use Rattle.nxf_tree.specs.Names.{numeral}
use Rattle.kripke_text.proofs.Bytes.{behind_front}
use Rattle.kripke_text.proofs.number.has_number.Goals as goal

pub returns-then-take_bytes : goal.returns-then-take_bytes
returns-then-take_bytes c =
    let e = behind_front _ c.args.front.now c.take_bytes.new.text (numeral c.args.number) (sym c.new-text.ensures ∙ c.take_bytes.ensures.taken c.if-take_bytes.true) in
    ((λ h. e.0 (c.is_number.ensures.0 h)), (λ h. c.is_number.ensures.1 (e.1 h)))
