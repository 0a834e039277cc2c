use Rattle.std.proofs.Common.{◌∙◌, sym, append-nil, rules, []}
use Rattle.kripke_text.proofs.number.is_rest.Goals as goal

pub returns-else-take_bytes : goal.returns-else-take_bytes
returns-else-take_bytes c = ((λ h. absurd (search rules)), (λ e. absurd (c.take_bytes.ensures.missed c.if-take_bytes.false [] (e ∙ sym (append-nil c.args.expected.now)))))
