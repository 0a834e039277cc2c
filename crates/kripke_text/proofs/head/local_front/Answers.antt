use Rattle.std.proofs.Common.{ap, ◌∙◌}
use Rattle.std.specs.Prelude.{codes}
use Rattle.std.specs.List.{fold}
use Rattle.plain_tokens.specs.Marks.{Dollar}
use Rattle.kripke_text_definitions.specs.KripkeText.{equals}
use Rattle.kripke_text.proofs.Folds.{on_ok}
use Rattle.kripke_text.proofs.head.local_front.Goals as goal

pub returns : goal.returns
returns g c =
    let takes = g.M.Taker.takes in
    on_ok c.equals.result (λ h. h ∙ ap (λ (v : _). fold takes v equals) (c.in_ok-dollar.ensures ∙ ap (λ (w : _). takes w (Dollar (codes "$local_world"))) c.in_ok-open_statement.ensures)) c.equals.ensures
