use Rattle.std.proofs.Common.{rules, sym, ◌∙◌}
use denote.Enum.Bare.{same_true}
use Rattle.nxf_terminals.specs.contracts.sign.Sign.{the_type}
use Rattle.nxf_terminals.specs.Signs.{same_sign}
use Rattle.nxf_terminals.proofs.sign.same_sign.Goals as goal

pub returns-clause-value : goal.returns-clause-value
unfolding same_sign
returns-clause-value c = search rules

pub returns-clause-same : goal.returns-clause-same
returns-clause-same c is = same_true the_type (search rules) _ _ (sym c.eq.ensures ∙ is)
