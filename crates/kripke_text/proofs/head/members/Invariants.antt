use Rattle.std.proofs.Common.{◌≡◌}
use Rattle.std.specs.List.{fold}
use Rattle.kripke_text_definitions.specs.KripkeText.{member}
use Rattle.kripke_text.specs.steps.Taking.{numbered}
use Rattle.kripke_text.proofs.Folds.{some_members}
use Rattle.kripke_text.proofs.head.members.Given as goal

abbrev pub invariant-loop-n : goal.invariant-loop-n
invariant-loop-n g l = l.out ≡ fold g.M.Taker.takes l.fn.out (some_members (member l.variable (numbered l.front)) l.n)
