use Rattle.std.proofs.Common.{◌≡◌, Bool, true, false, ◌∙◌, sym}
use Rattle.std.specs.Prelude.{◌||◌}
use Rattle.interpretation_parts.proofs.items.may_have.Goals as goal

by : (a b r : Bool) → r ≡ b → a ≡ false → r ≡ a || (b || false)
by true b r e h = cc
by false true r e h = e
by false false r e h = e

pub returns-else-is_word : goal.returns-else-is_word
returns-else-is_word c = by _ _ _ c.is_word-else-is_word.ensures (sym c.is_word.ensures ∙ c.if-is_word.false)
