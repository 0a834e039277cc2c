-- The balance of brackets, step by step.
use Rattle.std.proofs.Common.{◌≡◌, ◌<◌, ◌≤◌, if◌then◌else◌, [], ◌∷◌, length, Some, None, refl, arith}
use Rattle.nxf_terminals.specs.declared.sign.Sign.TheVariants as sign
use Rattle.nxf_terminals.specs.Input.{Input, kind, next}
use Rattle.syntax_definitions.specs.Annotations.{Open, advance, token, is_last, continued, balance}

-- where a token is left
pub balance_is : (i : Input) (o : Open) → 0 < length i → balance i o ≡ (if is_last (kind i) o then Some (tt, i) else continued (advance (kind i) o) (λ more. balance (next i) more))
unfolding balance
balance_is [] o h = absurd (omega arith)
balance_is (x ∷ xs) o h = refl

pub balance_at_end : (i : Input) (o : Open) → length i ≤ 0 → balance i o ≡ None
unfolding balance
balance_at_end [] o h = refl
balance_at_end (x ∷ xs) o h = absurd (omega arith)
