-- A rule by the levels that are left.
use Rattle.std.proofs.Common.{◌≡◌, ℕ, zero, suc, refl}
use Rattle.nxf_terminals.specs.Input.{Spelling, Input, kind}
use Rattle.syntax_definitions.specs.steps.ReadTypings.{type_by, type_of, inner_type, arguments, typing_by, typing_of, inner_typing}
use Rattle.syntax_definitions.specs.steps.ReadLogic.{value_by, value_of, item_of, inner_entry}

pub type_is : (most : ℕ) (name : Spelling) (n : ℕ) (i : Input) → type_of most name n i ≡ type_by name (inner_type most name n) (arguments most n) (kind i) i
unfolding type_of
type_is most name zero i = refl
type_is most name (suc n) i = refl

pub typing_is : (most n : ℕ) (i : Input) → typing_of most n i ≡ typing_by (λ a. type_of most a n) (inner_typing most n) (kind i) i
unfolding typing_of
typing_is most zero i = refl
typing_is most (suc n) i = refl

pub value_is : (n : ℕ) (i : Input) → value_of n i ≡ value_by (item_of (inner_entry n)) (kind i) i
unfolding value_of
value_is zero i = refl
value_is (suc n) i = refl
