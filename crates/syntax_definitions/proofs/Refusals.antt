-- Where the nesting is used up, nothing deeper is read.
use Rattle.std.proofs.Common.{◌≡◌, ℕ, zero, suc, List, [], length, true, refl, None}
use Rattle.nxf_terminals.specs.declared.sign.Sign.TheVariants as sign
use Rattle.nxf_tree.specs.declared.tree.Term.{Term}
use Rattle.nxf_terminals.specs.Input.{Input, refuse, sees, after}
use Rattle.syntax_definitions.specs.steps.ReadFormulas.{terms_from, arguments, many, argument, whole, group, inner, unit, unit_from}

pub no_terms : (most k : ℕ) (found : List Term) (i : Input) → terms_from most refuse k found i ≡ None
unfolding terms_from
no_terms most zero found i = refl
no_terms most (suc k) found i = refl

pub no_argument : (most n : ℕ) (i : Input) → n ≡ 0 → sees sign.Open i ≡ true → arguments most (argument most n) i ≡ None
unfolding arguments
no_argument most n i none found = rw (none, found) (no_terms most most [] (after sign.Open i))

pub no_many : (most n : ℕ) (i : Input) → n ≡ 0 → many most (argument most n) i ≡ None
no_many most n i none = rw none (no_terms most (length i) [] i)

pub no_group : (most n : ℕ) (i : Input) → n ≡ 0 → group (inner most n) i ≡ None
unfolding group whole
no_group most n i none = rw none refl

-- a unit by its levels, which are all used up or not
pub unit_is : (most n : ℕ) (i : Input) → unit most n i ≡ unit_from most n i
unfolding unit
unit_is most zero i = refl
unit_is most (suc n) i = refl
