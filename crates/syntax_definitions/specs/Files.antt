-- The statement parts of a list of tokens, the statements that they spell, and the first part that no rule reads.
use Rattle.std.specs.Prelude.{◌≢◌, ℕ, suc, Bool, if◌then◌else◌, List, [], ◌∷◌}
use Rattle.nxf_terminals.specs.declared.sign.Sign.TheVariants as sign
use Rattle.nxf_terminals.specs.Signs.{same_sign}
use Rattle.nxf_terminals.specs.Input.{Item, Input}
use Rattle.nxf_terminals.specs.declared.error.GrammarError.TheVariants as error
use Rattle.nxf_tree.specs.declared.tree.Statement.{Statement}
use Rattle.syntax_definitions.specs.Statements.{IsStatement}

-- a token before the first part
abbrev pub before : Item → List Input → List Input
before x [] = (x ∷ []) ∷ []
before x (p ∷ ps) = (x ∷ p) ∷ ps

-- Split after each full stop. A rest without one is a part too, which no rule reads.
abbrev pub statement_parts : Input → List Input
statement_parts [] = []
statement_parts (x ∷ xs) = if same_sign x.0 sign.Stop then (x ∷ []) ∷ statement_parts xs else before x (statement_parts xs)

-- the token is no full stop
abbrev pub IsNoStop : Item → Type 0
IsNoStop x = x.0 ≢ sign.Stop

-- Each part is read as the statement of its number.
pub data AreRead (with_includes : Bool) (most n : ℕ) : List Input → List Statement → Type 0 where
  no_more : AreRead with_includes most n [] []
  one_more : {p : Input} {ps : List Input} {s : Statement} {ss : List Statement} → IsStatement with_includes most n p s [] → AreRead with_includes most n ps ss → AreRead with_includes most n (p ∷ ps) (s ∷ ss)

-- the first part that no rule reads has this number, from 1 on
pub data IsFirstUnread (with_includes : Bool) (most n : ℕ) : List Input → ℕ → Type 0 where
  here : {p : Input} {ps : List Input} → ((s : Statement) → IsStatement with_includes most n p s [] → ⊥) → IsFirstUnread with_includes most n (p ∷ ps) 1
  later : {p : Input} {ps : List Input} {s : Statement} {k : ℕ} → IsStatement with_includes most n p s [] → IsFirstUnread with_includes most n ps k → IsFirstUnread with_includes most n (p ∷ ps) (suc k)

-- ---- the loop over the parts
