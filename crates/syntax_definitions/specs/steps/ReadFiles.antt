-- The loop over the statement parts of a text.
use Rattle.std.specs.Prelude.{◌≡◌, ℕ, suc, ◌+◌, Bool, if◌then◌else◌, List, [], ◌∷◌, ◌++◌, Option, Some, None, Result, Ok, Err}
use Rattle.nxf_terminals.specs.declared.sign.Sign.TheVariants as sign
use Rattle.nxf_terminals.specs.Signs.{same_sign}
use Rattle.nxf_terminals.specs.Input.{Input, Outcome, Parser}
use Rattle.nxf_terminals.specs.declared.error.GrammarError.{GrammarError}
use Rattle.nxf_terminals.specs.declared.error.GrammarError.TheVariants as error
use Rattle.nxf_tree.specs.declared.tree.Statement.{Statement}
use Rattle.syntax_definitions.specs.Files.{IsFirstUnread}

abbrev pub whole : Outcome Statement → Option Statement
whole None = None
whole (Some (s, [])) = Some s
whole (Some (s, x ∷ xs)) = None

pub data Answer : Type 0 where
  Read : (ss : List Statement) → Answer
  Unread : (k : ℕ) → Answer

abbrev pub answer : Option Statement → ℕ → (Statement → Answer) → Answer
answer None k again = Unread k
answer (Some s) k again = again s

-- the parts from number k on, where the statements before were found
unfoldable pub read_parts : Parser Statement → List Input → ℕ → List Statement → Answer
read_parts one [] k found = Read found
read_parts one (p ∷ ps) k found = answer (whole (one p)) k (λ s. read_parts one ps (k + 1) (found ++ s ∷ []))

-- how many tokens the first part has
abbrev pub first_len : Input → ℕ
first_len [] = 0
first_len (x ∷ xs) = if same_sign x.0 sign.Stop then 1 else suc (first_len xs)

abbrev pub Answers : Answer → Result (List Statement) GrammarError → Type 0
Answers outcome (Ok ss) = outcome ≡ Read ss
Answers outcome (Err (error.Syntax k)) = outcome ≡ Unread k
Answers outcome (Err error.Memory) = Unit {0}

-- what the reading of one part ensures
abbrev pub AnswersPart : Option Statement → ℕ → Result Statement GrammarError → Type 0
AnswersPart outcome k (Ok s) = outcome ≡ Some s
AnswersPart outcome k (Err (error.Syntax j)) = (j ≡ k) × (outcome ≡ None)
AnswersPart outcome k (Err error.Memory) = Unit {0}

-- why the parts spell no file
abbrev pub Explains : Bool → ℕ → ℕ → List Input → GrammarError → Type 0
Explains with_includes most n parts (error.Syntax k) = IsFirstUnread with_includes most n parts k
Explains with_includes most n parts error.Memory = Unit {0}
