-- The pieces that a printed text is made of: tokens, blanks and ends of lines, each with its spelling and with its token as it is compared.
use Rattle.std.specs.Prelude.{ℕ, ◌||◌, ◌==◌, if◌then◌else◌, List, [], ◌∷◌, ◌++◌, flat_map}
use Rattle.tptp_lex.specs.declared.token.Kind.TheVariants as kind
use Rattle.nxf_tree.specs.Text.{name_text}
use Rattle.plain_tokens.specs.PlainTokens.{Plain}

pub data Mark : Type 0 where
  -- punctuation, a word with a dollar, and a variable stand as they are
  Sign : (spelling : List ℕ) → Mark
  Dollar : (spelling : List ℕ) → Mark
  Variable : (spelling : List ℕ) → Mark
  -- a name is bare where it can be, else in single quotes; an object is in double quotes
  Name : (text : List ℕ) → Mark
  Object : (text : List ℕ) → Mark
  Blank : Mark
  Line : Mark

-- `"` and `\` have `\` before them
abbrev pub escaped_in_object : ℕ → List ℕ
escaped_in_object b = if b == 34 || b == 92 then 92 ∷ b ∷ [] else b ∷ []

abbrev pub object_text : List ℕ → List ℕ
object_text text = 34 ∷ (flat_map escaped_in_object text ++ 34 ∷ [])

abbrev pub mark_text : Mark → List ℕ
mark_text (Sign spelling) = spelling
mark_text (Dollar spelling) = spelling
mark_text (Variable spelling) = spelling
mark_text (Name text) = name_text text
mark_text (Object text) = object_text text
mark_text Blank = 32 ∷ []
mark_text Line = 10 ∷ []

abbrev pub mark_plains : Mark → List Plain
mark_plains (Sign spelling) = record { kind = kind.Punct; text = spelling } ∷ []
mark_plains (Dollar spelling) = record { kind = kind.Dollar; text = spelling } ∷ []
mark_plains (Variable spelling) = record { kind = kind.Upper; text = spelling } ∷ []
mark_plains (Name text) = record { kind = kind.Word; text = text } ∷ []
mark_plains (Object text) = record { kind = kind.Distinct; text = text } ∷ []
mark_plains Blank = []
mark_plains Line = []

-- the text of the marks
abbrev pub spelled : List Mark → List ℕ
spelled = flat_map mark_text

-- their tokens
abbrev pub plains : List Mark → List Plain
plains = flat_map mark_plains
