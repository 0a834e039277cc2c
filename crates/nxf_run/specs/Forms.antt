-- The forms of words: which commands there are, and what they name.
use Rattle.std.specs.Prelude.{ℕ, Bool, false, ◌&&◌, ◌||◌, not, nat_eq, if◌then◌else◌, List, [], ◌∷◌, codes, decimal}
use Rattle.std.specs.List.{list_any, range_with_len}
use Rattle.nxf_tree.specs.Names.{same_text}

-- what the words ask
pub data Form : Type 0 where
  -- the classical problem of the file
  Embed : (file : List ℕ) → Form
  -- whether the structure of a Kripke text is a countermodel of the file
  Check : (file kripke : List ℕ) → Form
  -- the Kripke text of the structure that an interpretation gives, where it is a countermodel of the file
  Lift : (file interpretation : List ℕ) → Form
  -- one of the other commands, which are not answered yet
  Later : Form
  -- nothing that has an answer
  NoForm : Form

abbrev pub stdin : List ℕ
stdin = codes "-"

-- a word that names a file: it isn't empty and doesn't begin with `-`, or is `-` alone, which is standard input
abbrev pub is_file : List ℕ → Bool
is_file [] = false
is_file (b ∷ bs) = not (nat_eq b 45) || same_text stdin (b ∷ bs)

-- the numerals of the numbers from 1 to 200
unfoldable pub is_number : List ℕ → Bool
is_number word = list_any (λ n. same_text (decimal n) word) (range_with_len 1 200)

abbrev pub with_one_word : List ℕ → List ℕ → Form
with_one_word command word =
    if same_text (codes "embed") command && is_file word then Embed word
    else (if same_text (codes "gen") command && is_number word then Later else NoForm)

-- the form of a command with two files
abbrev pub with_two_files : List ℕ → List ℕ → List ℕ → Form
with_two_files command file other =
    if same_text (codes "check") command then Check file other
    else (if same_text (codes "lift") command then Lift file other
    else (if same_text (codes "lower") command then Later else NoForm))

abbrev pub with_two_words : List ℕ → List ℕ → List ℕ → Form
with_two_words command file other = if is_file file && is_file other then with_two_files command file other else NoForm

-- the form of a list of words: `embed FILE`, `lift FILE INTERP`, `lower FILE KRIPKE`, `check FILE KRIPKE`, `gen NUMBER`, or none
abbrev pub form_of : List (List ℕ) → Form
form_of [] = NoForm
form_of (a ∷ []) = NoForm
form_of (a ∷ b ∷ []) = with_one_word a b
form_of (a ∷ b ∷ c ∷ []) = with_two_words a b c
form_of (a ∷ b ∷ c ∷ d ∷ rest) = NoForm
