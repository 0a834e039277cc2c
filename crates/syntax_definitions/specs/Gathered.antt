-- A file with all that it includes, by the files of the libraries: no libraries and no counts are in it.
use Rattle.std.specs.Prelude.{ℕ, zero, suc, ◌+◌, Bool, false, if◌then◌else◌, leb, List, [], ◌∷◌, ◌++◌, length, Option, None, Some, Result, Ok, Err}
use Rattle.std.specs.List.{filter, list_any}
use Rattle.nxf_base.specs.Files.{Files}
use Rattle.tptp_lex.specs.declared.token.Token.{Token}
use Rattle.tptp_lex.specs.Lexing.{Lexes, IsBadPlace}
use Rattle.nxf_tree.specs.declared.profile.Profile.TheVariants.{Problem}
use Rattle.nxf_tree.specs.declared.tree.File.{File}
use Rattle.nxf_tree.specs.declared.tree.Statement.{Statement}
use Rattle.nxf_tree.specs.declared.tree.Statement.TheVariants.{Annotated, Include}
use Rattle.nxf_tree.specs.Counting.{has}
use Rattle.nxf_tree.specs.Names.{same_text}
use Rattle.syntax_definitions.specs.Spells.{Spells, IsFirstFault}
use Rattle.syntax_definitions.specs.declared.gather_error.GatherError.{GatherError}
use Rattle.syntax_definitions.specs.declared.gather_error.GatherError.TheVariants.{TooMuch, Deep, Lex, Syntax, NoSuchName}
use Rattle.syntax_definitions.specs.declared.visited.Visited.{Visited}
use Rattle.syntax_definitions.specs.Loading.{loaded}
use Rattle.syntax_definitions.specs.OneAfterAnother.{Step, Is, Then}

-- ---- one file

-- The statements that the bytes of the file spell as a problem; or the place where its lexemes end before the end of the file;
-- or the first statement that no rule reads.
pub data Reads (name bytes : List ℕ) : Result (List Statement) GatherError → Type 0 where
  spelled : {statements : List Statement} → Spells Problem bytes (record { statements = statements }) → Reads name bytes (Ok statements)
  not_lexed : {at : ℕ} → IsBadPlace bytes at → Reads name bytes (Err (Lex name at))
  not_read : {tokens : List Token} {k : ℕ} → Lexes bytes tokens → IsFirstFault Problem bytes tokens k → Reads name bytes (Err (Syntax name k))

-- the length of all files so far with one of these bytes
abbrev pub counted : ℕ → List ℕ → Result ℕ GatherError
counted sum bytes = if leb (sum + length bytes) 67108864 then Ok (sum + length bytes) else Err TooMuch

-- the statements as they stand in a file of these bytes, after files of this length
abbrev pub ReadsCounted : List ℕ → ℕ → List ℕ → Step Visited
ReadsCounted name sum bytes =
    Then (Is (counted sum bytes)) (λ total. Then (Reads name bytes) (λ statements. Is (Ok (record { statements = statements; sum = total }))))

-- the same by the name of the file
abbrev pub Enters : Files → ℕ → List ℕ → Step Visited
Enters files sum name = Then (Is (loaded files name)) (ReadsCounted name sum)

-- ---- what an include brings of its file

-- whether the statement has the name
abbrev pub has_name : List ℕ → Statement → Bool
has_name name (Annotated own role body) = same_text own name
has_name name (Include file names) = false

-- whether the statement's name is listed
abbrev pub is_listed : List (List ℕ) → Statement → Bool
is_listed names (Annotated own role body) = has same_text own names
is_listed names (Include file among) = false

-- the first of the names that no statement has
abbrev pub first_missing : List (List ℕ) → List Statement → Option (List ℕ)
first_missing [] statements = None
first_missing (name ∷ names) statements = if list_any (has_name name) statements then first_missing names statements else Some name

abbrev pub unless_missing : List ℕ → Option (List ℕ) → List Statement → Result (List Statement) GatherError
unless_missing file None kept = Ok kept
unless_missing file (Some name) kept = Err (NoSuchName file name)

-- all statements; or those with a listed name, in their order, where each listed name is that of a statement
abbrev pub selected : List ℕ → Option (List (List ℕ)) → List Statement → Result (List Statement) GatherError
selected file None statements = Ok statements
selected file (Some names) statements = unless_missing file (first_missing names statements) (filter (is_listed names) statements)

-- ---- a file with all that it includes

-- these statements, and then what the step brings
abbrev pub BroughtBefore : List Statement → Step Visited → Step Visited
BroughtBefore first Others = Then Others (λ others. Is (Ok (record { statements = first ++ others.statements; sum = others.sum })))

-- The statements of a file in their order, each include replaced by what it brings. `Visits` gives the included files.
abbrev pub Brings : (ℕ → List ℕ → Step Visited) → ℕ → List Statement → Step Visited
Brings Visits sum [] = Is (Ok (record { statements = []; sum = sum }))
Brings Visits sum (Annotated name role body ∷ rest) = BroughtBefore (Annotated name role body ∷ []) (Brings Visits sum rest)
Brings Visits sum (Include file names ∷ rest) =
    Then (Visits sum file) (λ part. Then (Is (selected file names part.statements)) (λ kept. BroughtBefore kept (Brings Visits part.sum rest)))

-- a file and all that it includes, where it may stand at so many levels and files of this length were visited before
unfoldable pub Visits : Files → ℕ → ℕ → List ℕ → Step Visited
Visits files zero sum name = Is (Err (Deep name))
Visits files (suc levels) sum name = Then (Enters files sum name) (λ file. Brings (Visits files levels) file.sum file.statements)

-- The gathered file: the first file stands at the first of seventeen levels, so includes may be sixteen deep.
abbrev pub Gathers : Files → List ℕ → Step File
Gathers files name = Then (Visits files 17 0 name) (λ whole. Is (Ok (record { statements = whole.statements })))
