-- One map of files and one name have a gathering, and the files decide it.
use Rattle.std.proofs.Common.{ℕ, zero, suc, ◌+◌, Bool, true, false, if◌then◌else◌, leb, List, [], ◌∷◌, length, Option, Some, None, Result, Ok, Err, refl, sym, subst}
use mathlib.Core.Logic.{inl, inr}
use Rattle.nxf_base.specs.Files.{Files, file_of}
use Rattle.tptp_lex.specs.declared.token.Token.{Token}
use Rattle.tptp_lex.specs.Lexing.{Lexes}
use Rattle.nxf_tree.specs.declared.profile.Profile.TheVariants.{Problem}
use Rattle.nxf_tree.specs.declared.tree.Statement.{Statement}
use Rattle.nxf_tree.specs.declared.tree.Statement.TheVariants.{Annotated, Include}
use Rattle.syntax_definitions.specs.Gathered.{Reads, spelled, not_lexed, not_read, counted, ReadsCounted, Enters, selected, first_missing, unless_missing, BroughtBefore, Brings, Visits, Gathers}
use Rattle.syntax_definitions.specs.Loading.{loaded, within}
use Rattle.syntax_definitions.specs.Refusals.{IsRefusalOfFiles, IsOfFiles}
use Rattle.syntax_definitions.specs.OneAfterAnother.{Step, Is, Then}
use Rattle.syntax_definitions.specs.declared.gather_error.GatherError.{GatherError}
use Rattle.syntax_definitions.specs.declared.gather_error.GatherError.TheVariants.{TooLong, TooMuch, Deep, Lex, Syntax}
use Rattle.syntax_definitions.specs.declared.visited.Visited.{Visited}
use Rattle.gathering_laws.proofs.SomeReading.{HasTokens, has_tokens, HasFile, has_file}

-- ---- steps

-- a step with a result
abbrev Has : {A : Type 0} → Step A → Type 0
Has {A} S = (result : Result A GatherError) × S result

-- a step all of whose results the files decide
abbrev AreOfFiles : {A : Type 0} → Step A → Type 0
AreOfFiles {A} S = (result : Result A GatherError) → S result → IsOfFiles result

then_has : {A B : Type 0} (First : Step A) (Next : A → Step B) → Has First → ((x : A) → Has (Next x)) → Has (Then First Next)
then_has First Next (Ok x, first) next = let n = next x in (n.0, inl (x, first, n.1))
then_has First Next (Err e, first) next = (Err e, inr (e, first, refl))

then_of_files : {A B : Type 0} (First : Step A) (Next : A → Step B) → AreOfFiles First → ((x : A) → AreOfFiles (Next x)) → AreOfFiles (Then First Next)
then_of_files First Next first next result (inl (x, f, n)) = next x result n
then_of_files First Next first next result (inr (e, f, is)) = subst (λ r. IsOfFiles r) (sym is) (first (Err e) f)

is_has : {A : Type 0} (answer : Result A GatherError) → Has (Is answer)
is_has answer = (answer, refl)

is_of_files : {A : Type 0} (answer : Result A GatherError) → IsOfFiles answer → AreOfFiles (Is answer)
is_of_files answer h result is = subst (λ r. IsOfFiles r) (sym is) h

-- ---- one file

if_within : {A : Type 0} (test : Bool) (x : A) (e : GatherError) → IsRefusalOfFiles e → IsOfFiles (if test then Ok x else Err e)
if_within true x e h = tt
if_within false x e h = h

within_of_files : (name : List ℕ) (found : Option (List ℕ)) → IsOfFiles (within name found)
within_of_files name None = tt
within_of_files name (Some bytes) = if_within (leb (length bytes) 16777216) bytes (TooLong name) tt

counted_of_files : (sum : ℕ) (bytes : List ℕ) → IsOfFiles (counted sum bytes)
counted_of_files sum bytes = if_within (leb (sum + length bytes) 67108864) (sum + length bytes) TooMuch tt

read_has : (name bytes : List ℕ) (tokens : List Token) → Lexes bytes tokens → HasFile Problem bytes tokens → Has (Reads name bytes)
read_has name bytes tokens lexes (inl (file, spells)) = (Ok file.statements, spelled (tokens, lexes, spells))
read_has name bytes tokens lexes (inr (k, fault)) = (Err (Syntax name k), not_read lexes fault)

reads_by : (name bytes : List ℕ) → HasTokens bytes → Has (Reads name bytes)
reads_by name bytes (inl (tokens, lexes)) = read_has name bytes tokens lexes (has_file Problem bytes tokens)
reads_by name bytes (inr (at, bad)) = (Err (Lex name at), not_lexed bad)

pub some_reading : (name bytes : List ℕ) → Has (Reads name bytes)
some_reading name bytes = reads_by name bytes (has_tokens bytes)

reading_of_files : {name bytes : List ℕ} {result : Result (List Statement) GatherError} → Reads name bytes result → IsOfFiles result
reading_of_files (spelled h) = tt
reading_of_files (not_lexed bad) = tt
reading_of_files (not_read lexed fault) = tt

some_entering : (files : Files) (sum : ℕ) (name : List ℕ) → Has (Enters files sum name)
some_entering files sum name =
    then_has (Is (loaded files name)) (ReadsCounted name sum) (is_has (loaded files name)) (λ bytes.
    then_has (Is (counted sum bytes)) _ (is_has (counted sum bytes)) (λ total.
    then_has (Reads name bytes) _ (some_reading name bytes) (λ statements. is_has (Ok (record { statements = statements; sum = total })))))

entering_of_files : (files : Files) (sum : ℕ) (name : List ℕ) → AreOfFiles (Enters files sum name)
entering_of_files files sum name =
    then_of_files (Is (loaded files name)) (ReadsCounted name sum) (is_of_files (loaded files name) (within_of_files name (file_of name files))) (λ bytes.
    then_of_files (Is (counted sum bytes)) _ (is_of_files (counted sum bytes) (counted_of_files sum bytes)) (λ total.
    then_of_files (Reads name bytes) _ (λ result h. reading_of_files h) (λ statements. is_of_files (Ok (record { statements = statements; sum = total })) tt)))

-- ---- includes

unless_of_files : (file : List ℕ) (missing : Option (List ℕ)) (kept : List Statement) → IsOfFiles (unless_missing file missing kept)
unless_of_files file None kept = tt
unless_of_files file (Some name) kept = tt

selected_of_files : (file : List ℕ) (names : Option (List (List ℕ))) (ss : List Statement) → IsOfFiles (selected file names ss)
selected_of_files file None ss = tt
selected_of_files file (Some names) ss = unless_of_files file (first_missing names ss) _

some_before : (first : List Statement) (Others : Step Visited) → Has Others → Has (BroughtBefore first Others)
some_before first Others others = then_has Others _ others (λ whole. is_has _)

before_of_files : (first : List Statement) (Others : Step Visited) → AreOfFiles Others → AreOfFiles (BroughtBefore first Others)
before_of_files first Others others = then_of_files Others _ others (λ whole. is_of_files _ tt)

some_bringing : (V : ℕ → List ℕ → Step Visited) → ((sum : ℕ) (name : List ℕ) → Has (V sum name)) → (sum : ℕ) (ss : List Statement) → Has (Brings V sum ss)
some_bringing V visits sum [] = is_has (Ok (record { statements = []; sum = sum }))
some_bringing V visits sum (Annotated name role body ∷ rest) = some_before (Annotated name role body ∷ []) (Brings V sum rest) (some_bringing V visits sum rest)
some_bringing V visits sum (Include file names ∷ rest) =
    then_has (V sum file) _ (visits sum file) (λ part.
    then_has (Is (selected file names part.statements)) _ (is_has (selected file names part.statements)) (λ kept.
    some_before kept (Brings V part.sum rest) (some_bringing V visits part.sum rest)))

bringing_of_files : (V : ℕ → List ℕ → Step Visited) → ((sum : ℕ) (name : List ℕ) → AreOfFiles (V sum name)) → (sum : ℕ) (ss : List Statement) → AreOfFiles (Brings V sum ss)
bringing_of_files V visits sum [] = is_of_files (Ok (record { statements = []; sum = sum })) tt
bringing_of_files V visits sum (Annotated name role body ∷ rest) = before_of_files (Annotated name role body ∷ []) (Brings V sum rest) (bringing_of_files V visits sum rest)
bringing_of_files V visits sum (Include file names ∷ rest) =
    then_of_files (V sum file) _ (visits sum file) (λ part.
    then_of_files (Is (selected file names part.statements)) _ (is_of_files (selected file names part.statements) (selected_of_files file names part.statements)) (λ kept.
    before_of_files kept (Brings V part.sum rest) (bringing_of_files V visits part.sum rest)))

some_visit : (files : Files) (levels sum : ℕ) (name : List ℕ) → Has (Visits files levels sum name)
unfolding Visits
some_visit files zero sum name = is_has (Err (Deep name))
some_visit files (suc levels) sum name =
    then_has (Enters files sum name) _ (some_entering files sum name) (λ file. some_bringing (Visits files levels) (some_visit files levels) file.sum file.statements)

visit_of_files : (files : Files) (levels sum : ℕ) (name : List ℕ) → AreOfFiles (Visits files levels sum name)
unfolding Visits
visit_of_files files zero sum name = is_of_files (Err (Deep name)) tt
visit_of_files files (suc levels) sum name =
    then_of_files (Enters files sum name) _ (entering_of_files files sum name) (λ file. bringing_of_files (Visits files levels) (visit_of_files files levels) file.sum file.statements)

pub some_gathering : (files : Files) (name : List ℕ) → Has (Gathers files name)
some_gathering files name = then_has (Visits files 17 0 name) _ (some_visit files 17 0 name) (λ whole. is_has _)

pub gathering_of_files : (files : Files) (name : List ℕ) → AreOfFiles (Gathers files name)
gathering_of_files files name = then_of_files (Visits files 17 0 name) _ (visit_of_files files 17 0 name) (λ whole. is_of_files _ tt)
