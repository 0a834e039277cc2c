-- One map of files and one name have at most one gathering.
use Rattle.std.proofs.Common.{◌≡◌, ℕ, zero, suc, List, [], ◌∷◌, ◌++◌, Result, Ok, Err, sym, ap, ◌∙◌, subst}
use mathlib.Core.Logic.{inl, inr}
use Rattle.nxf_base.specs.Files.{Files}
use Rattle.tptp_lex.specs.declared.token.Token.{Token}
use Rattle.tptp_lex.proofs.CallerLemmas.{one_lexing, no_bad_place, one_bad_place}
use Rattle.nxf_tree.specs.declared.profile.Profile.TheVariants.{Problem}
use Rattle.nxf_tree.specs.declared.tree.File.{File}
use Rattle.nxf_tree.specs.declared.tree.Statement.{Statement}
use Rattle.nxf_tree.specs.declared.tree.Statement.TheVariants.{Annotated, Include}
use Rattle.syntax_definitions.specs.Spells.{IsFirstFault}
use Rattle.grammar_laws.proofs.ExactFiles.{one_file_spelled, no_file, one_fault}
use Rattle.syntax_definitions.specs.Gathered.{Reads, spelled, not_lexed, not_read, counted, ReadsCounted, Enters, selected, BroughtBefore, Brings, Visits, Gathers}
use Rattle.syntax_definitions.specs.Loading.{loaded}
use Rattle.syntax_definitions.specs.OneAfterAnother.{Step, Is, Then}
use Rattle.syntax_definitions.specs.declared.gather_error.GatherError.{GatherError}
use Rattle.syntax_definitions.specs.declared.gather_error.GatherError.TheVariants.{Lex, Syntax}
use Rattle.syntax_definitions.specs.declared.visited.Visited.{Visited}

-- a step with at most one result
abbrev IsOne : {A : Type 0} → Step A → Type 0
IsOne {A} S = (r s : Result A GatherError) → S r → S s → r ≡ s

is_one : {A : Type 0} (answer : Result A GatherError) → IsOne (Is answer)
is_one answer r s h k = h ∙ sym k

ok_or_refused : {A : Type 0} {B : Type 0} (x : A) (e : GatherError) → Ok x ≡ Err e → B
ok_or_refused x e h = absurd (cc)

then_one : {A B : Type 0} (First : Step A) (Next : A → Step B) → IsOne First → ((x : A) → IsOne (Next x)) → IsOne (Then First Next)
then_one First Next first next r s (inl (x, f, n)) (inl (y, g, m)) =
    let same : y ≡ x = let e = first (Ok y) (Ok x) g f in cc in
    next x r s n (subst (λ z. Next z s) same m)
then_one First Next first next r s (inl (x, f, n)) (inr (e, g, is)) = ok_or_refused x e (first (Ok x) (Err e) f g)
then_one First Next first next r s (inr (e, g, is)) (inl (x, f, n)) = ok_or_refused x e (first (Ok x) (Err e) f g)
then_one First Next first next r s (inr (d, f, is)) (inr (e, g, so)) = is ∙ (let same : d ≡ e = let h = first (Err d) (Err e) f g in cc in ap Err same) ∙ sym so

one_first_fault : (bytes : List ℕ) (ts us : List Token) (j k : ℕ) → ts ≡ us → IsFirstFault Problem bytes ts j → IsFirstFault Problem bytes us k → j ≡ k
one_first_fault bytes ts us j k same f g = one_fault f (subst (λ vs. IsFirstFault Problem bytes vs k) (sym same) g)

pub one_reading : {name bytes : List ℕ} {r s : Result (List Statement) GatherError} → Reads name bytes r → Reads name bytes s → r ≡ s
one_reading {bytes = bytes} (spelled {statements = ss} h) (spelled {statements = ts} k) =
    let same = one_file_spelled Problem bytes (record { statements = ss }) (record { statements = ts }) h k in
    ap (λ (f : File). Ok f.statements) same
one_reading {bytes = bytes} (spelled h) (not_lexed {at = at} bad) = absurd (no_bad_place bytes h.0 at h.1 bad)
one_reading {bytes = bytes} (spelled h) (not_read {tokens = us} {k = k} lexed fault) =
    absurd (no_file h.2 (subst (λ vs. IsFirstFault Problem bytes vs k) (one_lexing bytes us h.0 lexed h.1) fault))
one_reading {bytes = bytes} (not_lexed {at = at} bad) (spelled k) = absurd (no_bad_place bytes k.0 at k.1 bad)
one_reading {name = name} {bytes = bytes} (not_lexed {at = at} bad) (not_lexed {at = other} worse) = ap (λ place. Err (Lex name place)) (one_bad_place bytes at other bad worse)
one_reading {bytes = bytes} (not_lexed {at = at} bad) (not_read {tokens = us} lexed fault) = absurd (no_bad_place bytes us at lexed bad)
one_reading {bytes = bytes} (not_read {tokens = us} {k = k} lexed fault) (spelled h) =
    absurd (no_file h.2 (subst (λ vs. IsFirstFault Problem bytes vs k) (one_lexing bytes us h.0 lexed h.1) fault))
one_reading {bytes = bytes} (not_read {tokens = us} lexed fault) (not_lexed {at = at} bad) = absurd (no_bad_place bytes us at lexed bad)
one_reading {name = name} {bytes = bytes} (not_read {tokens = ts} {k = j} lexed fault) (not_read {tokens = us} {k = k} lexed_too other) =
    ap (λ place. Err (Syntax name place)) (one_first_fault bytes ts us j k (one_lexing bytes ts us lexed lexed_too) fault other)

one_entering : (files : Files) (sum : ℕ) (name : List ℕ) → IsOne (Enters files sum name)
one_entering files sum name =
    then_one (Is (loaded files name)) (ReadsCounted name sum) (is_one (loaded files name)) (λ bytes.
    then_one (Is (counted sum bytes)) _ (is_one (counted sum bytes)) (λ total.
    then_one (Reads name bytes) _ (λ r s h k. one_reading h k) (λ statements. is_one (Ok (record { statements = statements; sum = total })))))

before_one : (first : List Statement) (Others : Step Visited) → IsOne Others → IsOne (BroughtBefore first Others)
before_one first Others others = then_one Others _ others (λ whole. is_one (Ok (record { statements = first ++ whole.statements; sum = whole.sum })))

one_bringing : (V : ℕ → List ℕ → Step Visited) → ((sum : ℕ) (name : List ℕ) → IsOne (V sum name)) → (sum : ℕ) (ss : List Statement) → IsOne (Brings V sum ss)
one_bringing V visits sum [] = is_one (Ok (record { statements = []; sum = sum }))
one_bringing V visits sum (Annotated name role body ∷ rest) = before_one (Annotated name role body ∷ []) (Brings V sum rest) (one_bringing V visits sum rest)
one_bringing V visits sum (Include file names ∷ rest) =
    then_one (V sum file) _ (visits sum file) (λ part.
    then_one (Is (selected file names part.statements)) _ (is_one (selected file names part.statements)) (λ kept.
    before_one kept (Brings V part.sum rest) (one_bringing V visits part.sum rest)))

one_visit : (files : Files) (levels sum : ℕ) (name : List ℕ) → IsOne (Visits files levels sum name)
unfolding Visits
one_visit files zero sum name = is_one _
one_visit files (suc levels) sum name =
    then_one (Enters files sum name) _ (one_entering files sum name) (λ file. one_bringing (Visits files levels) (one_visit files levels) file.sum file.statements)

pub one_gathering : (files : Files) (name : List ℕ) → IsOne (Gathers files name)
one_gathering files name = then_one (Visits files 17 0 name) _ (one_visit files 17 0 name) (λ whole. is_one (Ok (record { statements = whole.statements })))
