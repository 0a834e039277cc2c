-- Each text has tokens or a place where its lexemes end, and its tokens spell a file or have a first fault.
use Rattle.std.proofs.Common.{◌≡◌, ℕ, zero, suc, ◌+◌, ◌≤◌, List, [], ◌∷◌, ◌++◌, length, take, drop, Bool, Option, Some, None, refl, sym, ap, ◌∙◌, arith, length-append}
use Rattle.std.specs.Prelude.{◌⊎◌}
use mathlib.Core.Logic.{inl, inr}
use Rattle.std.proofs.lemmas.List.{take-append-drop, length-take}
use Rattle.tptp_lex.specs.Front.{front}
use Rattle.tptp_lex.specs.Lexing.{Piece, Begins, tokens_from, Lexes, IsBadPlace}
use Rattle.tptp_lex.specs.Shapes.{IsLexeme, IsLongest}
use Rattle.tptp_lex.specs.declared.token.Kind.TheVariants as kind
use Rattle.tptp_lex.specs.declared.token.Lexeme.{Lexeme}
use Rattle.tptp_lex.specs.declared.token.Lexeme.TheVariants as lexeme
use Rattle.tptp_lex.specs.declared.token.Token.{Token}
use Rattle.tptp_lex.proofs.CallerLemmas.{reaches, none_there, IsSoFar, all_lexed, bad_place, sound}
use Rattle.nxf_terminals.specs.Input.{Input}
use Rattle.nxf_tree.specs.declared.profile.Profile.{Profile}
use Rattle.nxf_tree.specs.declared.tree.File.{File}
use Rattle.nxf_tree.specs.declared.tree.Statement.{Statement}
use Rattle.syntax_definitions.specs.steps.ReadStatements.{read_statement}
use Rattle.syntax_definitions.specs.Files.{AreRead, IsFirstUnread}
use Rattle.syntax_definitions.specs.steps.ReadFiles.{Answer, Read, Unread, read_parts}
use Rattle.nxf_tree.specs.Profiles.{has_includes, most_arguments, levels_of}
use Rattle.syntax_definitions.specs.Spells.{statement_parts_of, TokensSpell, IsFirstFault}
use Rattle.grammar_laws.proofs.ExactFiles.{parts_read, parts_unread}

-- ---- lexemes, as far as they go

nothing_there : (k : Lexeme) → IsLexeme k [] [] → ⊥
unfolding front
nothing_there k is = none_there [] refl k [] [] refl is

-- no lexeme is empty
not_empty : (k : Lexeme) (s a : List ℕ) → length s ≡ 0 → IsLexeme k s a → ⊥
not_empty k (b ∷ s) a e is = absurd (omega (arith, e))
not_empty lexeme.Blank [] a e is = nothing_there lexeme.Blank is
not_empty lexeme.Comment [] a e is = nothing_there lexeme.Comment is
not_empty (lexeme.Token kind.Word) [] a e is = nothing_there (lexeme.Token kind.Word) is
not_empty (lexeme.Token kind.Upper) [] a e is = nothing_there (lexeme.Token kind.Upper) is
not_empty (lexeme.Token kind.Dollar) [] a e is = nothing_there (lexeme.Token kind.Dollar) is
not_empty (lexeme.Token kind.Quoted) [] a e is = nothing_there (lexeme.Token kind.Quoted) is
not_empty (lexeme.Token kind.Distinct) [] a e is = nothing_there (lexeme.Token kind.Distinct) is
not_empty (lexeme.Token kind.Number) [] a e is = nothing_there (lexeme.Token kind.Number) is
not_empty (lexeme.Token kind.Punct) [] a e (inl one) = nothing_there (lexeme.Token kind.Punct) (inl one)
not_empty (lexeme.Token kind.Punct) [] a e (inr is) = let no = is.0 in absurd (cc)

-- the lexeme at the front is the longest one there
front_longest : (text : List ℕ) (k : Lexeme) (n : ℕ) → front text ≡ Some (k, n) → IsLongest text k (take n text) (drop n text)
front_longest text k n h = record {
  parts = sym (take-append-drop n text);
  is = sound text (k, n) h;
  longest = λ l s a e is.
      let r = reaches l s a is in
      let both : Some (k, n) ≡ Some (l, r.len) = sym h ∙ ap front e ∙ r.found in
      let same : (k, n) ≡ (l, r.len) = cc in
      let len : n ≡ r.len = ap (λ (x : Lexeme × ℕ). x.1) same in
      omega (arith, len, r.long, length-take n text, ap length e, length-append s a);
}

-- lexemes from the beginning of the text on, up to where none is
record Goes (text : List ℕ) : Type 0 where
  pieces : List Piece
  rest : List ℕ
  at : ℕ
  begins : Begins text pieces rest
  place : at + length rest ≡ length text
  none : front rest ≡ None

goes_more : (text : List ℕ) (k : Lexeme) (s after : List ℕ) → IsLongest text k s after → Goes after → Goes text
goes_more text k s after first others = record {
  pieces = record { kind = k; spelling = s } ∷ others.pieces;
  rest = others.rest;
  at = length s + others.at;
  begins = (after, first, others.begins);
  place = omega (arith, others.place, ap length first.parts, length-append s after);
  none = others.none;
}

shorter : (text s after : List ℕ) (most : ℕ) → text ≡ s ++ after → length text ≤ suc most → (length s ≡ 0 → ⊥) → length after ≤ most
shorter text [] after most e l some = absurd (some refl)
shorter text (b ∷ s) after most e l some = omega (arith, ap length e, l, length-append s after)

goes_by : (text : List ℕ) (most : ℕ) (found : Option (Lexeme × ℕ)) → length text ≤ suc most → front text ≡ found → ((after : List ℕ) → length after ≤ most → Goes after) → Goes text
goes_by text most None l e others = record { pieces = []; rest = text; at = 0; begins = refl; place = omega arith; none = e }
goes_by text most (Some (k, n)) l e others =
    let first = front_longest text k n e in
    goes_more text k (take n text) (drop n text) first
    (others (drop n text) (shorter text (take n text) (drop n text) most first.parts l (λ empty. not_empty k (take n text) (drop n text) empty first.is)))

goes : (most : ℕ) (text : List ℕ) → length text ≤ most → Goes text
unfolding front
goes zero [] l = record { pieces = []; rest = []; at = 0; begins = refl; place = refl; none = refl }
goes zero (b ∷ bs) l = absurd (omega (arith, l))
goes (suc most) text l = goes_by text most (front text) l refl (goes most)

-- ---- tokens

abbrev pub HasTokens : List ℕ → Type 0
HasTokens text = ((tokens : List Token) × Lexes text tokens) ⊎ ((at : ℕ) × IsBadPlace text at)

tokens_by : (text rest : List ℕ) (at : ℕ) (tokens : List Token) → IsSoFar text rest at tokens → front rest ≡ None → HasTokens text
tokens_by text [] at tokens so_far none = inl (tokens, all_lexed text [] at tokens so_far refl)
tokens_by text (b ∷ rest) at tokens so_far none = inr (at, bad_place text (b ∷ rest) at tokens so_far none (omega arith))

pub has_tokens : (text : List ℕ) → HasTokens text
has_tokens text =
    let g = goes (length text) text (omega arith) in
    tokens_by text g.rest g.at (tokens_from 0 g.pieces) (record { pieces = g.pieces; begins = g.begins; place = g.place; tokens_are = refl }) g.none

-- ---- statements

abbrev IsReadOrNot : Bool → ℕ → ℕ → List Input → Type 0
IsReadOrNot w most n ps = ((ss : List Statement) × AreRead w most n ps ss) ⊎ ((k : ℕ) × IsFirstUnread w most n ps k)

read_by : (w : Bool) (most n : ℕ) (ps : List Input) (a : Answer) → read_parts (read_statement w most n) ps 1 [] ≡ a → IsReadOrNot w most n ps
read_by w most n ps (Read ss) e = inl (ss, parts_read w most n ps ss e)
read_by w most n ps (Unread k) e = inr (k, parts_unread w most n ps k e)

read_or_not : (w : Bool) (most n : ℕ) (ps : List Input) → IsReadOrNot w most n ps
read_or_not w most n ps = read_by w most n ps (read_parts (read_statement w most n) ps 1 []) refl

abbrev pub HasFile : Profile → List ℕ → List Token → Type 0
HasFile profile bytes tokens = ((file : File) × TokensSpell profile bytes tokens file) ⊎ ((k : ℕ) × IsFirstFault profile bytes tokens k)

file_by : (profile : Profile) (bytes : List ℕ) (tokens : List Token) → IsReadOrNot (has_includes profile) (most_arguments profile) (levels_of profile) (statement_parts_of profile bytes tokens) → HasFile profile bytes tokens
file_by profile bytes tokens (inl (ss, are)) = inl (record { statements = ss }, are)
file_by profile bytes tokens (inr fault) = inr fault

pub has_file : (profile : Profile) (bytes : List ℕ) (tokens : List Token) → HasFile profile bytes tokens
has_file profile bytes tokens = file_by profile bytes tokens (read_or_not (has_includes profile) (most_arguments profile) (levels_of profile) (statement_parts_of profile bytes tokens))
