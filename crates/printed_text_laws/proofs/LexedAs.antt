-- What the lexemes of a text are to the grammar.
use Rattle.std.proofs.Common.{◌≡◌, ℕ, ◌+◌, ◌-◌, Some, List, [], ◌∷◌, ◌++◌, length, take, drop, refl, sym, ap, subst, ◌∙◌, arith}
use Rattle.std.proofs.lemmas.List.{drop-drop}
use Rattle.std.proofs.Math.Seq.{drop-append_seam, take-append_seam}
use Rattle.tptp_lex.specs.declared.token.Token.{Token}
use Rattle.tptp_lex.specs.declared.token.Lexeme.{Lexeme}
use Rattle.tptp_lex.specs.declared.token.Lexeme.TheVariants as lexeme
use Rattle.tptp_lex.specs.Front.{front}
use Rattle.tptp_lex.specs.Shapes.{IsLongest}
use Rattle.tptp_lex.specs.Lexing.{Piece, Begins, token_of, tokens_from, Lexes}
use Rattle.tptp_lex.proofs.CallerLemmas.{spelled_longest}
use Rattle.nxf_tree.specs.declared.profile.Profile.{Profile}
use Rattle.nxf_terminals.specs.Signs.{sign_of}
use Rattle.nxf_terminals.specs.Input.{Input, input_of}
use Rattle.nxf_tree.specs.declared.tree.File.{File}
use Rattle.syntax_definitions.specs.Files.{statement_parts, AreRead}
use Rattle.nxf_tree.specs.Profiles.{has_includes, most_arguments, levels_of}
use Rattle.syntax_definitions.specs.Spells.{Spells}

module _ (p : Profile) where
  -- the item of a lexeme before others; a blank and a comment have none
  abbrev pub item_before : Lexeme → List ℕ → Input → Input
  item_before lexeme.Blank s i = i
  item_before lexeme.Comment s i = i
  item_before (lexeme.Token k) s i = (sign_of p k s, s) ∷ i

  abbrev pub items_of : List Piece → Input
  items_of [] = []
  items_of (x ∷ xs) = item_before x.kind x.spelling (items_of xs)

  -- the text lexes, and its tokens are these items
  pub record IsLexedAs (text : List ℕ) (items : Input) : Type 0 where
    pub pieces : List Piece
    pub begins : Begins text pieces []
    pub are : items_of pieces ≡ items

  abbrev piece : Lexeme → List ℕ → Piece
  piece k s = record { kind = k; spelling = s }

  pub nothing_lexed : IsLexedAs [] []
  nothing_lexed = record { pieces = []; begins = refl; are = refl }

  pub lexed_more : (k : Lexeme) (s r : List ℕ) (i : Input) → IsLongest (s ++ r) k s r → IsLexedAs r i → IsLexedAs (s ++ r) (item_before k s i)
  lexed_more k s r i long l = record { pieces = piece k s ∷ l.pieces; begins = (r, long, l.begins); are = ap (item_before k s) l.are }

  -- what is found at the front, and is as long as s
  pub found_more : (k : Lexeme) (s r : List ℕ) (i : Input) → front (s ++ r) ≡ Some (k, length s) → IsLexedAs r i → IsLexedAs (s ++ r) (item_before k s i)
  found_more k s r i found l = lexed_more k s r i (spelled_longest k s r found) l

  -- ---- the items of the tokens

  taken_here : (whole spelling after : List ℕ) (at : ℕ) → drop at whole ≡ spelling ++ after → take (at + length spelling - at) (drop at whole) ≡ spelling
  taken_here whole spelling after at here =
      let len : at + length spelling - at ≡ length spelling = omega arith in
      rw (len, here) (take-append_seam spelling after)

  dropped_here : (whole spelling after : List ℕ) (at : ℕ) → drop at whole ≡ spelling ++ after → drop (at + length spelling) whole ≡ after
  dropped_here whole spelling after at here = sym (drop-drop (length spelling) at whole) ∙ ap (drop (length spelling)) here ∙ drop-append_seam spelling after

  one_item : (whole : List ℕ) (k : Lexeme) (s : List ℕ) (start end : ℕ) (ts : List Token) (i : Input) → take (end - start) (drop start whole) ≡ s → input_of p whole ts ≡ i → input_of p whole (token_of k start end ++ ts) ≡ item_before k s i
  one_item whole lexeme.Blank s start end ts i here more = more
  one_item whole lexeme.Comment s start end ts i here more = more
  one_item whole (lexeme.Token k) s start end ts i here more =
      ap (λ (x : List ℕ). (sign_of p k x, x) ∷ input_of p whole ts) here ∙ ap (λ (j : Input). (sign_of p k s, s) ∷ j) more

  inputs_from : (whole text : List ℕ) (ps : List Piece) (at : ℕ) → drop at whole ≡ text → Begins text ps [] → input_of p whole (tokens_from at ps) ≡ items_of ps
  inputs_from whole text [] at here h = refl
  inputs_from whole text (x ∷ xs) at here h =
      let split = here ∙ h.1.parts in
      one_item whole x.kind x.spelling at (at + length x.spelling) (tokens_from (at + length x.spelling) xs) (items_of xs) (taken_here whole x.spelling h.0 at split)
      (inputs_from whole h.0 xs (at + length x.spelling) (dropped_here whole x.spelling h.0 at split) h.2)

  -- the tokens of the text are these items
  pub tokens_are : (text : List ℕ) (items : Input) → IsLexedAs text items → (tokens : List Token) × Lexes text tokens × (input_of p text tokens ≡ items)
  tokens_are text items l = (tokens_from 0 l.pieces, (l.pieces, l.begins, refl), inputs_from text text l.pieces 0 refl l.begins ∙ l.are)

  -- what the items spell, the text spells
  pub spelled : (text : List ℕ) (items : Input) (f : File) → IsLexedAs text items → AreRead (has_includes p) (most_arguments p) (levels_of p) (statement_parts items) f.statements → Spells p text f
  spelled text items f l read =
      let t = tokens_are text items l in
      (t.0, t.1, subst (λ (i : Input). AreRead (has_includes p) (most_arguments p) (levels_of p) (statement_parts i) f.statements) (sym t.2) read)
