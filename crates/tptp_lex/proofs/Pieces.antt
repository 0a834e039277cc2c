-- The lexemes of a text are determined.
use Rattle.std.proofs.Common.{◌≡◌, ℕ, ◌+◌, ◌-◌, ◌≤◌, ◌<◌, Some, None, List, [], ◌∷◌, ◌++◌, length, take, drop, refl, sym, ap, subst, ◌∙◌, arith, append_assoc, length-append}
use Rattle.std.proofs.lemmas.List.{take-append-drop, append-nil, length-take-le, length-drop}
use Rattle.std.proofs.Math.Seq.{drop-append_seam, take-append_seam, drop-append-add}
use Rattle.tptp_lex.specs.declared.token.Token.{Token}
use Rattle.tptp_lex.specs.declared.token.Lexeme.{Lexeme}
use Rattle.tptp_lex.specs.Front.{front}
use Rattle.tptp_lex.specs.Shapes.{IsLexeme, IsLongest}
use Rattle.tptp_lex.specs.Lexing.{Piece, Begins, token_of, tokens_from, Lexes, IsBadPlace}
use Rattle.tptp_lex.proofs.Complete.{reaches}
use Rattle.tptp_lex.proofs.Sound.{sound}

-- what is found at the front is the longest lexeme there
pub found_longest : (text : List ℕ) (k : Lexeme) (n : ℕ) → front text ≡ Some (k, n) → n ≤ length text → IsLongest text k (take n text) (drop n text)
found_longest text k n h fits = record {
  parts = sym (take-append-drop n text);
  is = sound text (k, n) h;
  longest = λ k2 s a e is.
      let r = reaches k2 s a is in
      let there : front text ≡ Some (k2, r.len) = ap front e ∙ r.found in
      let both : Some (k, n) ≡ Some (k2, r.len) = sym h ∙ there in
      let same : (k, n) ≡ (k2, r.len) = cc in
      let len : n ≡ r.len = ap (λ (x : Lexeme × ℕ). x.1) same in
      rw (length-take-le n text fits) (omega (arith, len, r.long));
}

-- where nothing is found there is no lexeme
pub none_there : (text : List ℕ) → front text ≡ None → (k : Lexeme) (s a : List ℕ) → text ≡ s ++ a → IsLexeme k s a → ⊥
none_there text h k s a e is =
    let r = reaches k s a is in
    let there : None ≡ Some (k, r.len) = sym h ∙ ap front e ∙ r.found in
    cc

-- lexemes that begin one text have one kind
pub one_kind : (text : List ℕ) (k l : Lexeme) (s t a b : List ℕ) → text ≡ s ++ a → IsLexeme k s a → text ≡ t ++ b → IsLexeme l t b → k ≡ l
one_kind text k l s t a b p is q are =
    let first = reaches k s a is in
    let second = reaches l t b are in
    let both : Some (k, first.len) ≡ Some (l, second.len) = sym first.found ∙ ap front (sym p ∙ q) ∙ second.found in
    let same : (k, first.len) ≡ (l, second.len) = cc in
    ap (λ (x : Lexeme × ℕ). x.0) same

-- the longest lexemes at one place
record SameFront (k l : Lexeme) (s t a b : List ℕ) : Type 0 where
  kinds : k ≡ l
  spellings : s ≡ t
  rests : a ≡ b

same_front : (text : List ℕ) (k l : Lexeme) (s t a b : List ℕ) → IsLongest text k s a → IsLongest text l t b → SameFront k l s t a b
same_front text k l s t a b p q =
    let first = p.longest l t b q.parts q.is in
    let second = q.longest k s a p.parts p.is in
    let len : length s ≡ length t = omega (arith, first, second) in
    record {
      kinds = one_kind text k l s t a b p.parts p.is q.parts q.is;
      spellings = sym (take-append_seam s a) ∙ ap (take (length s)) (sym p.parts) ∙ ap (λ (n : ℕ). take n text) len ∙ ap (take (length t)) q.parts ∙ take-append_seam t b;
      rests = sym (drop-append_seam s a) ∙ ap (drop (length s)) (sym p.parts) ∙ ap (λ (n : ℕ). drop n text) len ∙ ap (drop (length t)) q.parts ∙ drop-append_seam t b;
    }

no_longer : (text rest : List ℕ) (ps : List Piece) → Begins text ps rest → length rest ≤ length text
no_longer text rest [] h = omega (arith, ap length h)
no_longer text rest (p ∷ ps) h = omega (arith, no_longer h.0 rest ps h.2, ap length h.1.parts, length-append p.spelling h.0)

furthest : (text rest : List ℕ) (ps : List Piece) → Begins text ps rest → front rest ≡ None → (qs : List Piece) (r : List ℕ) → Begins text qs r → length rest ≤ length r
furthest text rest [] h none [] r g = omega (arith, ap length (sym h ∙ g))
furthest text rest [] h none (q ∷ qs) r g = absurd (none_there text (ap front h ∙ none) q.kind q.spelling g.0 g.1.parts g.1.is)
furthest text rest (p ∷ ps) h none [] r g = omega (arith, no_longer text rest (p ∷ ps) h, ap length g)
furthest text rest (p ∷ ps) h none (q ∷ qs) r g =
    let same = same_front text p.kind q.kind p.spelling q.spelling h.0 g.0 h.1 g.1 in
    furthest h.0 rest ps h.2 none qs r (subst (λ (x : List ℕ). Begins x qs r) (sym same.rests) g.2)

none_in_nothing : (k : Lexeme) (s a : List ℕ) → [] ≡ s ++ a → IsLexeme k s a → ⊥
unfolding front
none_in_nothing k s a e is = none_there [] refl k s a e is

abbrev piece : Lexeme → List ℕ → Piece
piece k s = record { kind = k; spelling = s }

same_piece : (p q : Piece) → p.kind ≡ q.kind → p.spelling ≡ q.spelling → p ≡ q
same_piece p q kinds spellings = ap (λ (k : Lexeme). piece k p.spelling) kinds ∙ ap (λ (s : List ℕ). piece q.kind s) spellings

pub one_list : (text : List ℕ) (ps qs : List Piece) → Begins text ps [] → Begins text qs [] → ps ≡ qs
one_list text [] [] h g = refl
one_list text [] (q ∷ qs) h g = absurd (none_in_nothing q.kind q.spelling g.0 (sym h ∙ g.1.parts) g.1.is)
one_list text (p ∷ ps) [] h g = absurd (none_in_nothing p.kind p.spelling h.0 (sym g ∙ h.1.parts) h.1.is)
one_list text (p ∷ ps) (q ∷ qs) h g =
    let same = same_front text p.kind q.kind p.spelling q.spelling h.0 g.0 h.1 g.1 in
    let first = same_piece p q same.kinds same.spellings in
    let rest = one_list h.0 ps qs h.2 (subst (λ (x : List ℕ). Begins x qs []) (sym same.rests) g.2) in
    rw (rest, first) refl

pub one_lexing : (text : List ℕ) (ts us : List Token) → Lexes text ts → Lexes text us → ts ≡ us
one_lexing text ts us h g = h.2 ∙ ap (tokens_from 0) (one_list text h.0 g.0 h.1 g.1) ∙ sym g.2

pub no_bad_place : (text : List ℕ) (ts : List Token) (at : ℕ) → Lexes text ts → IsBadPlace text at → ⊥
no_bad_place text ts at h bad = omega (arith, bad.furthest h.0 [] h.1, bad.within)

-- ---- one more lexeme at the end

begins_more : (text rest after : List ℕ) (ps : List Piece) (p : Piece) → Begins text ps rest → IsLongest rest p.kind p.spelling after → Begins text (ps ++ p ∷ []) after
begins_more text rest after [] p h more = (after, subst (λ (x : List ℕ). IsLongest x p.kind p.spelling after) (sym h) more, refl)
begins_more text rest after (q ∷ qs) p h more = (h.0, h.1, begins_more h.0 rest after qs p h.2 more)

tokens_more : (text rest after : List ℕ) (ps : List Piece) (p : Piece) (from at : ℕ) → Begins text ps rest → at + length rest ≡ from + length text → tokens_from from (ps ++ p ∷ []) ≡ tokens_from from ps ++ token_of p.kind at (at + length p.spelling)
tokens_more text rest after [] p from at h place =
    let same : at ≡ from = omega (arith, place, ap length h) in
    rw same (append-nil (token_of p.kind from (from + length p.spelling)))
tokens_more text rest after (q ∷ qs) p from at h place =
    let again = tokens_more h.0 rest after qs p (from + length q.spelling) at h.2 (omega (arith, place, ap length h.1.parts, length-append q.spelling h.0)) in
    rw again (sym (append_assoc (token_of q.kind from (from + length q.spelling)) (tokens_from (from + length q.spelling) qs) (token_of p.kind at (at + length p.spelling))))

-- what a loop over the lexemes keeps
pub record IsSoFar (text rest : List ℕ) (at : ℕ) (tokens : List Token) : Type 0 where
  pub pieces : List Piece
  pub begins : Begins text pieces rest
  pub place : at + length rest ≡ length text
  pub tokens_are : tokens ≡ tokens_from 0 pieces

pub so_far_more : (text rest : List ℕ) (at n : ℕ) (k : Lexeme) (tokens new : List Token) → IsSoFar text rest at tokens → front rest ≡ Some (k, n) → n ≤ length rest → new ≡ tokens ++ token_of k at (at + n) → IsSoFar text (drop n rest) (at + n) new
so_far_more text rest at n k tokens new s found fits is =
    let long = found_longest rest k n found fits in
    let p : Piece = record { kind = k; spelling = take n rest } in
    let len : length (take n rest) ≡ n = length-take-le n rest fits in
    record {
      pieces = s.pieces ++ p ∷ [];
      begins = begins_more text rest (drop n rest) s.pieces p s.begins long;
      place = omega (arith, s.place, ap length long.parts, length-append (take n rest) (drop n rest), len);
      tokens_are = is ∙ ap (λ (ts : List Token). ts ++ token_of k at (at + n)) s.tokens_are ∙ ap (λ (m : ℕ). tokens_from 0 s.pieces ++ token_of k at (at + m)) (sym len)
          ∙ sym (tokens_more text rest (drop n rest) s.pieces p 0 at s.begins (omega (arith, s.place)));
    }

pub all_lexed : (text rest : List ℕ) (at : ℕ) (tokens : List Token) → IsSoFar text rest at tokens → length rest ≡ 0 → Lexes text tokens
all_lexed text [] at tokens s none = (s.pieces, s.begins, s.tokens_are)
all_lexed text (b ∷ rest) at tokens s none = absurd (omega (arith, none))

drop_to : (text rest : List ℕ) (ps : List Piece) (at : ℕ) → Begins text ps rest → at + length rest ≡ length text → rest ≡ drop at text
drop_to text rest [] at h place = let none : at ≡ 0 = omega (arith, place, ap length h) in rw none (sym h)
drop_to text rest (p ∷ ps) at h place =
    let first = no_longer h.0 rest ps h.2 in
    let len = ap length h.1.parts in
    let later = at - length p.spelling in
    let split : at ≡ length p.spelling + later = omega (arith, place, len, first, length-append p.spelling h.0) in
    drop_to h.0 rest ps later h.2 (omega (arith, place, len, first, split, length-append p.spelling h.0))
    ∙ sym (drop-append-add p.spelling h.0 later) ∙ ap (drop (length p.spelling + later)) (sym h.1.parts) ∙ ap (λ (n : ℕ). drop n text) (sym split)

pub bad_place : (text rest : List ℕ) (at : ℕ) (tokens : List Token) → IsSoFar text rest at tokens → front rest ≡ None → 0 < length rest → IsBadPlace text at
bad_place text rest at tokens s none some =
    let here = drop_to text rest s.pieces at s.begins s.place in
    record {
      pieces = s.pieces;
      leads = subst (λ (x : List ℕ). Begins text s.pieces x) here s.begins;
      within = omega (arith, s.place);
      furthest = λ ps r g. omega (arith, furthest text rest s.pieces s.begins none ps r g, s.place);
    }

-- there is one bad place
pub one_bad_place : (text : List ℕ) (at place : ℕ) → IsBadPlace text at → IsBadPlace text place → at ≡ place
one_bad_place text at place p q =
    let first = p.furthest q.pieces (drop place text) q.leads in
    let second = q.furthest p.pieces (drop at text) p.leads in
    let here = length-drop at text in
    let there = length-drop place text in
    let under = p.within in
    let below = q.within in
    omega (arith, first, second, here, there, under, below)
