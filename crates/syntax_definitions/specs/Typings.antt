-- Typings and types. `most` is the greatest number of argument sorts, and n counts the levels that are left.
use Rattle.std.specs.Prelude.{ℕ, suc, List, [], ◌∷◌, Option, Some, None}
use Rattle.nxf_terminals.specs.declared.sign.Sign.TheVariants as sign
use Rattle.tptp_lex.specs.Texts.{token_text}
use Rattle.nxf_terminals.specs.Input.{Spelling, Input}
use Rattle.nxf_tree.specs.declared.tree.SortName.{SortName}
use Rattle.nxf_tree.specs.declared.tree.Typing.{Typing}
use Rattle.nxf_tree.specs.declared.tree.Typing.TheVariants as typing
use Rattle.syntax_definitions.specs.Formulas.{IsSort}

-- what a symbol gives: a sort, or `$o` for a predicate
pub data IsResult : Input → Option SortName → Input → Type 0 where
  of_sort : {xs rest : Input} {s : SortName} → IsSort xs s rest → IsResult xs (Some s) rest
  truth : {v : Spelling} {rest : Input} → IsResult ((sign.Truth, v) ∷ rest) None rest

-- one sort or more, but no more than k, and the bracket that closes them
pub data AreSorts : ℕ → Input → List SortName → Input → Type 0 where
  last_sort : {k : ℕ} {c : Spelling} {xs rest : Input} {s : SortName} → IsSort xs s ((sign.Close, c) ∷ rest) → AreSorts (suc k) xs (s ∷ []) rest
  more_sorts : {k : ℕ} {c : Spelling} {xs mid rest : Input} {s : SortName} {ss : List SortName} → IsSort xs s ((sign.Star, c) ∷ mid) → AreSorts k mid ss rest → AreSorts (suc k) xs (s ∷ ss) rest

-- the type of a symbol
pub data IsType (most : ℕ) (name : Spelling) : ℕ → Input → Typing → Input → Type 0 where
  plain : {n : ℕ} {xs rest : Input} {r : Option SortName} → IsResult xs r rest → IsType most name n xs (typing.Symbol name [] r) rest
  of_one : {n : ℕ} {g : Spelling} {xs mid rest : Input} {s : SortName} {r : Option SortName} → IsSort xs s ((sign.Greater, g) ∷ mid) → IsResult mid r rest → IsType most name n xs (typing.Symbol name (s ∷ []) r) rest
  of_sorts : {n : ℕ} {o g : Spelling} {xs mid rest : Input} {ss : List SortName} {r : Option SortName} → AreSorts most xs ss ((sign.Greater, g) ∷ mid) → IsResult mid r rest → IsType most name (suc n) ((sign.Open, o) ∷ xs) (typing.Symbol name ss r) rest
  brackets : {n : ℕ} {o c : Spelling} {xs rest : Input} {t : Typing} → IsType most name n xs t ((sign.Close, c) ∷ rest) → IsType most name (suc n) ((sign.Open, o) ∷ xs) t rest

-- a typing of TPTP: that `$i` or a name is a sort, or that a name has a type
pub data IsTyping (most : ℕ) : ℕ → Input → Typing → Input → Type 0 where
  individual : {n : ℕ} {i c t : Spelling} {rest : Input} → IsTyping most n ((sign.Individual, i) ∷ (sign.Colon, c) ∷ (sign.SortType, t) ∷ rest) typing.Individual rest
  sort : {n : ℕ} {a c t : Spelling} {rest : Input} → IsTyping most n ((sign.Name, a) ∷ (sign.Colon, c) ∷ (sign.SortType, t) ∷ rest) (typing.Sort (token_text a)) rest
  symbol : {n : ℕ} {a c : Spelling} {xs rest : Input} {t : Typing} → IsType most (token_text a) n xs t rest → IsTyping most n ((sign.Name, a) ∷ (sign.Colon, c) ∷ xs) t rest
  in_brackets : {n : ℕ} {o c : Spelling} {xs rest : Input} {t : Typing} → IsTyping most n xs t ((sign.Close, c) ∷ rest) → IsTyping most (suc n) ((sign.Open, o) ∷ xs) t rest
