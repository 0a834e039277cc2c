-- The grammar reads the items of a regular statement as that statement, and those of a file as the file.
use Rattle.std.proofs.Common.{◌≡◌, ℕ, zero, suc, ◌≤◌, Bool, true, false, ◌&&◌, List, [], ◌∷◌, length, Option, Some, None, refl, sym, subst, ◌∙◌, arith}
use Rattle.std.specs.Prelude.{codes, nat_le}
use Rattle.std.specs.List.{list_all}
use Rattle.std.proofs.lemmas.Bool.{and_parts, true≢false, leb-true}
use Rattle.nxf_terminals.specs.declared.sign.Sign.TheVariants as sign
use Rattle.nxf_terminals.specs.Input.{Spelling, Input}
use Rattle.nxf_tree.specs.Profiles.{Allowed}
use Rattle.nxf_base.specs.Bytes.{is_printable_text, is_word_text}
use Rattle.nxf_tree.specs.declared.tree.SortName.{SortName}
use Rattle.nxf_tree.specs.declared.tree.Typing.{Typing}
use Rattle.nxf_tree.specs.declared.tree.Typing.TheVariants as typing
use Rattle.nxf_tree.specs.declared.tree.Role.{Role}
use Rattle.nxf_tree.specs.declared.tree.Body.{Body}
use Rattle.nxf_tree.specs.declared.tree.Body.TheVariants as body
use Rattle.nxf_tree.specs.declared.tree.Statement.TheVariants as statement
use Rattle.syntax_definitions.specs.Formulas.{IsIndex}
use Rattle.syntax_definitions.specs.Formulas as g
use Rattle.nxf_tree.specs.RegularFormulas.{is_regular_sort}
use Rattle.nxf_tree.specs.declared.tree.BodyKind.{BodyKind}
use Rattle.nxf_tree.specs.declared.tree.BodyKind.TheVariants as kinds
use Rattle.syntax_definitions.specs.Typings.{IsResult, AreSorts, IsType, IsTyping}
use Rattle.syntax_definitions.specs.Typings as t
use Rattle.syntax_definitions.specs.Statements.{IsWord, IsRole, IsBody, IsStatement, role_of}
use Rattle.nxf_tree.specs.Regular.{body_kind}
use Rattle.syntax_definitions.specs.Statements as s
use Rattle.nxf_tree.specs.Regular.{is_regular_result, is_regular_typing, is_regular_suffix, is_regular_role, is_body_of, is_regular_body, is_regular_statement}
use Rattle.syntax_definitions.specs.Levels.{statement_levels}
use Rattle.printed_text_laws.proofs.Spellings.{name_back, word_is_word}
use Rattle.printed_text_laws.proofs.Items.{name_item, sort_items, result_items, other_sorts, type_items, typing_items, suffix_items, role_items, body_items, statement_items, ended}
use Rattle.printed_text_laws.proofs.ReadItems.{sort_reads, formula_reads}

result_reads : (r : Option SortName) (rest : Input) → IsResult (result_items r rest) r rest
result_reads None rest = t.truth
result_reads (Some s) rest = t.of_sort (sort_reads s rest)

sorts_read : (s : SortName) (ss : List SortName) (k : ℕ) → suc (length ss) ≤ k → (rest : Input) → AreSorts k (sort_items s (other_sorts ss ((sign.Close, codes ")") ∷ rest))) (s ∷ ss) rest
sorts_read s ss zero few rest = absurd (omega (arith, few))
sorts_read s [] (suc k) few rest = t.last_sort (sort_reads s ((sign.Close, codes ")") ∷ rest))
sorts_read s (u ∷ ss) (suc k) few rest = t.more_sorts (sort_reads s ((sign.Star, codes "*") ∷ sort_items u (other_sorts ss ((sign.Close, codes ")") ∷ rest)))) (sorts_read u ss k (omega (arith, few)) rest)

type_reads : (most : ℕ) (f : Spelling) (ss : List SortName) (r : Option SortName) (n : ℕ) → length ss ≤ most → (rest : Input) → IsType most f (suc n) (type_items ss r rest) (typing.Symbol f ss r) rest
type_reads most f [] r n few rest = t.plain (result_reads r rest)
type_reads most f (s ∷ []) r n few rest = t.of_one (sort_reads s ((sign.Greater, codes ">") ∷ result_items r rest)) (result_reads r rest)
type_reads most f (s ∷ u ∷ ss) r n few rest = t.of_sorts (sorts_read s (u ∷ ss) most few ((sign.Greater, codes ">") ∷ result_items r rest)) (result_reads r rest)

symbol_reads : (most : ℕ) (f : Spelling) (ss : List SortName) (r : Option SortName) (n : ℕ) → length ss ≤ most → (rest : Input) → IsTyping most (suc n) (typing_items (typing.Symbol f ss r) rest) (typing.Symbol f ss r) rest
symbol_reads most f ss r n few rest =
    t.symbol (subst (λ (a : Spelling). IsType most a (suc n) (type_items ss r rest) (typing.Symbol f ss r) rest) (sym (name_back f)) (type_reads most f ss r n few rest))

suffixed_reads : (a : Spelling) (b : Option Spelling) → is_word_text a ≡ true → is_regular_suffix b ≡ true → (rest : Input) → IsRole ((sign.Name, a) ∷ suffix_items b rest) (role_of a b) rest
suffixed_reads a None word h rest = s.of_word (s.word (word_is_word a word))
suffixed_reads a (Some b) word h rest = s.with_suffix (s.word (word_is_word a word)) (s.word (word_is_word b h))

role_reads : (r : Role) → is_regular_role r ≡ true → (rest : Input) → IsRole (role_items r rest) r rest
role_reads r h rest =
    let u = and_parts (is_word_text r.word) (is_regular_suffix r.suffix) h in
    suffixed_reads r.word r.suffix u.0 u.1 rest

module _ (l : Allowed) (no_modal : l.modal ≡ false) where
  typing_reads : (t : Typing) (n : ℕ) → is_regular_typing l t ≡ true → (rest : Input) → IsTyping l.arguments (suc n) (typing_items t rest) t rest
  typing_reads typing.Individual n h rest = t.individual
  typing_reads (typing.Sort s) n h rest = subst (λ (a : Spelling). IsTyping l.arguments (suc n) (typing_items (typing.Sort s) rest) (typing.Sort a) rest) (name_back s) t.sort
  typing_reads (typing.Symbol f ss r) n h rest =
      let t = and_parts (is_printable_text f) (nat_le (length ss) l.arguments && (list_all is_regular_sort ss && is_regular_result r)) h in
      symbol_reads l.arguments f ss r n (leb-true (length ss) l.arguments (and_parts (nat_le (length ss) l.arguments) (list_all is_regular_sort ss && is_regular_result r) t.1).0) rest

  body_reads : (k : BodyKind) (name : List ℕ) (r : Role) (b : Body) (n : ℕ) → is_body_of k b ≡ true → is_regular_body l b ≡ true → statement_levels (statement.Annotated name r b) ≤ suc n → (rest : Input) → IsBody l.arguments (suc n) k (body_items b rest) b rest
  body_reads kinds.Typing name r (body.Typing t) n of h low rest = s.typing (typing_reads t n h rest)
  body_reads kinds.Formula name r (body.Formula f) n of h low rest = s.formula (formula_reads l no_modal f (suc n) h low rest)
  body_reads k name r (body.Logic s) n of h low rest = absurd (true≢false (sym (and_parts l.modal _ h).0 ∙ no_modal))
  body_reads kinds.Logic name r (body.Typing t) n of h low rest = absurd (true≢false (sym of))
  body_reads kinds.Formula name r (body.Typing t) n of h low rest = absurd (true≢false (sym of))
  body_reads kinds.Typing name r (body.Formula f) n of h low rest = absurd (true≢false (sym of))
  body_reads kinds.Logic name r (body.Formula f) n of h low rest = absurd (true≢false (sym of))

  -- the items of a statement are read as it
  pub statement_reads : (w : Bool) (n : ℕ) (name : List ℕ) (r : Role) (b : Body) → is_regular_statement l (statement.Annotated name r b) ≡ true → statement_levels (statement.Annotated name r b) ≤ suc n → IsStatement w l.arguments (suc n) (statement_items (statement.Annotated name r b) (ended [])) (statement.Annotated name r b) []
  statement_reads w n name r b h low =
      let t = and_parts (is_printable_text name) (is_regular_role r && (is_body_of (body_kind r.word) b && is_regular_body l b)) h in
      let u = and_parts (is_regular_role r) (is_body_of (body_kind r.word) b && is_regular_body l b) t.1 in
      let v = and_parts (is_body_of (body_kind r.word) b) (is_regular_body l b) u.1 in
      s.annotated refl (subst (λ (a : Spelling). IsIndex (name_item name ∷ (sign.Comma, codes ",") ∷ role_items r ((sign.Comma, codes ",") ∷ body_items b (ended []))) a ((sign.Comma, codes ",") ∷ role_items r ((sign.Comma, codes ",") ∷ body_items b (ended [])))) (name_back name) g.named)
      (role_reads r u.0 ((sign.Comma, codes ",") ∷ body_items b (ended [])))
      (body_reads (body_kind r.word) name r b n v.0 v.1 low (ended []))
