-- Statements, their parts and files. `most` is the greatest number of arguments, n the levels for a body.
use Rattle.std.specs.Prelude.{◌≡◌, ℕ, Bool, true, if◌then◌else◌, List, [], ◌∷◌, Option, Some, None, codes}
use Rattle.std.specs.Str.{bytes_eq}
use Rattle.nxf_terminals.specs.declared.sign.Sign.TheVariants as sign
use Rattle.nxf_terminals.specs.Names.{is_word}
use Rattle.tptp_lex.specs.Texts.{token_text}
use Rattle.nxf_terminals.specs.Input.{Spelling, Input}
use Rattle.nxf_tree.specs.declared.tree.Typing.{Typing}
use Rattle.nxf_tree.specs.declared.tree.Formula.{Formula}
use Rattle.nxf_tree.specs.declared.tree.LogicSpec.{LogicSpec}
use Rattle.nxf_tree.specs.declared.tree.Role.{Role}
use Rattle.nxf_tree.specs.declared.tree.Body.{Body}
use Rattle.nxf_tree.specs.declared.tree.Body.TheVariants as body
use Rattle.nxf_tree.specs.declared.tree.Statement.{Statement}
use Rattle.nxf_tree.specs.declared.tree.Statement.TheVariants as statement
use Rattle.syntax_definitions.specs.Formulas.{IsIndex, IsFormula}
use Rattle.nxf_tree.specs.declared.tree.BodyKind.{BodyKind}
use Rattle.nxf_tree.specs.declared.tree.BodyKind.TheVariants as kinds
use Rattle.syntax_definitions.specs.declared.keyword.Keyword.{Keyword}
use Rattle.syntax_definitions.specs.declared.keyword.Keyword.TheVariants as keyword
use Rattle.syntax_definitions.specs.Typings.{IsTyping}
use Rattle.syntax_definitions.specs.Logic.{IsLogic}
use Rattle.syntax_definitions.specs.Annotations.{IsAnnotation}
use Rattle.nxf_tree.specs.Regular.{body_kind}

-- a word, which is never quoted
pub data IsWord : Input → Spelling → Input → Type 0 where
  word : {a : Spelling} {rest : Input} → is_word a ≡ true → IsWord ((sign.Name, a) ∷ rest) a rest

-- a name: a word or a quoted atom, by its text
pub data IsName : Input → Spelling → Input → Type 0 where
  name : {a : Spelling} {rest : Input} → IsName ((sign.Name, a) ∷ rest) (token_text a) rest

-- the role of a word and its suffix, as the trees hold it
abbrev pub role_of : Spelling → Option Spelling → Role
role_of a b = record { word = a; suffix = b }

-- a role of TPTP: a word, or a word with a suffix behind `-`
pub data IsRole : Input → Role → Input → Type 0 where
  of_word : {a : Spelling} {xs rest : Input} → IsWord xs a rest → IsRole xs (role_of a None) rest
  with_suffix : {a b m : Spelling} {xs mid rest : Input} → IsWord xs a ((sign.Minus, m) ∷ mid) → IsWord mid b rest → IsRole xs (role_of a (Some b)) rest

-- the body of a statement, of the kind that its role asks for
pub data IsBody (most : ℕ) : ℕ → BodyKind → Input → Body → Input → Type 0 where
  typing : {n : ℕ} {xs rest : Input} {t : Typing} → IsTyping most n xs t rest → IsBody most n kinds.Typing xs (body.Typing t) rest
  logic : {n : ℕ} {xs rest : Input} {l : LogicSpec} → IsLogic n xs l rest → IsBody most n kinds.Logic xs (body.Logic l) rest
  formula : {n : ℕ} {xs rest : Input} {f : Formula} → IsFormula most n xs f rest → IsBody most n kinds.Formula xs (body.Formula f) rest

-- one label or more, and the bracket that closes them
pub data AreLabels : Input → List Spelling → Input → Type 0 where
  last_label : {c a : Spelling} {xs rest : Input} → IsIndex xs a ((sign.RightBracket, c) ∷ rest) → AreLabels xs (a ∷ []) rest
  more_labels : {c a : Spelling} {xs mid rest : Input} {others : List Spelling} → IsIndex xs a ((sign.Comma, c) ∷ mid) → AreLabels mid others rest → AreLabels xs (a ∷ others) rest

-- what a statement begins with; a keyword is a word and is never quoted
abbrev pub keyword_of : Bool → Spelling → Keyword
keyword_of with_includes w = if bytes_eq w (codes "tff") then keyword.Tff else (if bytes_eq w (codes "include") then (if with_includes then keyword.Include else keyword.Other) else keyword.Other)

-- An annotated statement or an include of TPTP, through its full stop. A label is a name or an integer, as an index is.
pub data IsStatement (with_includes : Bool) (most n : ℕ) : Input → Statement → Input → Type 0 where
  annotated : {a o c d e f label : Spelling} {xs ys zs rest : Input} {r : Role} {b : Body} → keyword_of with_includes a ≡ keyword.Tff
      → IsIndex xs label ((sign.Comma, c) ∷ ys) → IsRole ys r ((sign.Comma, d) ∷ zs) → IsBody most n (body_kind r.word) zs b ((sign.Close, e) ∷ (sign.Stop, f) ∷ rest)
      → IsStatement with_includes most n ((sign.Name, a) ∷ (sign.Open, o) ∷ xs) (statement.Annotated label r b) rest
  noted : {a o c d e f g label : Spelling} {xs ys zs ws rest : Input} {r : Role} {b : Body} → keyword_of with_includes a ≡ keyword.Tff
      → IsIndex xs label ((sign.Comma, c) ∷ ys) → IsRole ys r ((sign.Comma, d) ∷ zs) → IsBody most n (body_kind r.word) zs b ((sign.Comma, g) ∷ ws) → IsAnnotation ws ((sign.Close, e) ∷ (sign.Stop, f) ∷ rest)
      → IsStatement with_includes most n ((sign.Name, a) ∷ (sign.Open, o) ∷ xs) (statement.Annotated label r b) rest
  include : {a o e f file : Spelling} {xs rest : Input} → keyword_of with_includes a ≡ keyword.Include
      → IsName xs file ((sign.Close, e) ∷ (sign.Stop, f) ∷ rest)
      → IsStatement with_includes most n ((sign.Name, a) ∷ (sign.Open, o) ∷ xs) (statement.Include file None) rest
  include_some : {a o c b e f file : Spelling} {xs ys rest : Input} {names : List Spelling} → keyword_of with_includes a ≡ keyword.Include
      → IsName xs file ((sign.Comma, c) ∷ (sign.LeftBracket, b) ∷ ys) → AreLabels ys names ((sign.Close, e) ∷ (sign.Stop, f) ∷ rest)
      → IsStatement with_includes most n ((sign.Name, a) ∷ (sign.Open, o) ∷ xs) (statement.Include file (Some names)) rest
