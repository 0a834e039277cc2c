-- Descent through the tokens, as the code goes. That it reads exactly the grammar is a law.
use Rattle.std.specs.Prelude.{ℕ, zero, suc, if◌then◌else◌, List, [], ◌∷◌, ◌++◌, length, Option, Some, None}
use Rattle.nxf_terminals.specs.declared.sign.Sign.{Sign}
use Rattle.nxf_terminals.specs.declared.sign.Sign.TheVariants as sign
use Rattle.nxf_tree.specs.declared.tree.Quantifier.{Quantifier}
use Rattle.nxf_tree.specs.declared.tree.Quantifier.TheVariants as quantifier
use Rattle.nxf_tree.specs.declared.tree.Mode.TheVariants as mode
use Rattle.nxf_tree.specs.declared.tree.Op.{Op}
use Rattle.nxf_tree.specs.declared.tree.SortName.{SortName}
use Rattle.nxf_tree.specs.declared.tree.SortName.TheVariants as sort
use Rattle.nxf_tree.specs.declared.tree.Term.{Term}
use Rattle.nxf_tree.specs.declared.tree.Term.TheVariants as terms
use Rattle.nxf_tree.specs.declared.tree.Formula.{Formula}
use Rattle.nxf_tree.specs.declared.tree.Formula.TheVariants as formulas
use Rattle.nxf_tree.specs.declared.tree.IndexName.{IndexName}
use Rattle.nxf_tree.specs.declared.tree.IndexName.TheVariants as index
use Rattle.nxf_tree.specs.declared.tree.Mode.{Mode}
use Rattle.nxf_terminals.specs.Input.{take_name, Spelling, Parser, ◌>>=◌, ◌>>◌, pure, refuse, peek, take_text, step, sees, eat, expect}
use Rattle.syntax_definitions.specs.Operators.{operator, mode_of}

-- ---- terms

-- after one of a list: the next, or the bracket that closes it
abbrev pub listed : Parser (List Term) → List Term → Parser (List Term)
listed again found = do
  more ← eat sign.Comma
  if more then again else (do expect sign.Close; pure found)

module _ (most : ℕ) (one : Parser Term) where
  unfoldable pub terms_from : ℕ → List Term → Parser (List Term)
  terms_from zero found = refuse
  terms_from (suc k) found = do
    t ← one
    listed (terms_from k (found ++ t ∷ [])) (found ++ t ∷ [])

  -- the arguments of a name, or none
  unfoldable pub arguments : Parser (List Term)
  arguments = do
    found ← eat sign.Open
    if found then terms_from most [] else pure []

  abbrev pub term_by : Sign → Parser Term
  term_by sign.Upper = do
    v ← take_text
    pure (terms.Var v)
  term_by sign.Name = do
    a ← take_name
    ts ← arguments
    pure (terms.App a ts)
  term_by _ = refuse

unfoldable pub term : ℕ → ℕ → Parser Term
term most zero = peek >>= term_by most refuse
term most (suc n) = peek >>= term_by most (term most n)

-- any number of terms
abbrev pub many : ℕ → Parser Term → Parser (List Term)
many most one = λ i. terms_from most one (length i) [] i

-- an argument at n levels, which stands one deeper
abbrev pub argument : ℕ → ℕ → Parser Term
argument most zero = refuse
argument most (suc n) = term most n

-- ---- formulas over units

-- after one of a chain: the next, or nothing
abbrev pub joined : Sign → Parser (List Formula) → List Formula → Parser (List Formula)
joined joint again found = do
  more ← eat joint
  if more then again else pure found

module _ (unit : Parser Formula) where
  unfoldable pub units_from : Sign → ℕ → List Formula → Parser (List Formula)
  units_from joint zero found = refuse
  units_from joint (suc k) found = do
    f ← unit
    joined joint (units_from joint k (found ++ f ∷ [])) (found ++ f ∷ [])

  -- each turn takes a token, so their number is enough
  unfoldable pub units : Sign → Formula → Parser (List Formula)
  units joint first = λ i. units_from joint (length i) (first ∷ []) i

  abbrev pub pair : Formula → Option Op → Parser Formula
  pair first None = pure first
  pair first (Some o) = do
    step
    g ← unit
    pure (formulas.Pair o first g)

  abbrev pub chain : Formula → Sign → Parser Formula
  chain first sign.And = do
    step
    fs ← units sign.And first
    pure (formulas.And fs)
  chain first sign.Or = do
    step
    fs ← units sign.Or first
    pure (formulas.Or fs)
  chain first other = pair first (operator other)

  unfoldable pub whole : Parser Formula
  whole = do
    first ← unit
    next ← peek
    chain first next

  -- after an opening bracket
  unfoldable pub group : Parser Formula
  group = do
    f ← whole
    expect sign.Close
    pure f

-- ---- units

abbrev pub sort_by : Sign → Parser SortName
sort_by sign.Individual = do
  step
  pure sort.Individual
sort_by sign.Name = do
  a ← take_name
  pure (sort.User a)
sort_by _ = refuse

unfoldable pub sort_name : Parser SortName
sort_name = peek >>= sort_by

abbrev pub bound_by : Sign → Parser SortName
bound_by sign.Colon = do
  step
  sort_name
bound_by _ = pure sort.Individual

unfoldable pub bound_sort : Parser SortName
bound_sort = peek >>= bound_by

abbrev pub index_by : Sign → Parser Spelling
index_by sign.Name = take_name
index_by sign.Integer = take_name
index_by _ = refuse

unfoldable pub index_text : Parser Spelling
index_text = peek >>= index_by

abbrev pub long_by : Sign → Parser IndexName
long_by sign.RightBrace = do
  step
  pure index.Plain
long_by sign.Open = do
  step
  expect sign.Hash
  i ← index_text
  expect sign.Close
  expect sign.RightBrace
  pure (index.Named i)
long_by _ = refuse

unfoldable pub long_index : Parser IndexName
long_index = peek >>= long_by

unfoldable pub scope : Parser Formula → Parser Formula → Parser Formula
scope bound again = do
  more ← eat sign.Comma
  if more then again else (do expect sign.RightBracket; expect sign.Colon; bound)

-- a variable, and then what follows the variables or the next one
unfoldable pub variable : Quantifier → Parser Formula → Parser Formula → Parser Formula
variable q bound again = λ i. if sees sign.Upper i then (do
  v ← take_text
  s ← bound_sort
  f ← scope bound again
  pure (formulas.Quant q v s f)) i else None

module _ (one : Parser Term) where
  abbrev pub comparison : Term → Sign → Parser Formula
  comparison s sign.Equal = do
    step
    t ← one
    pure (formulas.Same s t)
  comparison s sign.Differ = do
    step
    t ← one
    pure (formulas.Differ s t)
  comparison s _ = refuse

  abbrev pub after_name : Spelling → List Term → Sign → Parser Formula
  after_name a ts sign.Equal = comparison (terms.App a ts) sign.Equal
  after_name a ts sign.Differ = comparison (terms.App a ts) sign.Differ
  after_name a ts _ = pure (formulas.Atom a ts)

-- after the opening bracket of an indexed modality
unfoldable pub modal_of : Parser Formula → Mode → Sign → Parser Formula
modal_of inner m close = do
  expect sign.Hash
  i ← index_text
  expect close
  f ← inner
  pure (formulas.Modal m (index.Named i) f)

-- after the brace of a long form
unfoldable pub long : Parser Formula → Option Mode → Parser Formula
long inner None = refuse
long inner (Some m) = do
  step
  i ← long_index
  expect sign.At
  expect sign.Open
  f ← group inner
  pure (formulas.Modal m i f)

-- behind `~`
abbrev pub negation : Parser Formula → Parser Formula
negation inner = do
  f ← inner
  pure (formulas.Not f)

-- behind a modality without an index
abbrev pub plain_modal : Parser Formula → Mode → Parser Formula
plain_modal inner m = do
  f ← inner
  pure (formulas.Modal m index.Plain f)

-- behind `$distinct`
abbrev pub distinct : Parser (List Term) → Parser Formula
distinct several = do
  expect sign.Open
  ts ← several
  pure (formulas.Distinct ts)

module _ (one : Parser Term) (given : Parser (List Term)) where
  -- an atom, or a comparison whose left side is a name
  abbrev pub from_name : Parser Formula
  from_name = do
    a ← take_name
    ts ← given
    next ← peek
    after_name one a ts next

  -- a comparison whose left side is a variable
  abbrev pub from_variable : Parser Formula
  from_variable = do
    v ← take_text
    next ← peek
    comparison one (terms.Var v) next

module _ (one : Parser Term) (given : Parser (List Term)) (several : Parser (List Term)) (inner : Parser Formula) (quantified : Quantifier → Parser Formula) where
  abbrev pub unit_by : Sign → Parser Formula
  unit_by sign.Open = do
    step
    group inner
  unit_by sign.Not = do
    step
    negation inner
  unit_by sign.Box = do
    step
    plain_modal inner mode.Box
  unit_by sign.Dia = do
    step
    plain_modal inner mode.Dia
  unit_by sign.LeftBracket = do
    step
    modal_of inner mode.Box sign.RightBracket
  unit_by sign.Less = do
    step
    modal_of inner mode.Dia sign.Greater
  unit_by sign.LeftBrace = do
    step
    word ← peek
    long inner (mode_of word)
  unit_by sign.Distinct = do
    step
    distinct several
  unit_by sign.All = do
    step
    expect sign.LeftBracket
    quantified quantifier.All
  unit_by sign.Exists = do
    step
    expect sign.LeftBracket
    quantified quantifier.Exists
  unit_by sign.True = do
    step
    pure formulas.True
  unit_by sign.False = do
    step
    pure formulas.False
  unit_by sign.Name = from_name one given
  unit_by sign.Upper = from_variable one given
  unit_by _ = refuse

unfoldable mutual
  pub unit : ℕ → ℕ → Parser Formula
  unit most zero = peek >>= unit_by (term most zero) (arguments most refuse) (many most refuse) refuse (λ q. refuse)
  unit most (suc n) = peek >>= unit_by (term most (suc n)) (arguments most (term most n)) (many most (term most n)) (unit most n) (λ q. variable q (unit most n) (quantified most q n))

  pub quantified : ℕ → Quantifier → ℕ → Parser Formula
  quantified most q zero = refuse
  quantified most q (suc n) = variable q (unit most n) (quantified most q n)

-- a unit one deeper
abbrev pub inner : ℕ → ℕ → Parser Formula
inner most zero = refuse
inner most (suc n) = unit most n

abbrev pub unit_from : ℕ → ℕ → Parser Formula
unit_from most n = peek >>= unit_by (term most n) (arguments most (argument most n)) (many most (argument most n)) (inner most n) (λ q. quantified most q n)

unfoldable pub formula : ℕ → ℕ → Parser Formula
formula most n = whole (unit most n)
