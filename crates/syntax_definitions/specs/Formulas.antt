-- The grammar of terms and formulas in TPTP, a constructor for each of its lines. `Is.. n input tree rest` says that the input begins with
-- the tree, at n levels above the greatest nesting, and goes on
-- with rest. No name has more than `most` arguments.
use Rattle.std.specs.Prelude.{ℕ, suc, List, [], ◌∷◌, ◌≡◌, Some}
use Rattle.nxf_terminals.specs.declared.sign.Sign.{Sign}
use Rattle.nxf_terminals.specs.declared.sign.Sign.TheVariants as sign
use Rattle.nxf_tree.specs.declared.tree.Quantifier.{Quantifier}
use Rattle.nxf_tree.specs.declared.tree.Quantifier.TheVariants as quantifier
use Rattle.nxf_tree.specs.declared.tree.Mode.TheVariants as mode
use Rattle.nxf_tree.specs.declared.tree.Op.{Op}
use Rattle.nxf_tree.specs.declared.tree.SortName.{SortName}
use Rattle.nxf_tree.specs.declared.tree.SortName.TheVariants as sort
use Rattle.nxf_tree.specs.declared.tree.Term.{Term}
use Rattle.nxf_tree.specs.declared.tree.Term.TheVariants as term
use Rattle.nxf_tree.specs.declared.tree.Formula.{Formula}
use Rattle.nxf_tree.specs.declared.tree.Formula.TheVariants as formula
use Rattle.nxf_tree.specs.declared.tree.Mode.{Mode}
use Rattle.nxf_tree.specs.declared.tree.IndexName.{IndexName}
use Rattle.nxf_tree.specs.declared.tree.IndexName.TheVariants as index
use Rattle.tptp_lex.specs.Texts.{token_text}
use Rattle.nxf_terminals.specs.Input.{Spelling, Input}
use Rattle.syntax_definitions.specs.Operators.{operator, mode_of}

mutual
  -- a term of TPTP: a variable, or a name with its arguments, which stand one level deeper
  pub data IsTerm (most : ℕ) : ℕ → Input → Term → Input → Type 0 where
    variable : {n : ℕ} {v : Spelling} {rest : Input} → IsTerm most n ((sign.Upper, v) ∷ rest) (term.Var v) rest
    constant : {n : ℕ} {a : Spelling} {rest : Input} → IsTerm most n ((sign.Name, a) ∷ rest) (term.App (token_text a) []) rest
    call : {n : ℕ} {a s : Spelling} {xs rest : Input} {ts : List Term} → AreTerms most n most xs ts rest → IsTerm most (suc n) ((sign.Name, a) ∷ (sign.Open, s) ∷ xs) (term.App (token_text a) ts) rest

  -- one term or more, but no more than k, and the bracket that closes them
  pub data AreTerms (most : ℕ) : ℕ → ℕ → Input → List Term → Input → Type 0 where
    last_term : {n k : ℕ} {s : Spelling} {xs rest : Input} {t : Term} → IsTerm most n xs t ((sign.Close, s) ∷ rest) → AreTerms most n (suc k) xs (t ∷ []) rest
    more_terms : {n k : ℕ} {s : Spelling} {xs mid rest : Input} {t : Term} {ts : List Term} → IsTerm most n xs t ((sign.Comma, s) ∷ mid) → AreTerms most n k mid ts rest → AreTerms most n (suc k) xs (t ∷ ts) rest

-- a sort of the typed first-order form of TPTP
pub data IsSort : Input → SortName → Input → Type 0 where
  individual : {s : Spelling} {rest : Input} → IsSort ((sign.Individual, s) ∷ rest) sort.Individual rest
  user : {s : Spelling} {rest : Input} → IsSort ((sign.Name, s) ∷ rest) (sort.User (token_text s)) rest

-- what stands after a variable
pub data IsBoundSort : Input → SortName → Input → Type 0 where
  no_sort : {xs : Input} → IsBoundSort xs sort.Individual xs
  with_sort : {c : Spelling} {xs rest : Input} {s : SortName} → IsSort xs s rest → IsBoundSort ((sign.Colon, c) ∷ xs) s rest

-- the text of an index
pub data IsIndex : Input → Spelling → Input → Type 0 where
  named : {a : Spelling} {rest : Input} → IsIndex ((sign.Name, a) ∷ rest) (token_text a) rest
  numbered : {a : Spelling} {rest : Input} → IsIndex ((sign.Integer, a) ∷ rest) (token_text a) rest

-- what stands after the word of a long form, through its brace
pub data IsLongIndex : Input → IndexName → Input → Type 0 where
  plain : {c : Spelling} {rest : Input} → IsLongIndex ((sign.RightBrace, c) ∷ rest) index.Plain rest
  indexed : {o h c d i : Spelling} {xs rest : Input} → IsIndex xs i ((sign.Close, c) ∷ (sign.RightBrace, d) ∷ rest) → IsLongIndex ((sign.Open, o) ∷ (sign.Hash, h) ∷ xs) (index.Named i) rest

mutual
  -- a unit: a formula that no operator joins to another without brackets
  pub data IsUnit (most : ℕ) : ℕ → Input → Formula → Input → Type 0 where
    brackets : {n : ℕ} {o c : Spelling} {xs rest : Input} {f : Formula} → IsFormula most n xs f ((sign.Close, c) ∷ rest) → IsUnit most (suc n) ((sign.Open, o) ∷ xs) f rest
    not : {n : ℕ} {s : Spelling} {xs rest : Input} {f : Formula} → IsUnit most n xs f rest → IsUnit most (suc n) ((sign.Not, s) ∷ xs) (formula.Not f) rest
    box : {n : ℕ} {s : Spelling} {xs rest : Input} {f : Formula} → IsUnit most n xs f rest → IsUnit most (suc n) ((sign.Box, s) ∷ xs) (formula.Modal mode.Box index.Plain f) rest
    dia : {n : ℕ} {s : Spelling} {xs rest : Input} {f : Formula} → IsUnit most n xs f rest → IsUnit most (suc n) ((sign.Dia, s) ∷ xs) (formula.Modal mode.Dia index.Plain f) rest
    box_of : {n : ℕ} {b h c i : Spelling} {xs mid rest : Input} {f : Formula} → IsIndex xs i ((sign.RightBracket, c) ∷ mid) → IsUnit most n mid f rest → IsUnit most (suc n) ((sign.LeftBracket, b) ∷ (sign.Hash, h) ∷ xs) (formula.Modal mode.Box (index.Named i) f) rest
    dia_of : {n : ℕ} {b h c i : Spelling} {xs mid rest : Input} {f : Formula} → IsIndex xs i ((sign.Greater, c) ∷ mid) → IsUnit most n mid f rest → IsUnit most (suc n) ((sign.Less, b) ∷ (sign.Hash, h) ∷ xs) (formula.Modal mode.Dia (index.Named i) f) rest
    long : {n : ℕ} {j : Sign} {m : Mode} {b w a o c : Spelling} {xs mid rest : Input} {i : IndexName} {f : Formula} → mode_of j ≡ Some m → IsLongIndex xs i ((sign.At, a) ∷ (sign.Open, o) ∷ mid) → IsFormula most n mid f ((sign.Close, c) ∷ rest) → IsUnit most (suc n) ((sign.LeftBrace, b) ∷ (j, w) ∷ xs) (formula.Modal m i f) rest
    distinct : {n k : ℕ} {d o : Spelling} {xs rest : Input} {ts : List Term} → AreTerms most n k xs ts rest → IsUnit most (suc n) ((sign.Distinct, d) ∷ (sign.Open, o) ∷ xs) (formula.Distinct ts) rest
    all : {n : ℕ} {s b : Spelling} {xs rest : Input} {f : Formula} → IsQuantified most quantifier.All n xs f rest → IsUnit most n ((sign.All, s) ∷ (sign.LeftBracket, b) ∷ xs) f rest
    exists : {n : ℕ} {s b : Spelling} {xs rest : Input} {f : Formula} → IsQuantified most quantifier.Exists n xs f rest → IsUnit most n ((sign.Exists, s) ∷ (sign.LeftBracket, b) ∷ xs) f rest
    true : {n : ℕ} {s : Spelling} {rest : Input} → IsUnit most n ((sign.True, s) ∷ rest) formula.True rest
    false : {n : ℕ} {s : Spelling} {rest : Input} → IsUnit most n ((sign.False, s) ∷ rest) formula.False rest
    atom : {n : ℕ} {a : Spelling} {rest : Input} → IsUnit most n ((sign.Name, a) ∷ rest) (formula.Atom (token_text a) []) rest
    atom_of : {n : ℕ} {a s : Spelling} {xs rest : Input} {ts : List Term} → AreTerms most n most xs ts rest → IsUnit most (suc n) ((sign.Name, a) ∷ (sign.Open, s) ∷ xs) (formula.Atom (token_text a) ts) rest
    same : {n : ℕ} {e : Spelling} {xs mid rest : Input} {s t : Term} → IsTerm most n xs s ((sign.Equal, e) ∷ mid) → IsTerm most n mid t rest → IsUnit most n xs (formula.Same s t) rest
    differ : {n : ℕ} {e : Spelling} {xs mid rest : Input} {s t : Term} → IsTerm most n xs s ((sign.Differ, e) ∷ mid) → IsTerm most n mid t rest → IsUnit most n xs (formula.Differ s t) rest

  -- The variables of a quantifier from one on, and what it binds them in. Each takes a level.
  pub data IsQuantified (most : ℕ) : Quantifier → ℕ → Input → Formula → Input → Type 0 where
    last_variable : {q : Quantifier} {n : ℕ} {v b c : Spelling} {xs mid rest : Input} {s : SortName} {f : Formula} → IsBoundSort xs s ((sign.RightBracket, b) ∷ (sign.Colon, c) ∷ mid) → IsUnit most n mid f rest → IsQuantified most q (suc n) ((sign.Upper, v) ∷ xs) (formula.Quant q v s f) rest
    more_variables : {q : Quantifier} {n : ℕ} {v c : Spelling} {xs mid rest : Input} {s : SortName} {f : Formula} → IsBoundSort xs s ((sign.Comma, c) ∷ mid) → IsQuantified most q n mid f rest → IsQuantified most q (suc n) ((sign.Upper, v) ∷ xs) (formula.Quant q v s f) rest

  -- one unit or more, with this sign between
  pub data AreUnits (most : ℕ) : Sign → ℕ → Input → List Formula → Input → Type 0 where
    last_unit : {j : Sign} {n : ℕ} {xs rest : Input} {f : Formula} → IsUnit most n xs f rest → AreUnits most j n xs (f ∷ []) rest
    more_units : {j : Sign} {n : ℕ} {s : Spelling} {xs mid rest : Input} {f : Formula} {fs : List Formula} → IsUnit most n xs f ((j, s) ∷ mid) → AreUnits most j n mid fs rest → AreUnits most j n xs (f ∷ fs) rest

  -- a formula: a unit, a chain of units with one of `&` and `|`, or two units with another operator between
  pub data IsFormula (most : ℕ) : ℕ → Input → Formula → Input → Type 0 where
    alone : {n : ℕ} {xs rest : Input} {f : Formula} → IsUnit most n xs f rest → IsFormula most n xs f rest
    and : {n : ℕ} {s : Spelling} {xs mid rest : Input} {f : Formula} {fs : List Formula} → IsUnit most n xs f ((sign.And, s) ∷ mid) → AreUnits most sign.And n mid fs rest → IsFormula most n xs (formula.And (f ∷ fs)) rest
    or : {n : ℕ} {s : Spelling} {xs mid rest : Input} {f : Formula} {fs : List Formula} → IsUnit most n xs f ((sign.Or, s) ∷ mid) → AreUnits most sign.Or n mid fs rest → IsFormula most n xs (formula.Or (f ∷ fs)) rest
    pair : {n : ℕ} {j : Sign} {o : Op} {s : Spelling} {xs mid rest : Input} {f g : Formula} → IsUnit most n xs f ((j, s) ∷ mid) → operator j ≡ Some o → IsUnit most n mid g rest → IsFormula most n xs (formula.Pair o f g) rest
