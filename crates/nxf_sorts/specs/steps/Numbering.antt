-- What numbering gives: a numbered term or formula of the given one, which has no fault; or the first fault.
use Rattle.std.specs.Prelude.{◌≡◌, ℕ, Bool, true, false, if◌then◌else◌, List, [], ◌∷◌, map, length, Option, None, Some, is_some, Result, MatchResult}
use Rattle.std.specs.Option.{option_map, option_or}
use Rattle.std.specs.List.{list_all}
use Rattle.nxf_base.specs.declared.status.SortKind.TheVariants.{DoubleName, Mismatch}
use Rattle.nxf_tree.specs.declared.tree.Signature.{Signature}
use Rattle.nxf_tree.specs.declared.tree.SortName.{SortName}
use Rattle.nxf_tree.specs.declared.tree.Term.{Term}
use Rattle.nxf_tree.specs.declared.tree.Formula.{Formula}
use Rattle.nxf_tree.specs.Counting.{all_different}
use Rattle.nxf_tree.specs.Signature.{same_sort, sort_at, sort_names}
use Rattle.nxf_tree.specs.Sorting.{modal_language, in_range, gives_in_range, sort_of}
use Rattle.nxf_tree.specs.Occurrences.{Use, indexes, occurrences}
use Rattle.nxf_tree.specs.SignatureOf.{type_in}
use Rattle.nxf_tree.specs.SortFaults.{SortFault, symbol_fault, wrong_sort, term_fault, arguments_fault, equation_fault, formula_fault}
use Rattle.nxf_tree.specs.WellFormed.{HasSortsInRange}
use Rattle.nxf_sorts.specs.declared.fault.Fault.{Fault}
use Rattle.nxf_sorts.specs.declared.fault.Fault.TheVariants.{Kind, Memory}
use Rattle.numbered_definitions.specs.declared.node.NTerm.{NTerm}
use Rattle.numbered_definitions.specs.declared.node.Node.{Node}
use Rattle.numbered_definitions.specs.NamedForm.{symbol_name, named_term, sort_name, named_terms, named_form, named_forms}
use Rattle.formula_cells.specs.Stored.{Stored, IsTerm, term_at}
use Rattle.formula_cells.specs.Putting.{Grows, Puts, PutsTerm, PutsAll, PutsTerms}
use Rattle.nxf_signatures.specs.Naming.{Naming}
use Rattle.nxf_sorts.specs.steps.Scope.{Scope, variables, bound_in}

-- the error is this fault, or there was no memory
abbrev pub IsFault : Option SortFault → Fault → Type 0
IsFault fault (Kind kind name) = fault ≡ Some (kind, name)
IsFault fault Memory = Unit {0}

-- the sorts have different names, and the numbers of sorts are in range
pub record IsGoodSignature (sig : Signature) : Type 0 where
  pub different : all_different same_sort (sort_names sig.sorts) ≡ true
  pub in_range : HasSortsInRange sig

-- the sorts of the bound variables are in range
abbrev pub IsScope : Signature → Scope → Type 0
IsScope sig bs = list_all (λ (b : List ℕ × ℕ). in_range sig.sorts b.1) bs ≡ true

-- the fault of a symbol that is used otherwise than it was declared, or else than at its first occurrence
abbrev pub wrong_symbol : List Use → List ℕ → Option SortFault
wrong_symbol us f = if is_some (type_in us f) then Some (Mismatch, f) else Some (DoubleName, f)

-- the symbol with the number k, whose arguments have these sorts, is used rightly with so many arguments
pub record Uses (sig : Signature) (us : List Use) (f : List ℕ) (count : ℕ) (gives : Option ℕ) (k : ℕ) (args : List ℕ) : Type 0 where
  pub no_fault : symbol_fault (modal_language sig) us f count (is_some gives) ≡ None
  pub type : (modal_language sig).type_of f ≡ Some (record { args = map (sort_at sig.sorts) args; gives = option_map (sort_at sig.sorts) gives })
  pub name : symbol_name sig k ≡ Some f
  pub count_is : length args ≡ count
  pub args_in_range : list_all (in_range sig.sorts) args ≡ true
  pub value_in_range : gives_in_range sig.sorts gives ≡ true

pub record NumbersTerm (sig : Signature) (us : List Use) (bs : Scope) (t : Term) (n : NTerm) (s : ℕ) : Type 0 where
  pub no_fault : term_fault (modal_language sig) us (bound_in sig bs) t ≡ None
  pub sort : sort_of (modal_language sig) (bound_in sig bs) t ≡ Some (sort_at sig.sorts s)
  pub range : in_range sig.sorts s ≡ true
  pub named : named_term sig (variables bs) n ≡ Some t

-- the fault of an argument of the symbol f, for which the sort with the number s is wanted
abbrev pub argument_fault : Signature → List Use → Scope → List ℕ → ℕ → Term → Option SortFault
argument_fault sig us bs f s t =
    option_or (term_fault (modal_language sig) us (bound_in sig bs) t) (wrong_sort f (sort_at sig.sorts s) (sort_of (modal_language sig) (bound_in sig bs) t))

pub record NumbersArgument (sig : Signature) (us : List Use) (bs : Scope) (f : List ℕ) (s : ℕ) (t : Term) (n : NTerm) : Type 0 where
  pub no_fault : argument_fault sig us bs f s t ≡ None
  pub named : named_term sig (variables bs) n ≡ Some t

pub record NumbersTerms (sig : Signature) (us : List Use) (bs : Scope) (of : List ℕ) (wanted : List SortName) (ts : List Term) (ns : List NTerm) : Type 0 where
  pub no_fault : arguments_fault (modal_language sig) us (bound_in sig bs) of wanted ts ≡ None
  pub named : named_terms sig (variables bs) ns ≡ Some ts

pub record NumbersSides (sig : Signature) (us : List Use) (bs : Scope) (t u : Term) (a b : NTerm) : Type 0 where
  pub no_fault : equation_fault (modal_language sig) us (bound_in sig bs) t u ≡ None
  pub left : named_term sig (variables bs) a ≡ Some t
  pub right : named_term sig (variables bs) b ≡ Some u

-- each index of the formula is one of the signature's
abbrev pub KnowsIndexes : Signature → Formula → Type 0
KnowsIndexes sig f = list_all (modal_language sig).knows_index (indexes (occurrences f)) ≡ true

abbrev pub KnowsAllIndexes : Signature → List Formula → Type 0
KnowsAllIndexes sig [] = Unit {0}
KnowsAllIndexes sig (f ∷ fs) = KnowsIndexes sig f × KnowsAllIndexes sig fs

-- the numbered formula is the given one, where the signature has its indexes
pub record NumbersFormula (sig : Signature) (us : List Use) (bs : Scope) (f : Formula) (n : Node) : Type 0 where
  pub no_fault : formula_fault (modal_language sig) us (bound_in sig bs) f ≡ None
  pub named : KnowsIndexes sig f → named_form sig (variables bs) n ≡ Some f

-- the first fault of formulas from left to right
abbrev pub formulas_faults : Signature → List Use → Scope → List Formula → Option SortFault
formulas_faults sig us bs [] = None
formulas_faults sig us bs (f ∷ fs) = option_or (formula_fault (modal_language sig) us (bound_in sig bs) f) (formulas_faults sig us bs fs)

pub record NumbersFormulas (sig : Signature) (us : List Use) (bs : Scope) (fs : List Formula) (ns : List Node) : Type 0 where
  pub no_fault : formulas_faults sig us bs fs ≡ None
  pub named : KnowsAllIndexes sig fs → named_forms sig (variables bs) ns ≡ Some fs

-- the signature has not got the sort, or it has the number k
abbrev pub HasNoSort : Signature → SortName → Type 0
HasNoSort sig s = (modal_language sig).knows_sort s ≡ false

pub record FindsNumber (sig : Signature) (s : SortName) (k : ℕ) : Type 0 where
  pub known : (modal_language sig).knows_sort s ≡ true
  pub name : sort_name sig k ≡ Some s
  pub at : sort_at sig.sorts k ≡ s
  pub range : in_range sig.sorts k ≡ true

-- two terms were put as cells, of which this is so
pub record PutsSides (P : NTerm → NTerm → Type 0) (old new : Stored) (a b : ℕ) : Type 0 where
  pub grows : Grows old new
  pub left : IsTerm new a
  pub right : IsTerm new b
  pub holds : P (term_at new a) (term_at new b)

-- Calls that are given the names of a file. A symbol is used rightly with so many arguments, or this is its fault.
abbrev pub FindsUse : Naming → List ℕ → ℕ → Option ℕ → ℕ → List ℕ → Type 0
FindsUse names f count gives k args = Uses names.signature names.declared f count gives k args

abbrev pub Misuses : Naming → List ℕ → ℕ → Bool → Fault → Type 0
Misuses names f count of_function = IsFault (symbol_fault (modal_language names.signature) names.declared f count of_function)

-- cells come behind the old ones that stand for the term, whose sort has the number beside it; or the error is the term's first fault
abbrev pub PutsSortedTerm : Naming → Scope → Term → Stored → Stored → Result (ℕ × ℕ) Fault → Type 0
PutsSortedTerm names bs t old new r =
    MatchResult r (λ p. PutsTerm (λ n. NumbersTerm names.signature names.declared bs t n p.1) old new p.0)
    (IsFault (term_fault (modal_language names.signature) names.declared (bound_in names.signature bs) t))

-- the same for an argument of the symbol f, of the sort with the number s
abbrev pub PutsArgument : Naming → Scope → List ℕ → ℕ → Term → Stored → Stored → Result ℕ Fault → Type 0
PutsArgument names bs f s t old new r =
    MatchResult r (PutsTerm (NumbersArgument names.signature names.declared bs f s t) old new) (IsFault (argument_fault names.signature names.declared bs f s t))

-- the same for all its arguments, of the sorts with these numbers
abbrev pub PutsArguments : Naming → Scope → List ℕ → List ℕ → List Term → Stored → Stored → Result (List ℕ) Fault → Type 0
PutsArguments names bs f sorts ts old new r =
    let wanted = map (sort_at names.signature.sorts) sorts in
    MatchResult r (PutsTerms (NumbersTerms names.signature names.declared bs f wanted ts) old new)
    (IsFault (arguments_fault (modal_language names.signature) names.declared (bound_in names.signature bs) f wanted ts))

-- the same for two terms of one sort
abbrev pub PutsEquation : Naming → Scope → Term → Term → Stored → Stored → Result (ℕ × ℕ) Fault → Type 0
PutsEquation names bs t u old new r =
    MatchResult r (λ p. PutsSides (NumbersSides names.signature names.declared bs t u) old new p.0 p.1)
    (IsFault (equation_fault (modal_language names.signature) names.declared (bound_in names.signature bs) t u))

-- the same for a formula, and for formulas from left to right
abbrev pub PutsFormula : Naming → Scope → Formula → Stored → Stored → Result ℕ Fault → Type 0
PutsFormula names bs f old new r =
    MatchResult r (Puts (NumbersFormula names.signature names.declared bs f) old new)
    (IsFault (formula_fault (modal_language names.signature) names.declared (bound_in names.signature bs) f))

abbrev pub PutsFormulas : Naming → Scope → List Formula → Stored → Stored → Result (List ℕ) Fault → Type 0
PutsFormulas names bs fs old new r =
    MatchResult r (PutsAll (NumbersFormulas names.signature names.declared bs fs) old new) (IsFault (formulas_faults names.signature names.declared bs fs))
