-- The types of a file's symbols: a declared one has known sorts where no type statement has a fault, and an undeclared one has `$i` alone.
use Rattle.std.proofs.Common.{◌≡◌, ℕ, zero, suc, Bool, true, false, List, [], ◌∷◌, ◌++◌, refl, sym, ap, ◌∙◌}
use Rattle.std.specs.Prelude.{◌&&◌, ◌||◌, if◌then◌else◌, map, length, Option, None, Some, is_some}
use Rattle.std.specs.Option.{option_map}
use Rattle.std.specs.List.{list_all}
use Rattle.std.proofs.lemmas.Bool.{and_from, or_left, or_right}
use Rattle.std.proofs.lemmas.List.Folds.{list_all-append}
use Rattle.nxf_base.specs.declared.status.SortKind.TheVariants.{DoubleName}
use Rattle.nxf_tree.specs.declared.tree.SortName.{SortName}
use Rattle.nxf_tree.specs.declared.tree.SortName.TheVariants.{Individual, User}
use Rattle.nxf_tree.specs.declared.tree.SpecKey.{SpecKey}
use Rattle.nxf_tree.specs.declared.tree.SpecKey.TheVariants.{Dollar, Name, Index}
use Rattle.nxf_tree.specs.declared.tree.Override.{Override}
use Rattle.nxf_tree.specs.declared.tree.Typing.TheVariants.{Individual as IsIndividual, Sort, Symbol}
use Rattle.nxf_tree.specs.declared.tree.Body.TheVariants.{Formula as IsFormula, Typing as IsTyping, Logic as IsLogic}
use Rattle.nxf_tree.specs.declared.tree.Statement.{Statement}
use Rattle.nxf_tree.specs.declared.tree.Statement.TheVariants.{Annotated, Include}
use Rattle.nxf_tree.specs.declared.tree.Term.{Term, Var, App', Row_of-Term, end_of-Term, more_of-Term}
use Rattle.nxf_tree.specs.declared.tree.Formula.{Formula, True, False, Atom, Same, Differ, And', Or', Distinct, Row_of-Formula, end_of-Formula, more_of-Formula}
use Rattle.nxf_tree.specs.Shapes.{Not1, Pair2, Quant1, Modal1}
use Rattle.nxf_tree.specs.Names.{same_text}
use Rattle.nxf_tree.specs.Counting.{has}
use Rattle.nxf_tree.specs.Signature.{same_sort}
use Rattle.nxf_tree.specs.Faults.{first_fault}
use Rattle.nxf_tree.specs.Sorting.{SymbolType, Language}
use Rattle.nxf_tree.specs.Specification.{override_list}
use Rattle.nxf_tree.specs.Occurrences.{Use, Occurrence, individuals, use_with, row_length, term_uses, row_uses, terms_uses, occurrences, row_occurrences, key_occurrences, override_occurrences, occurrences_in, uses, declared, declared_sorts}
use Rattle.nxf_tree.specs.SignatureOf.{type_in}
use Rattle.nxf_tree.specs.SortFaults.{SortFault, unknown_sorts, gives_list, declared_again, type_statement_fault}
use Rattle.name_laws.proofs.Spelling.{same_text-refl, same_text-true, true-false}
use Rattle.name_laws.proofs.Firsts.{split_bool}
use Rattle.signature_laws.proofs.NoFault.{some-none, or-none, map-none}
use Rattle.name_laws.proofs.Appended.{declared-append}

type_in-after : (us vs : List Use) (f : List ℕ) → type_in us f ≡ None → type_in (us ++ vs) f ≡ type_in vs f
type_in-after [] vs f h = refl
type_in-after (u ∷ us) vs f h = split_bool (same_text u.name f)
    (λ e. absurd (some-none u.type (sym (rw e refl) ∙ h)))
    (λ e. rw e (type_in-after us vs f (sym (rw e refl) ∙ h)))

module _ (L : Language) where
  next : (k : ℕ) (before : List Statement) (s : Statement) (ss : List Statement) → first_fault (type_statement_fault L) k before (s ∷ ss) ≡ None → first_fault (type_statement_fault L) (suc k) (before ++ s ∷ []) ss ≡ None
  next k before s ss h = (or-none (option_map (λ fault. (k, fault)) (type_statement_fault L before s)) (first_fault (type_statement_fault L) (suc k) (before ++ s ∷ []) ss) h).1

  -- the sorts of a declared symbol are known
  pub declared-known : (k : ℕ) (before ss : List Statement) → first_fault (type_statement_fault L) k before ss ≡ None → (f : List ℕ) (t : SymbolType) → type_in (declared before) f ≡ None → type_in (declared ss) f ≡ Some t → unknown_sorts L (t.args ++ gives_list t.gives) ≡ None
  declared-known k before [] h f t none found = absurd (some-none t (sym found))
  declared-known k before (Annotated name role (IsTyping (Symbol g args gives)) ∷ ss) h f t none found =
      let own : SymbolType = record { args = args; gives = gives } in
      let s : Statement = Annotated name role (IsTyping (Symbol g args gives)) in
      let parts : (option_map (λ fault. (k, fault)) (type_statement_fault L before s) ≡ None) × (first_fault (type_statement_fault L) (suc k) (before ++ s ∷ []) ss ≡ None) = or-none _ _ h in
      let here : type_statement_fault L before s ≡ None = map-none _ _ parts.0 in
      split_bool (same_text g f)
      (λ e.
      let is : own ≡ t = own-type own t (sym (rw e refl) ∙ found) in
      let name-is : g ≡ f = same_text-true g f e in
      let again : declared_again L g own (type_in (declared before) g) ≡ None = not-a-sort (has same_sort (User g) (declared_sorts before)) (DoubleName, g) _ here in
      let unknown : unknown_sorts L (own.args ++ gives_list own.gives) ≡ None = sym (ap (declared_again L g own) (ap (type_in (declared before)) name-is ∙ none)) ∙ again in
      ap (λ (u : SymbolType). unknown_sorts L (u.args ++ gives_list u.gives)) (sym is) ∙ unknown)
      (λ e. declared-known (suc k) (before ++ s ∷ []) ss parts.1 f t
      (ap (λ l. type_in l f) (declared-append before (s ∷ [])) ∙ (type_in-after (declared before) (declared (s ∷ [])) f none ∙ rw e refl))
      (sym (rw e refl) ∙ found))
    where
      own-type : (a b : SymbolType) → Some a ≡ Some b → a ≡ b
      own-type a b e = cc

      not-a-sort : (b : Bool) (x : SortFault) (o : Option SortFault) → (if b then Some x else o) ≡ None → o ≡ None
      not-a-sort true x o e = absurd (some-none x e)
      not-a-sort false x o e = e
  declared-known k before (Annotated name role (IsTyping (Sort r)) ∷ ss) h f t none found =
      let s : Statement = Annotated name role (IsTyping (Sort r)) in
      declared-known (suc k) (before ++ s ∷ []) ss (next k before s ss h) f t (ap (λ l. type_in l f) (declared-append before (s ∷ [])) ∙ type_in-after (declared before) [] f none) found
  declared-known k before (Annotated name role (IsTyping IsIndividual) ∷ ss) h f t none found =
      let s : Statement = Annotated name role (IsTyping IsIndividual) in
      declared-known (suc k) (before ++ s ∷ []) ss (next k before s ss h) f t (ap (λ l. type_in l f) (declared-append before (s ∷ [])) ∙ type_in-after (declared before) [] f none) found
  declared-known k before (Annotated name role (IsFormula g) ∷ ss) h f t none found =
      let s : Statement = Annotated name role (IsFormula g) in
      declared-known (suc k) (before ++ s ∷ []) ss (next k before s ss h) f t (ap (λ l. type_in l f) (declared-append before (s ∷ [])) ∙ type_in-after (declared before) [] f none) found
  declared-known k before (Annotated name role (IsLogic l) ∷ ss) h f t none found =
      let s : Statement = Annotated name role (IsLogic l) in
      declared-known (suc k) (before ++ s ∷ []) ss (next k before s ss h) f t (ap (λ l. type_in l f) (declared-append before (s ∷ [])) ∙ type_in-after (declared before) [] f none) found
  declared-known k before (Include file names ∷ ss) h f t none found =
      let s : Statement = Include file names in
      declared-known (suc k) (before ++ s ∷ []) ss (next k before s ss h) f t (ap (λ l. type_in l f) (declared-append before (s ∷ [])) ∙ type_in-after (declared before) [] f none) found

-- whether all sorts of a type are `$i`
abbrev pub is_plain_gives : Option SortName → Bool
is_plain_gives None = true
is_plain_gives (Some s) = same_sort s Individual

abbrev pub is_plain_type : SymbolType → Bool
is_plain_type t = list_all (λ s. same_sort s Individual) t.args && is_plain_gives t.gives

individuals-plain : (n : ℕ) → list_all (λ s. same_sort s Individual) (individuals n) ≡ true
individuals-plain zero = refl
individuals-plain (suc n) = individuals-plain n

-- whether a use is of a declared symbol, or of a type with `$i` alone
abbrev pub is_good_use : List Use → Use → Bool
is_good_use us u = is_some (type_in us u.name) || is_plain_type u.type

module _ (us : List Use) where
  abbrev good : List Use → Bool
  good = list_all (is_good_use us)

  good-append : (a b : List Use) → good a ≡ true → good b ≡ true → good (a ++ b) ≡ true
  good-append a b h k = list_all-append (is_good_use us) a b ∙ and_from _ _ h k

  use-good : (f : List ℕ) (n : ℕ) (gives : Option SortName) → is_plain_gives gives ≡ true → is_good_use us (use_with f n gives) ≡ true
  use-good f n gives h = or_right _ _ (and_from _ _ (individuals-plain n) h)

  mutual
    term-good : (t : Term) → good (term_uses t) ≡ true
    term-good (Var x) = refl
    term-good (App' f shape ts) = and_from _ _ (use-good f (row_length ts) (Some Individual) refl) (row-good ts)

    row-good : {m : _} (ts : Row_of-Term m) → good (row_uses ts) ≡ true
    row-good end_of-Term = refl
    row-good (more_of-Term t ts) = good-append (term_uses t) (row_uses ts) (term-good t) (row-good ts)

  terms-good : (ts : List Term) → good (terms_uses ts) ≡ true
  terms-good [] = refl
  terms-good (t ∷ ts) = good-append (term_uses t) (terms_uses ts) (term-good t) (terms-good ts)

  pub uses-append : (os ps : List Occurrence) → uses (os ++ ps) ≡ uses os ++ uses ps
  uses-append [] ps = refl
  uses-append (Occurrence.symbol u ∷ os) ps = ap (λ l. u ∷ l) (uses-append os ps)
  uses-append (Occurrence.sort s ∷ os) ps = uses-append os ps
  uses-append (Occurrence.index i ∷ os) ps = uses-append os ps

  pub uses-symbols : (vs : List Use) → uses (map Occurrence.symbol vs) ≡ vs
  uses-symbols [] = refl
  uses-symbols (v ∷ vs) = ap (λ l. v ∷ l) (uses-symbols vs)

  joined : (os ps : List Occurrence) → good (uses os) ≡ true → good (uses ps) ≡ true → good (uses (os ++ ps)) ≡ true
  joined os ps h k = ap good (uses-append os ps) ∙ good-append (uses os) (uses ps) h k

  mutual
    formula-good : (f : Formula) → good (uses (occurrences f)) ≡ true
    formula-good True = refl
    formula-good False = refl
    formula-good (Atom p ts) = and_from _ _ (use-good p (length ts) None refl) (ap good (uses-symbols (terms_uses ts)) ∙ terms-good ts)
    formula-good (Same t u) = ap good (uses-symbols (term_uses t ++ term_uses u)) ∙ good-append (term_uses t) (term_uses u) (term-good t) (term-good u)
    formula-good (Differ t u) = ap good (uses-symbols (term_uses t ++ term_uses u)) ∙ good-append (term_uses t) (term_uses u) (term-good t) (term-good u)
    formula-good (Not1 f) = formula-good f
    formula-good (And' shape fs) = formulas-good fs
    formula-good (Or' shape fs) = formulas-good fs
    formula-good (Pair2 op f g) = joined (occurrences f) (occurrences g) (formula-good f) (formula-good g)
    formula-good (Quant1 q x s f) = formula-good f
    formula-good (Modal1 m i f) = formula-good f
    formula-good (Distinct ts) = ap good (uses-symbols (terms_uses ts)) ∙ terms-good ts

    formulas-good : {m : _} (fs : Row_of-Formula m) → good (uses (row_occurrences fs)) ≡ true
    formulas-good end_of-Formula = refl
    formulas-good (more_of-Formula f fs) = joined (occurrences f) (row_occurrences fs) (formula-good f) (formulas-good fs)

  key-good : (key : SpecKey) → good (uses (key_occurrences key)) ≡ true
  key-good (Dollar word) = refl
  key-good (Name name) = refl
  key-good (Index i) = refl

  overrides-good : (os : List Override) → good (uses (override_occurrences os)) ≡ true
  overrides-good [] = refl
  overrides-good (o ∷ os) = joined (key_occurrences o.key) (override_occurrences os) (key-good o.key) (overrides-good os)

  -- each use of the statements, where all that they declare is declared among us
  pub statements-good : (ss : List Statement) → ((f : List ℕ) → is_some (type_in (declared ss) f) ≡ true → is_some (type_in us f) ≡ true) → good (uses (occurrences_in ss)) ≡ true
  statements-good [] h = refl
  statements-good (Annotated name role (IsTyping (Symbol f args gives)) ∷ ss) h =
      and_from _ _
      (or_left _ _ (h f (found (same_text f f) (record { args = args; gives = gives }) (type_in (declared ss) f) (same_text-refl f))))
      (statements-good ss (λ g k. h g (later (same_text f g) (record { args = args; gives = gives }) (type_in (declared ss) g) k)))
    where
      found : (b : Bool) (t : SymbolType) (o : Option SymbolType) → b ≡ true → is_some (if b then Some t else o) ≡ true
      found true t o e = refl
      found false t o e = absurd (true-false (sym e))

      later : (b : Bool) (t : SymbolType) (o : Option SymbolType) → is_some o ≡ true → is_some (if b then Some t else o) ≡ true
      later true t o e = refl
      later false t o e = e
  statements-good (Annotated name role (IsTyping (Sort s)) ∷ ss) h = statements-good ss h
  statements-good (Annotated name role (IsTyping IsIndividual) ∷ ss) h = statements-good ss h
  statements-good (Annotated name role (IsFormula f) ∷ ss) h = joined (occurrences f) (occurrences_in ss) (formula-good f) (statements-good ss h)
  statements-good (Annotated name role (IsLogic l) ∷ ss) h = joined (override_occurrences (override_list l.entries)) (occurrences_in ss) (overrides-good (override_list l.entries)) (statements-good ss h)
  statements-good (Include file names ∷ ss) h = statements-good ss h
