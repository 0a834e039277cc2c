-- No symbol of a file without a fault has the name of a sort.
use Rattle.std.proofs.Common.{◌≡◌, ℕ, suc, Bool, true, false, List, [], ◌∷◌, ◌++◌, refl, sym, ap, ◌∙◌}
use Rattle.std.specs.Prelude.{◌||◌, not, if◌then◌else◌, map, length, Option, None, Some, is_some}
use Rattle.std.specs.Option.{option_or, option_map}
use Rattle.std.specs.List.{list_all}
use Rattle.std.proofs.lemmas.Bool.{and_from, and_parts}
use Rattle.std.proofs.lemmas.List.{append-nil, append_assoc}
use Rattle.std.proofs.lemmas.List.Folds.{list_all-append}
use Rattle.nxf_base.specs.declared.status.SortKind.TheVariants.{DoubleName}
use Rattle.nxf_tree.specs.declared.tree.SortName.{SortName}
use Rattle.nxf_tree.specs.declared.tree.SortName.TheVariants.{User}
use Rattle.nxf_tree.specs.declared.tree.SpecKey.{SpecKey}
use Rattle.nxf_tree.specs.declared.tree.SpecKey.TheVariants.{Dollar, Name, Index}
use Rattle.nxf_tree.specs.declared.tree.Override.{Override}
use Rattle.nxf_tree.specs.declared.tree.Typing.TheVariants.{Individual as IsIndividual, Sort, Symbol}
use Rattle.nxf_tree.specs.declared.tree.Body.TheVariants.{Formula as IsFormula, Typing as IsTyping, Logic as IsLogic}
use Rattle.nxf_tree.specs.declared.tree.Statement.{Statement}
use Rattle.nxf_tree.specs.declared.tree.Statement.TheVariants.{Annotated, Include}
use Rattle.nxf_tree.specs.declared.tree.Term.{Term, Var, App', Row_of-Term, end_of-Term, more_of-Term}
use Rattle.nxf_tree.specs.declared.tree.Formula.{Formula, True, False, Atom, Same, Differ, And', Or', Distinct, Row_of-Formula, end_of-Formula, more_of-Formula}
use Rattle.nxf_tree.specs.Shapes.{Not1, Pair2, Quant1, Modal1}
use Rattle.nxf_tree.specs.Names.{same_text}
use Rattle.nxf_tree.specs.Counting.{has}
use Rattle.nxf_tree.specs.Signature.{same_sort}
use Rattle.nxf_tree.specs.Faults.{first_fault}
use Rattle.nxf_tree.specs.Sorting.{SymbolType, Language, Bound, sort_of}
use Rattle.nxf_tree.specs.Specification.{override_list}
use Rattle.nxf_tree.specs.Occurrences.{Use, Occurrence, row_length, term_uses, row_uses, terms_uses, occurrences, row_occurrences, key_occurrences, override_occurrences, occurrences_in, uses, declared, declared_sorts}
use Rattle.nxf_tree.specs.SignatureOf.{type_in}
use Rattle.nxf_tree.specs.SortFaults.{SortFault, unknown_sort, symbol_fault, argument_types, wrong_sort, term_fault, row_fault, arguments_fault, equation_fault, formula_fault, formulas_fault, formula_statement_fault, type_statement_fault}
use Rattle.name_laws.proofs.Spelling.{true-false, same_text-true, same_text-refl, never}
use Rattle.signature_laws.proofs.NoFault.{some-none, or-none, map-none}
use Rattle.name_laws.proofs.Appended.{declared-append}
use Rattle.signature_laws.proofs.Declared.{uses-append, uses-symbols}
use Rattle.name_laws.proofs.GoodSymbols.{has-append}

-- where a test is a fault, it fails
test-fails : {A : Type 0} (b : Bool) (x : A) (o : Option A) → (if b then Some x else o) ≡ None → (b ≡ false) × (o ≡ None)
test-fails true x o h = absurd (some-none x h)
test-fails false x o h = (refl, h)

module _ (L : Language) (us : List Use) where
  abbrev pub is_apart : Use → Bool
  is_apart u = not (L.knows_sort (User u.name))

  abbrev pub apart : List Use → Bool
  apart = list_all is_apart

  symbol-apart : (f : List ℕ) (count : ℕ) (function : Bool) → symbol_fault L us f count function ≡ None → not (L.knows_sort (User f)) ≡ true
  symbol-apart f count function h = ap not (test-fails (L.knows_sort (User f)) (DoubleName, f) _ h).0

  both-apart : (a b : List Use) → apart a ≡ true → apart b ≡ true → apart (a ++ b) ≡ true
  both-apart a b h k = list_all-append is_apart a b ∙ and_from _ _ h k

  mutual
    term-apart : (t : Term) (b : Bound) → term_fault L us b t ≡ None → apart (term_uses t) ≡ true
    term-apart (Var x) b h = refl
    term-apart (App' f shape ts) b h =
        let parts : (symbol_fault L us f (row_length ts) true ≡ None) × (row_fault L us b f (argument_types (L.type_of f)) ts ≡ None) = or-none _ _ h in
        and_from _ _ (symbol-apart f (row_length ts) true parts.0) (row-apart ts b f (argument_types (L.type_of f)) parts.1)

    row-apart : {m : _} (ts : Row_of-Term m) (b : Bound) (f : List ℕ) (wanted : List SortName) → row_fault L us b f wanted ts ≡ None → apart (row_uses ts) ≡ true
    row-apart end_of-Term b f wanted h = refl
    row-apart (more_of-Term t ts) b f [] h = absurd (some-none _ h)
    row-apart (more_of-Term t ts) b f (s ∷ wanted) h =
        let first : (term_fault L us b t ≡ None) × (option_or (wrong_sort f s (sort_of L b t)) (row_fault L us b f wanted ts) ≡ None) = or-none _ _ h in
        both-apart (term_uses t) (row_uses ts) (term-apart t b first.0) (row-apart ts b f wanted (or-none (wrong_sort f s (sort_of L b t)) _ first.1).1)

  terms-apart : (ts : List Term) (b : Bound) (f : List ℕ) (wanted : List SortName) → arguments_fault L us b f wanted ts ≡ None → apart (terms_uses ts) ≡ true
  terms-apart [] b f wanted h = refl
  terms-apart (t ∷ ts) b f [] h = absurd (some-none _ h)
  terms-apart (t ∷ ts) b f (s ∷ wanted) h =
      let first : (term_fault L us b t ≡ None) × (option_or (wrong_sort f s (sort_of L b t)) (arguments_fault L us b f wanted ts) ≡ None) = or-none _ _ h in
      both-apart (term_uses t) (terms_uses ts) (term-apart t b first.0) (terms-apart ts b f wanted (or-none (wrong_sort f s (sort_of L b t)) _ first.1).1)

  symbols-apart : (vs : List Use) → apart vs ≡ true → apart (uses (map Occurrence.symbol vs)) ≡ true
  symbols-apart vs h = ap apart (uses-symbols us vs) ∙ h

  equation-apart : (t u : Term) (b : Bound) → equation_fault L us b t u ≡ None → apart (uses (map Occurrence.symbol (term_uses t ++ term_uses u))) ≡ true
  equation-apart t u b h =
      let first : (term_fault L us b t ≡ None) × (option_or (term_fault L us b u) _ ≡ None) = or-none _ _ h in
      symbols-apart (term_uses t ++ term_uses u) (both-apart (term_uses t) (term_uses u) (term-apart t b first.0) (term-apart u b (or-none (term_fault L us b u) _ first.1).0))

  joined-apart : (os ps : List Occurrence) → apart (uses os) ≡ true → apart (uses ps) ≡ true → apart (uses (os ++ ps)) ≡ true
  joined-apart os ps h k = ap apart (uses-append us os ps) ∙ both-apart (uses os) (uses ps) h k

  mutual
    formula-apart : (f : Formula) (b : Bound) → formula_fault L us b f ≡ None → apart (uses (occurrences f)) ≡ true
    formula-apart True b h = refl
    formula-apart False b h = refl
    formula-apart (Atom p ts) b h =
        let parts : (symbol_fault L us p (length ts) false ≡ None) × (arguments_fault L us b p (argument_types (L.type_of p)) ts ≡ None) = or-none _ _ h in
        and_from _ _ (symbol-apart p (length ts) false parts.0) (symbols-apart (terms_uses ts) (terms-apart ts b p (argument_types (L.type_of p)) parts.1))
    formula-apart (Same t u) b h = equation-apart t u b h
    formula-apart (Differ t u) b h = equation-apart t u b h
    formula-apart (Not1 f) b h = formula-apart f b h
    formula-apart (And' shape fs) b h = formulas-apart fs b h
    formula-apart (Or' shape fs) b h = formulas-apart fs b h
    formula-apart (Pair2 op f g) b h =
        let parts : (formula_fault L us b f ≡ None) × (formula_fault L us b g ≡ None) = or-none _ _ h in
        joined-apart (occurrences f) (occurrences g) (formula-apart f b parts.0) (formula-apart g b parts.1)
    formula-apart (Quant1 q x s f) b h = formula-apart f ((x, s) ∷ b) (or-none (unknown_sort L s) _ h).1
    formula-apart (Modal1 m i f) b h = formula-apart f b h
    formula-apart (Distinct ts) b h = absurd (some-none _ h)

    formulas-apart : {m : _} (fs : Row_of-Formula m) (b : Bound) → formulas_fault L us b fs ≡ None → apart (uses (row_occurrences fs)) ≡ true
    formulas-apart end_of-Formula b h = refl
    formulas-apart (more_of-Formula f fs) b h =
        let parts : (formula_fault L us b f ≡ None) × (formulas_fault L us b fs ≡ None) = or-none _ _ h in
        joined-apart (occurrences f) (row_occurrences fs) (formula-apart f b parts.0) (formulas-apart fs b parts.1)

  key-apart : (key : SpecKey) → apart (uses (key_occurrences key)) ≡ true
  key-apart (Dollar word) = refl
  key-apart (Name name) = refl
  key-apart (Index i) = refl

  overrides-apart : (os : List Override) → apart (uses (override_occurrences os)) ≡ true
  overrides-apart [] = refl
  overrides-apart (o ∷ os) = joined-apart (key_occurrences o.key) (override_occurrences os) (key-apart o.key) (overrides-apart os)

  -- each use of the statements, where the declared symbols are apart
  pub statements-apart : (k : ℕ) (before ss : List Statement) → first_fault (λ earlier s. formula_statement_fault L us s) k before ss ≡ None → apart (declared ss) ≡ true → apart (uses (occurrences_in ss)) ≡ true
  statements-apart k before [] h d = refl
  statements-apart k before (Annotated name role (IsTyping (Symbol f args gives)) ∷ ss) h d =
      let ds : (not (L.knows_sort (User f)) ≡ true) × (apart (declared ss) ≡ true) = and_parts _ _ d in
      and_from _ _ ds.0 (statements-apart (suc k) (before ++ Annotated name role (IsTyping (Symbol f args gives)) ∷ []) ss h ds.1)
  statements-apart k before (Annotated name role (IsTyping (Sort s)) ∷ ss) h d = statements-apart (suc k) (before ++ Annotated name role (IsTyping (Sort s)) ∷ []) ss h d
  statements-apart k before (Annotated name role (IsTyping IsIndividual) ∷ ss) h d = statements-apart (suc k) (before ++ Annotated name role (IsTyping IsIndividual) ∷ []) ss h d
  statements-apart k before (Annotated name role (IsFormula f) ∷ ss) h d =
      let s : Statement = Annotated name role (IsFormula f) in
      let parts : (option_map (λ fault. (k, fault)) (formula_statement_fault L us s) ≡ None) × (first_fault (λ earlier t. formula_statement_fault L us t) (suc k) (before ++ s ∷ []) ss ≡ None) = or-none _ _ h in
      joined-apart (occurrences f) (occurrences_in ss) (formula-apart f [] (map-none _ _ parts.0)) (statements-apart (suc k) (before ++ s ∷ []) ss parts.1 d)
  statements-apart k before (Annotated name role (IsLogic l) ∷ ss) h d =
      joined-apart (override_occurrences (override_list l.entries)) (occurrences_in ss) (overrides-apart (override_list l.entries)) (statements-apart (suc k) (before ++ Annotated name role (IsLogic l) ∷ []) ss h d)
  statements-apart k before (Include file names ∷ ss) h d = statements-apart (suc k) (before ++ Include file names ∷ []) ss h d

-- the declared symbols have other names than the declared sorts
abbrev pub no_sort : List SortName → Use → Bool
no_sort rs u = not (has same_sort (User u.name) rs)

abbrev pub disjoint : List Use → List SortName → Bool
disjoint us rs = list_all (no_sort rs) us

sorts-append : (ss ts : List Statement) → declared_sorts (ss ++ ts) ≡ declared_sorts ss ++ declared_sorts ts
sorts-append [] ts = refl
sorts-append (Annotated name role (IsTyping (Sort s)) ∷ ss) ts = ap (λ l. User s ∷ l) (sorts-append ss ts)
sorts-append (Annotated name role (IsTyping (Symbol f args gives)) ∷ ss) ts = sorts-append ss ts
sorts-append (Annotated name role (IsTyping IsIndividual) ∷ ss) ts = sorts-append ss ts
sorts-append (Annotated name role (IsFormula f) ∷ ss) ts = sorts-append ss ts
sorts-append (Annotated name role (IsLogic l) ∷ ss) ts = sorts-append ss ts
sorts-append (Include file names ∷ ss) ts = sorts-append ss ts

one-more-sort : (r : List ℕ) (us : List Use) (rs : List SortName) → type_in us r ≡ None → disjoint us rs ≡ true → disjoint us (rs ++ User r ∷ []) ≡ true
one-more-sort r [] rs none d = refl
one-more-sort r (u ∷ us) rs none d =
    let ds : (not (has same_sort (User u.name) rs) ≡ true) × (disjoint us rs ≡ true) = and_parts _ _ d in
    let other : same_text u.name r ≡ false = never _ (λ e. some-none u.type (sym (rw e refl) ∙ none)) in
    let turned : same_text r u.name ≡ false = never _ (λ e. true-false (sym (ap (λ z. same_text z r) (sym (same_text-true r u.name e)) ∙ same_text-refl r) ∙ other)) in
    and_from _ _
    (ap not (has-append same_sort (User u.name) rs (User r ∷ [])) ∙ neither (has same_sort (User u.name) rs) (same_text r u.name || false) ds.0 (ap (λ b. not (b || false)) turned))
    (one-more-sort r us rs (sym (rw other refl) ∙ none) ds.1)
  where
    neither : (a b : Bool) → not a ≡ true → not b ≡ true → not (a || b) ≡ true
    neither true b p q = p
    neither false b p q = q

module _ (L : Language) where
  -- a step over a statement
  stepped : (before : List Statement) (s : Statement) → type_statement_fault L before s ≡ None → disjoint (declared before) (declared_sorts before) ≡ true → disjoint (declared before ++ declared (s ∷ [])) (declared_sorts before ++ declared_sorts (s ∷ [])) ≡ true
  stepped before (Annotated name role (IsTyping (Symbol g args gives))) h d =
      let own : not (has same_sort (User g) (declared_sorts before)) ≡ true = ap not (test-fails (has same_sort (User g) (declared_sorts before)) (DoubleName, g) _ h).0 in
      ap (disjoint (declared before ++ record { name = g; type = record { args = args; gives = gives } } ∷ [])) (append-nil (declared_sorts before))
      ∙ (list_all-append (no_sort (declared_sorts before)) (declared before) _ ∙ and_from _ _ d (and_from _ _ own refl))
  stepped before (Annotated name role (IsTyping (Sort r))) h d =
      ap (λ l. disjoint l (declared_sorts before ++ User r ∷ [])) (append-nil (declared before))
      ∙ one-more-sort r (declared before) (declared_sorts before) (none-there (type_in (declared before) r) (DoubleName, r) h) d
    where
      none-there : (o : Option SymbolType) (x : SortFault) → (if is_some o then Some x else None) ≡ None → o ≡ None
      none-there None x e = refl
      none-there (Some t) x e = absurd (some-none x e)
  stepped before (Annotated name role (IsTyping IsIndividual)) h d = (λ i. disjoint (append-nil (declared before) i) (append-nil (declared_sorts before) i)) ∙ d
  stepped before (Annotated name role (IsFormula f)) h d = (λ i. disjoint (append-nil (declared before) i) (append-nil (declared_sorts before) i)) ∙ d
  stepped before (Annotated name role (IsLogic l)) h d = (λ i. disjoint (append-nil (declared before) i) (append-nil (declared_sorts before) i)) ∙ d
  stepped before (Include file names) h d = (λ i. disjoint (append-nil (declared before) i) (append-nil (declared_sorts before) i)) ∙ d

  pub walked : (k : ℕ) (before ss : List Statement) → first_fault (type_statement_fault L) k before ss ≡ None → disjoint (declared before) (declared_sorts before) ≡ true → disjoint (declared (before ++ ss)) (declared_sorts (before ++ ss)) ≡ true
  walked k before [] h d = (λ i. disjoint (declared (append-nil before i)) (declared_sorts (append-nil before i))) ∙ d
  walked k before (s ∷ ss) h d =
      let parts : (option_map (λ fault. (k, fault)) (type_statement_fault L before s) ≡ None) × (first_fault (type_statement_fault L) (suc k) (before ++ s ∷ []) ss ≡ None) = or-none _ _ h in
      (λ i. disjoint (declared (sym (append_assoc before (s ∷ []) ss) i)) (declared_sorts (sym (append_assoc before (s ∷ []) ss) i)))
      ∙ walked (suc k) (before ++ s ∷ []) ss parts.1
      ((λ i. disjoint (declared-append before (s ∷ []) i) (sorts-append before (s ∷ []) i)) ∙ stepped before s (map-none _ _ parts.0) d)
