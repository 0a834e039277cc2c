-- Terms with numbers: their named forms, sorts and faults.
use Rattle.std.proofs.Common.{◌≡◌, ℕ, Bool, true, false, List, [], ◌∷◌, ◌++◌, length, Option, None, Some, refl, sym, ap, ◌∙◌, subst, arith}
use Rattle.std.specs.Prelude.{zero, suc, ◌||◌, not, map, codes, if◌then◌else◌}
use Rattle.std.specs.Option.{option_map, option_or}
use Rattle.std.proofs.lemmas.Bool.{and_parts, and_from, not-true}
use Rattle.nxf_base.specs.declared.status.SortKind.TheVariants.{FreeVariable, Mismatch}
use Rattle.nxf_tree.specs.declared.tree.Signature.{Signature}
use Rattle.nxf_tree.specs.declared.tree.SortEntry.{SortEntry}
use Rattle.nxf_tree.specs.declared.tree.SortName.{SortName}
use Rattle.nxf_tree.specs.declared.tree.SortName.TheVariants.{Individual, User}
use Rattle.nxf_tree.specs.declared.tree.Term.{Term, Var, App, Row_of-Term, end_of-Term, more_of-Term}
use Rattle.nxf_tree.specs.declared.tree.Term.TheBlock.{hidden-the_row-Term-0, items-the_row-Term, items_hidden-the_row-Term-0}
use Rattle.nxf_tree.specs.Names.{same_text}
use Rattle.nxf_tree.specs.Counting.{has, all_different}
use Rattle.nxf_tree.specs.Signature.{same_sort, sort_at, sort_names}
use Rattle.nxf_tree.specs.Sorting.{Language, Bound, bound_sort, is_sort, fit, applied_sort, have_one_sort, sort_of, modal_language, in_range}
use Rattle.nxf_tree.specs.Occurrences.{Use}
use Rattle.nxf_tree.specs.SortFaults.{SortFault, symbol_fault, argument_types, wrong_sort, free_variable, term_fault, row_fault, arguments_fault, equation_fault}
use Rattle.name_laws.proofs.Spelling.{same_text-refl, same_text-true, true-false}
use Rattle.name_laws.proofs.Firsts.{split_bool}
use Rattle.signature_laws.proofs.NoFault.{some-none, or-none, test-passes}
use Rattle.name_laws.proofs.SameNames.{same_sort-sym}
use Rattle.name_laws.proofs.SortedFormulas.{sort_of-App}
use Rattle.nxf_signatures.proofs.CallerLemmas.{row_length_is}
use Rattle.numbered_definitions.specs.declared.node.NTerm.{NTerm, Bound as Level, Row_of-NTerm, end_of-NTerm, more_of-NTerm}
use Rattle.numbered_definitions.specs.declared.node.NTerm as numbered
use Rattle.numbered_definitions.specs.declared.node.NTerm.TheBlock.{hidden-the_row-NTerm-0, items-the_row-NTerm, items_hidden-the_row-NTerm-0}
use Rattle.nxf_sorts.specs.declared.fault.Fault.{Fault}
use Rattle.numbered_definitions.specs.NamedForm.{both, variable, symbol_name, named_term, named_row, named_terms}
use Rattle.nxf_sorts.specs.steps.Scope.{Scope, found, variables, bound_in}
use Rattle.nxf_sorts.specs.steps.Numbering.{IsFault, IsGoodSignature, IsScope, Uses, argument_fault, NumbersTerm, NumbersArgument, NumbersTerms, NumbersSides}
use Rattle.nxf_sorts.proofs.UseLemmas.{fault_first, fault_is}

-- sorts with different numbers have different names
same_sort-refl : (s : SortName) → same_sort s s ≡ true
same_sort-refl Individual = refl
same_sort-refl (User a) = same_text-refl a

absent_at : (entries : List SortEntry) (s : SortName) (k : ℕ) → has same_sort s (sort_names entries) ≡ false → in_range entries k ≡ true → same_sort (sort_at entries k) s ≡ false
absent_at [] s k h r = absurd (true-false (sym r))
absent_at (e ∷ entries) s k h r = split_bool (same_sort e.name s)
    (λ is. absurd (true-false (sym (ap (λ b. b || has same_sort s (sort_names entries)) is) ∙ h)))
    (λ is. at k is (sym (ap (λ b. b || has same_sort s (sort_names entries)) is) ∙ h) r (λ j a b. absent_at entries s j a b))
  where
    at : (j : ℕ) → same_sort e.name s ≡ false → has same_sort s (sort_names entries) ≡ false → in_range (e ∷ entries) j ≡ true
        → ((i : ℕ) → has same_sort s (sort_names entries) ≡ false → in_range entries i ≡ true → same_sort (sort_at entries i) s ≡ false) → same_sort (sort_at (e ∷ entries) j) s ≡ false
    at zero is a b next = is
    at (suc j) is a b next = next j a b

pub sorts_apart : (entries : List SortEntry) (j k : ℕ) → all_different same_sort (sort_names entries) ≡ true → in_range entries j ≡ true → in_range entries k ≡ true → (j ≡ k → ⊥) → same_sort (sort_at entries j) (sort_at entries k) ≡ false
sorts_apart [] j k d r q n = absurd (true-false (sym r))
sorts_apart (e ∷ entries) zero zero d r q n = absurd (n refl)
sorts_apart (e ∷ entries) zero (suc k) d r q n =
    let parts : (not (has same_sort e.name (sort_names entries)) ≡ true) × (all_different same_sort (sort_names entries) ≡ true) = and_parts _ _ d in
    same_sort-sym e.name (sort_at entries k) ∙ absent_at entries e.name k (not-true _ parts.0) q
sorts_apart (e ∷ entries) (suc j) zero d r q n =
    let parts : (not (has same_sort e.name (sort_names entries)) ≡ true) × (all_different same_sort (sort_names entries) ≡ true) = and_parts _ _ d in
    absent_at entries e.name j (not-true _ parts.0) r
sorts_apart (e ∷ entries) (suc j) (suc k) d r q n = sorts_apart entries j k (and_parts _ _ d).1 r q (λ is. n (ap suc is))

-- levels of variables
variables_length : (bs : Scope) → length (variables bs) ≡ length bs
variables_length [] = refl
variables_length (b ∷ bs) = long (variables bs) b.0 ∙ ap suc (variables_length bs)
  where
    long : (xs : List (List ℕ)) (y : List ℕ) → length (xs ++ y ∷ []) ≡ suc (length xs)
    long [] y = refl
    long (x ∷ xs) y = ap suc (long xs y)

variable_last : (xs : List (List ℕ)) (y : List ℕ) → variable (xs ++ y ∷ []) (length xs) ≡ Some y
variable_last [] y = refl
variable_last (x ∷ xs) y = variable_last xs y

has_push : (x y : List ℕ) (xs : List (List ℕ)) → has same_text x xs ≡ false → same_text y x ≡ false → has same_text x (xs ++ y ∷ []) ≡ false
has_push x y [] h k = ap (λ b. b || false) k
has_push x y (z ∷ xs) h k = split_bool (same_text z x)
    (λ e. absurd (true-false (sym (ap (λ b. b || has same_text x xs) e) ∙ h)))
    (λ e. ap (λ b. b || has same_text x (xs ++ y ∷ [])) e ∙ has_push x y xs (sym (ap (λ b. b || has same_text x xs) e) ∙ h) k)

variable_kept : (xs : List (List ℕ)) (y : List ℕ) (k : ℕ) (z : List ℕ) → variable xs k ≡ Some z → same_text y z ≡ false → variable (xs ++ y ∷ []) k ≡ Some z
variable_kept [] y k z h e = absurd cc
variable_kept (x ∷ xs) y zero z h e = split_bool (has same_text x xs)
    (λ k. absurd (some-none z (sym (sym (ap (λ b. if b then None else Some x) k) ∙ h))))
    (λ k.
    let is : x ≡ z = own x z (sym (ap (λ b. if b then None else Some x) k) ∙ h) in
    ap (λ b. if b then None else Some x) (has_push x y xs k (ap (same_text y) is ∙ e)) ∙ ap Some is)
  where
    own : (a b : List ℕ) → ◌≡◌ {A = Option (List ℕ)} (Some a) (Some b) → a ≡ b
    own a b h = cc
variable_kept (x ∷ xs) y (suc k) z h e = variable_kept xs y k z h e

pub level_named : (bs : Scope) (x : List ℕ) (p : ℕ × ℕ) → found bs x ≡ Some p → variable (variables bs) p.0 ≡ Some x
level_named [] x p h = absurd cc
level_named (b ∷ bs) x p h = split_bool (same_text b.0 x)
    (λ e.
    let is : ◌≡◌ {A = ℕ × ℕ} (length bs, b.1) p = own (sym (ap (λ c. if c then Some (length bs, b.1) else found bs x) e) ∙ h) in
    ap (λ (q : ℕ × ℕ). variable (variables bs ++ b.0 ∷ []) q.0) (sym is)
    ∙ ap (variable (variables bs ++ b.0 ∷ [])) (sym (variables_length bs))
    ∙ variable_last (variables bs) b.0
    ∙ ap Some (same_text-true b.0 x e))
    (λ e. variable_kept (variables bs) b.0 p.0 x (level_named bs x p (sym (ap (λ c. if c then Some (length bs, b.1) else found bs x) e) ∙ h)) e)
  where
    own : {a b : ℕ × ℕ} → ◌≡◌ {A = Option (ℕ × ℕ)} (Some a) (Some b) → a ≡ b
    own h = cc

pub level_sort : (sig : Signature) (bs : Scope) (x : List ℕ) → bound_sort (bound_in sig bs) x ≡ option_map (λ (p : ℕ × ℕ). sort_at sig.sorts p.1) (found bs x)
level_sort sig [] x = refl
level_sort sig (b ∷ bs) x = by (same_text b.0 x) (level_sort sig bs x)
  where
    by : (c : Bool) → bound_sort (bound_in sig bs) x ≡ option_map (λ (p : ℕ × ℕ). sort_at sig.sorts p.1) (found bs x)
        → (if c then Some (sort_at sig.sorts b.1) else bound_sort (bound_in sig bs) x) ≡ option_map (λ (p : ℕ × ℕ). sort_at sig.sorts p.1) (if c then Some (length bs, b.1) else found bs x)
    by true h = refl
    by false h = h

level_range : (sig : Signature) (bs : Scope) (x : List ℕ) (p : ℕ × ℕ) → IsScope sig bs → found bs x ≡ Some p → in_range sig.sorts p.1 ≡ true
level_range sig [] x p s h = absurd cc
level_range sig (b ∷ bs) x p s h =
    let parts : (in_range sig.sorts b.1 ≡ true) × IsScope sig bs = and_parts _ _ s in
    by (same_text b.0 x) parts.0 (λ k. level_range sig bs x p parts.1 k) h
  where
    by : (c : Bool) → in_range sig.sorts b.1 ≡ true → (found bs x ≡ Some p → in_range sig.sorts p.1 ≡ true) → (if c then Some (length bs, b.1) else found bs x) ≡ Some p → in_range sig.sorts p.1 ≡ true
    by true r next k = let is : ◌≡◌ {A = ℕ × ℕ} (length bs, b.1) p = cc in subst (λ (q : ℕ × ℕ). in_range sig.sorts q.1 ≡ true) is r
    by false r next k = next k

module _ (sig : Signature) (us : List Use) (bs : Scope) where
  abbrev L : Language
  L = modal_language sig

  abbrev B : Bound
  B = bound_in sig bs

  pub variable_numbered : (x : List ℕ) (p : ℕ × ℕ) → IsScope sig bs → found bs x ≡ Some p → NumbersTerm sig us bs (Var x) (Level p.0) p.1
  variable_numbered x p s h =
      let sort : bound_sort B x ≡ Some (sort_at sig.sorts p.1) = level_sort sig bs x ∙ ap (option_map (λ (q : ℕ × ℕ). sort_at sig.sorts q.1)) h in
      record {
        no_fault = ap (λ o. free_variable o x) sort;
        sort = sort;
        range = level_range sig bs x p s h;
        named = ap (option_map Var) (level_named bs x p h);
      }

  pub variable_free : (x : List ℕ) → found bs x ≡ None → term_fault L us B (Var x) ≡ Some (FreeVariable, x)
  variable_free x h = ap (λ o. free_variable o x) (level_sort sig bs x ∙ ap (option_map (λ (q : ℕ × ℕ). sort_at sig.sorts q.1)) h)

-- a symbol and its arguments, by the list of these
row_faults : (L : Language) (us : List Use) (b : Bound) (f : List ℕ) {m : _} (wanted : List SortName) (ts : Row_of-Term m) → row_fault L us b f wanted ts ≡ arguments_fault L us b f wanted (items-the_row-Term _ ts)
row_faults L us b f wanted end_of-Term = refl
row_faults L us b f [] (more_of-Term t ts) = refl
row_faults L us b f (s ∷ wanted) (more_of-Term t ts) = ap (λ o. option_or (term_fault L us b t) (option_or (wrong_sort f s (sort_of L b t)) o)) (row_faults L us b f wanted ts)

pub fault_App : (L : Language) (us : List Use) (b : Bound) (f : List ℕ) (ts : List Term) → term_fault L us b (App f ts) ≡ option_or (symbol_fault L us f (length ts) true) (arguments_fault L us b f (argument_types (L.type_of f)) ts)
fault_App L us b f ts =
    let r = hidden-the_row-Term-0 ts in
    (λ i. option_or (symbol_fault L us f (row_length_is r i) true) (row_faults L us b f (argument_types (L.type_of f)) r i))
    ∙ ap (λ xs. option_or (symbol_fault L us f (length xs) true) (arguments_fault L us b f (argument_types (L.type_of f)) xs)) (items_hidden-the_row-Term-0 ts)

rows_named : (sig : Signature) (xs : List (List ℕ)) {m : _} (ns : Row_of-NTerm m) → named_row sig xs ns ≡ named_terms sig xs (items-the_row-NTerm _ ns)
rows_named sig xs end_of-NTerm = refl
rows_named sig xs (more_of-NTerm n ns) = ap (both (λ t ts. t ∷ ts) (named_term sig xs n)) (rows_named sig xs ns)

pub named_App : (sig : Signature) (xs : List (List ℕ)) (k : ℕ) (ns : List NTerm) → named_term sig xs (numbered.App k ns) ≡ both App (symbol_name sig k) (named_terms sig xs ns)
named_App sig xs k ns = ap (both App (symbol_name sig k)) (rows_named sig xs (hidden-the_row-NTerm-0 ns) ∙ ap (named_terms sig xs) (items_hidden-the_row-NTerm-0 ns))

some_is : {X : Type 0} {a b : X} → ◌≡◌ {A = Option X} (Some a) (Some b) → a ≡ b
some_is h = cc

-- one more behind all that are there
pub none_push : {X : Type 0} (t : X) (ts : List X) (o : Option X) → ◌≡◌ {A = Option (List X)} (Some []) (Some ts) → o ≡ Some t → both (λ u us. u ∷ us) o (Some []) ≡ Some (ts ++ t ∷ [])
none_push t ts o h k = ap (λ p. both (λ u us. u ∷ us) p (Some [])) k ∙ ap (λ us. Some (us ++ t ∷ [])) (some_is h)

pub both_push : {X : Type 0} (t : X) (ts : List X) (o : Option X) (p q : Option (List X)) → ((us : List X) → p ≡ Some us → q ≡ Some (us ++ t ∷ [])) → both (λ u us. u ∷ us) o p ≡ Some ts → both (λ u us. u ∷ us) o q ≡ Some (ts ++ t ∷ [])
both_push t ts None p q next e = absurd cc
both_push t ts (Some u) None q next e = absurd cc
both_push t ts (Some u) (Some us) q next e = ap (both (λ v vs. v ∷ vs) (Some u)) (next us refl) ∙ ap (λ vs. Some (vs ++ t ∷ [])) (some_is e)

-- one more argument
pub named_push : (sig : Signature) (xs : List (List ℕ)) (ns : List NTerm) (ts : List Term) (n : NTerm) (t : Term) → named_terms sig xs ns ≡ Some ts → named_term sig xs n ≡ Some t → named_terms sig xs (ns ++ n ∷ []) ≡ Some (ts ++ t ∷ [])
named_push sig xs [] ts n t h k = none_push t ts (named_term sig xs n) h k
named_push sig xs (m ∷ ns) ts n t h k = both_push t ts (named_term sig xs m) (named_terms sig xs ns) (named_terms sig xs (ns ++ n ∷ [])) (λ us e. named_push sig xs ns us n t e k) h

arguments_fit : (L : Language) (us : List Use) (b : Bound) (f : List ℕ) (wanted : List SortName) (ts : List Term) → length wanted ≡ length ts → arguments_fault L us b f wanted ts ≡ None → fit wanted (map (sort_of L b) ts) ≡ true
arguments_fit L us b f [] [] l h = refl
arguments_fit L us b f [] (t ∷ ts) l h = absurd (some-none _ h)
arguments_fit L us b f (s ∷ wanted) [] l h = absurd (omega (arith, l))
arguments_fit L us b f (s ∷ wanted) (t ∷ ts) l h =
    let first : (term_fault L us b t ≡ None) × (option_or (wrong_sort f s (sort_of L b t)) (arguments_fault L us b f wanted ts) ≡ None) = or-none _ _ h in
    let rest : (wrong_sort f s (sort_of L b t) ≡ None) × (arguments_fault L us b f wanted ts ≡ None) = or-none _ _ first.1 in
    and_from _ _ (test-passes (is_sort s (sort_of L b t)) (Mismatch, f) rest.0) (arguments_fit L us b f wanted ts (omega (arith, l)) rest.1)

map_length : {A C : Type 0} (g : A → C) (xs : List A) → length (map g xs) ≡ length xs
map_length g [] = refl
map_length g (x ∷ xs) = ap suc (map_length g xs)

module _ (sig : Signature) (us : List Use) (bs : Scope) (f : List ℕ) (ts : List Term) where
  abbrev M : Language
  M = modal_language sig

  abbrev C : Bound
  C = bound_in sig bs

  pub symbol_refused : (e : Fault) → IsFault (symbol_fault M us f (length ts) true) e → IsFault (term_fault M us C (App f ts)) e
  symbol_refused e h = fault_is _ _ e (fault_App M us C f ts) (fault_first _ _ e h)

  module _ (gives : ℕ) (k : ℕ) (args : List ℕ) (uses : Uses sig us f (length ts) (Some gives) k args) where
    types_are : argument_types (M.type_of f) ≡ map (sort_at sig.sorts) args
    types_are = ap argument_types uses.type

    fault_of_args : term_fault M us C (App f ts) ≡ arguments_fault M us C f (map (sort_at sig.sorts) args) ts
    fault_of_args = fault_App M us C f ts ∙ (λ i. option_or (uses.no_fault i) (arguments_fault M us C f (types_are i) ts))

    pub arguments_refused : (e : Fault) → IsFault (arguments_fault M us C f (map (sort_at sig.sorts) args) ts) e → IsFault (term_fault M us C (App f ts)) e
    arguments_refused e h = fault_is _ _ e fault_of_args h

    pub application_numbered : (ns : List NTerm) → NumbersTerms sig us bs f (map (sort_at sig.sorts) args) ts ns → NumbersTerm sig us bs (App f ts) (numbered.App k ns) gives
    application_numbered ns h =
        let fits : fit (map (sort_at sig.sorts) args) (map (sort_of M C) ts) ≡ true = arguments_fit M us C f (map (sort_at sig.sorts) args) ts (map_length (sort_at sig.sorts) args ∙ uses.count_is) h.no_fault in
        record {
          no_fault = fault_of_args ∙ h.no_fault;
          sort = sort_of-App M C f ts ∙ ap (λ o. applied_sort o (map (sort_of M C) ts)) uses.type ∙ ap (λ b. if b then Some (sort_at sig.sorts gives) else None) fits;
          range = uses.value_in_range;
          named = named_App sig (variables bs) k ns ∙ (λ i. both App (uses.name i) (h.named i));
        }

-- two sides of different sorts
pub sides_apart : (sig : Signature) (us : List Use) (bs : Scope) (t u : Term) (a b : NTerm) (j k : ℕ) → IsGoodSignature sig → NumbersTerm sig us bs t a j → NumbersTerm sig us bs u b k → (j ≡ k → ⊥) → equation_fault (modal_language sig) us (bound_in sig bs) t u ≡ Some (Mismatch, codes "=")
sides_apart sig us bs t u a b j k good left right n =
    (λ i. option_or (left.no_fault i) (option_or (right.no_fault i) (if have_one_sort (left.sort i) (right.sort i) then None else Some (Mismatch, codes "="))))
    ∙ ap (λ c. if c then None else Some (Mismatch, codes "=")) (sorts_apart sig.sorts j k good.different left.range right.range n)

-- two sides of one sort
pub sides_alike : (sig : Signature) (us : List Use) (bs : Scope) (t u : Term) (a b : NTerm) (j k : ℕ) → NumbersTerm sig us bs t a j → NumbersTerm sig us bs u b k → j ≡ k → NumbersSides sig us bs t u a b
sides_alike sig us bs t u a b j k left right e = record {
  no_fault =
      (λ i. option_or (left.no_fault i) (option_or (right.no_fault i) (if have_one_sort (left.sort i) (right.sort i) then None else Some (Mismatch, codes "="))))
      ∙ ap (λ l. if same_sort (sort_at sig.sorts l) (sort_at sig.sorts k) then None else Some (Mismatch, codes "=")) e
      ∙ ap (λ c. if c then None else Some (Mismatch, codes "=")) (same_sort-refl (sort_at sig.sorts k));
  left = left.named;
  right = right.named;
}

-- an argument of a symbol: its fault, another sort than the wanted one, or the wanted one
or_assoc : {X : Type 0} (a b c : Option X) → option_or a (option_or b c) ≡ option_or (option_or a b) c
or_assoc None b c = refl
or_assoc (Some x) b c = refl

module _ (sig : Signature) (us : List Use) (bs : Scope) (f : List ℕ) (wanted : ℕ) (t : Term) where
  abbrev A : Language
  A = modal_language sig

  pub argument_apart : (n : NTerm) (s : ℕ) → IsGoodSignature sig → in_range sig.sorts wanted ≡ true → NumbersTerm sig us bs t n s → (s ≡ wanted → ⊥) → argument_fault sig us bs f wanted t ≡ Some (Mismatch, f)
  argument_apart n s good r h k =
      (λ i. option_or (h.no_fault i) (wrong_sort f (sort_at sig.sorts wanted) (h.sort i)))
      ∙ ap (λ b. if b then None else Some (Mismatch, f)) (sorts_apart sig.sorts wanted s good.different r h.range (λ e. k (sym e)))

  pub argument_numbered : (n : NTerm) (s : ℕ) → NumbersTerm sig us bs t n s → s ≡ wanted → NumbersArgument sig us bs f wanted t n
  argument_numbered n s h e = record {
    no_fault =
        (λ i. option_or (h.no_fault i) (wrong_sort f (sort_at sig.sorts wanted) (h.sort i)))
        ∙ ap (λ k. wrong_sort f (sort_at sig.sorts wanted) (Some (sort_at sig.sorts k))) e
        ∙ ap (λ b. if b then None else Some (Mismatch, f)) (same_sort-refl (sort_at sig.sorts wanted));
    named = h.named;
  }

  module _ (rest : List ℕ) (ts : List Term) where
    abbrev remaining : Option SortFault
    remaining = arguments_fault A us (bound_in sig bs) f (map (sort_at sig.sorts) rest) ts

    all_faults : arguments_fault A us (bound_in sig bs) f (map (sort_at sig.sorts) (wanted ∷ rest)) (t ∷ ts) ≡ option_or (argument_fault sig us bs f wanted t) remaining
    all_faults = or_assoc (term_fault A us (bound_in sig bs) t) _ remaining

    pub refused_here : (e : Fault) → IsFault (argument_fault sig us bs f wanted t) e → IsFault (arguments_fault A us (bound_in sig bs) f (map (sort_at sig.sorts) (wanted ∷ rest)) (t ∷ ts)) e
    refused_here e h = fault_is _ _ e all_faults (fault_first _ remaining e h)

    pub fine_here : argument_fault sig us bs f wanted t ≡ None → arguments_fault A us (bound_in sig bs) f (map (sort_at sig.sorts) (wanted ∷ rest)) (t ∷ ts) ≡ remaining
    fine_here h = all_faults ∙ ap (λ o. option_or o remaining) h
