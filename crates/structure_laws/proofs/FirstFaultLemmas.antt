-- The first condition that fails is the first that `find` finds to fail.
use Rattle.std.proofs.Common.{◌≡◌, ℕ, zero, suc, ◌+◌, ◌<◌, Bool, true, false, cond, List, [], ◌∷◌, ◌++◌, length, get_or, drop, refl, sym, ap, subst, ◌∙◌, Option, None, Some, ◌↔◌, arith}
use Rattle.std.specs.Prelude.{◌&&◌, not, map, if◌then◌else◌, slice_get}
use Rattle.std.specs.List.{list_all, find}
use Rattle.std.specs.Option.{option_or, option_map}
use Rattle.std.proofs.lemmas.Bool.{and_from, and_parts, true≢false}
use Rattle.std.proofs.lemmas.List.{drop_more}
use Rattle.std.proofs.lemmas.List.Folds.{find-append, list_all-append, list_all-map}
use Rattle.nxf_tree.specs.declared.tree.Signature.{Signature}
use Rattle.nxf_tree.specs.declared.tree.IndexEntry.{IndexEntry}
use Rattle.nxf_tree.specs.declared.tree.IndexName.{IndexName}
use Rattle.nxf_tree.specs.declared.tree.SymbolEntry.{SymbolEntry}
use Rattle.nxf_tree.specs.Kripke.{KripkeModel}
use Rattle.nxf_tree.specs.declared.tree.SortEntry.{SortEntry}
use Rattle.nxf_tree.specs.declared.tree.SortName.{SortName}
use Rattle.nxf_tree.specs.declared.tree.Regime.{Regime}
use Rattle.nxf_tree.specs.declared.tree.Regime.TheVariants.{Constant, Cumulative, Decreasing, Varying}
use Rattle.nxf_tree.specs.Signature.{is_constant, constant_regime, sort_at}
use Rattle.nxf_tree.specs.WellFormed.{HasDifferentNames}
use Rattle.nxf_tree.specs.Conditions.{meets_scheme, meets_frames, meets_terms, meets_domain, meets_domains, someone_exists, everyone_exists, is_monotone}
use Rattle.classical_syntax.proofs.CallerLemmas.{is_constant-place}
use Rattle.fin_struct.specs.declared.condition.Condition.TheVariants.{Frame}
use Rattle.fin_struct.specs.FirstFault.{FailsFirst, IsFirstFailing, index_at, meets_condition, meets_term, meets_term_at, frames_from, frame_conditions, terms_from, term_conditions, regime_at, goes_along, monotone_from, sort_conditions, domains_from, domain_conditions}

-- the first that fails
abbrev pub first_failing : {X : Type 0} → (X → Bool) → List X → Option X
first_failing holds xs = find (λ x. not (holds x)) xs

found_step : {X : Type 0} (holds : X → Bool) (x : X) (xs : List X) (found : Option X) → IsFirstFailing holds xs found → (b : Bool) → holds x ≡ b → IsFirstFailing holds (x ∷ xs) (cond (not b) (Some x) found)
found_step holds x xs found rest false e = record { before = []; after = xs; parts = refl; hold = refl; fails = e }
found_step holds x xs None rest true e = and_from _ _ e rest
found_step holds x xs (Some y) rest true e = record {
  before = x ∷ rest.before;
  after = rest.after;
  parts = ap (λ more. x ∷ more) rest.parts;
  hold = and_from _ _ e rest.hold;
  fails = rest.fails;
}

pub first_found : {X : Type 0} (holds : X → Bool) (xs : List X) → IsFirstFailing holds xs (first_failing holds xs)
first_found holds [] = refl
first_found holds (x ∷ xs) = found_step holds x xs _ (first_found holds xs) (holds x) refl

none_fails : {X : Type 0} (holds : X → Bool) (xs : List X) → list_all holds xs ≡ true → first_failing holds xs ≡ None
none_fails holds [] all = refl
none_fails holds (x ∷ xs) all =
    ap (λ b. cond (not b) (Some x) (first_failing holds xs)) (and_parts (holds x) _ all).0 ∙ none_fails holds xs (and_parts (holds x) _ all).1

-- there is no other first
first_is : {X : Type 0} (holds : X → Bool) (xs : List X) (found : Option X) → IsFirstFailing holds xs found → found ≡ first_failing holds xs
first_is holds xs None all = sym (none_fails holds xs all)
first_is holds xs (Some x) first =
    sym (
    ap (first_failing holds) first.parts
    ∙ find-append (λ y. not (holds y)) first.before (x ∷ first.after)
    ∙ ap (λ o. option_or o (first_failing holds (x ∷ first.after))) (none_fails holds first.before first.hold)
    ∙ ap (λ b. cond (not b) (Some x) (first_failing holds first.after)) first.fails
    )

pub one_first : {X : Type 0} (holds : X → Bool) (xs : List X) (found other : Option X) → IsFirstFailing holds xs found → IsFirstFailing holds xs other → found ≡ other
one_first holds xs found other h k = first_is holds xs found h ∙ sym (first_is holds xs other k)

-- where one fails, not all hold
some_fails : {X : Type 0} (holds : X → Bool) (xs : List X) (x : X) → FailsFirst holds xs x → list_all holds xs ≡ true → ⊥
some_fails holds xs x first all =
    let whole : list_all holds first.before && list_all holds (x ∷ first.after) ≡ true =
    sym (list_all-append holds first.before (x ∷ first.after)) ∙ ap (list_all holds) (sym first.parts) ∙ all in
    let here : holds x && list_all holds first.after ≡ true = (and_parts (list_all holds first.before) _ whole).1 in
    true≢false (sym (and_parts (holds x) (list_all holds first.after) here).0 ∙ first.fails)

-- there is none exactly where all hold
pub none_exactly : {X : Type 0} (holds : X → Bool) (xs : List X) (found : Option X) → IsFirstFailing holds xs found → (found ≡ None) ↔ (list_all holds xs ≡ true)
none_exactly holds xs None all = (λ e. all, λ e. refl)
none_exactly {X} holds xs (Some x) first = (λ e. absurd (some_none x e), λ all. absurd (some_fails holds xs x first all))
  where
    some_none : (y : X) → Some y ≡ None → ⊥
    some_none y e = cc

-- what the first that `find` finds tells
pub first_told : {X : Type 0} (holds : X → Bool) (xs : List X) (found : Option X) → first_failing holds xs ≡ found → IsFirstFailing holds xs found
first_told {X} holds xs found e = let P : Option X → Type 0 = IsFirstFailing holds xs in subst P e (first_found holds xs)

pub none_told : {X : Type 0} (holds : X → Bool) (xs : List X) (found : Option X) (all : Bool) → list_all holds xs ≡ all → first_failing holds xs ≡ found → (found ≡ None) ↔ (all ≡ true)
none_told holds xs found all is e =
    let exactly = none_exactly holds xs found (first_told holds xs found e) in
    (λ none. sym is ∙ exactly.0 none, λ t. exactly.1 (is ∙ t))

-- a list in two parts
pub front_holds : {X : Type 0} (holds : X → Bool) (xs ys : List X) → first_failing holds xs ≡ None → first_failing holds (xs ++ ys) ≡ first_failing holds ys
front_holds holds xs ys e = find-append (λ y. not (holds y)) xs ys ∙ ap (λ o. option_or o (first_failing holds ys)) e

pub front_fails : {X : Type 0} (holds : X → Bool) (xs ys : List X) (x : X) → first_failing holds xs ≡ Some x → first_failing holds (xs ++ ys) ≡ Some x
front_fails holds xs ys x e = find-append (λ y. not (holds y)) xs ys ∙ ap (λ o. option_or o (first_failing holds ys)) e

-- a loop over a list finds the first that fails: what is left after one that holds, and one that fails
pub first-holds : {X : Type 0} (holds : X → Bool) (x : X) (xs : List X) → holds x ≡ true → first_failing holds (x ∷ xs) ≡ first_failing holds xs
first-holds holds x xs e = ap (λ b. cond (not b) (Some x) (first_failing holds xs)) e

pub first-fails : {X : Type 0} (holds : X → Bool) (x : X) (xs : List X) → holds x ≡ false → first_failing holds (x ∷ xs) ≡ Some x
first-fails holds x xs e = ap (λ b. cond (not b) (Some x) (first_failing holds xs)) e

pub drop-read : {X : Type 0} (xs : List X) (i : ℕ) (x : X) → i < length xs → x ≡ get_or xs i x → drop i xs ≡ x ∷ drop (i + 1) xs
drop-read xs i x below is = drop_more xs i x below ∙ ap (λ y. y ∷ drop (i + 1) xs) (sym is)

-- under another name
first-step : {X Y : Type 0} (f : X → Y) (x : X) (found : Option Y) (other : Option X) → found ≡ option_map f other → (b : Bool) → cond (not b) (Some (f x)) found ≡ option_map f (cond (not b) (Some x) other)
first-step f x found other e true = e
first-step f x found other e false = refl

pub first-map : {X Y : Type 0} (holds : Y → Bool) (f : X → Y) (xs : List X) → first_failing holds (map f xs) ≡ option_map f (first_failing (λ x. holds (f x)) xs)
first-map holds f [] = refl
first-map holds f (x ∷ xs) = first-step f x _ _ (first-map holds f xs) (holds (f x))

-- the name of an index under its number
pub index_at-place : (entries : List IndexEntry) (i : ℕ) (entry : IndexEntry) → slice_get entries i ≡ Some entry → index_at entries i ≡ entry.name
index_at-place [] i entry e = absurd cc
index_at-place (first ∷ entries) zero entry e = ap (λ (x : IndexEntry). x.name) (some first entry e)
  where
    some : (a b : IndexEntry) → Some a ≡ Some b → a ≡ b
    some a b e = cc
index_at-place (first ∷ entries) (suc i) entry e = index_at-place entries i entry e

-- the regime of a sort under its number
pub regime_at-place : (entries : List SortEntry) (s : ℕ) (entry : SortEntry) → slice_get entries s ≡ Some entry → regime_at entries s ≡ entry.regime
regime_at-place [] s entry e = absurd cc
regime_at-place (first ∷ entries) zero entry e = ap (λ (x : SortEntry). x.regime) (some first entry e)
  where
    some : (a b : SortEntry) → Some a ≡ Some b → a ≡ b
    some a b e = cc
regime_at-place (first ∷ entries) (suc s) entry e = regime_at-place entries s entry e

-- each condition of the frames
frames-all : (sig : Signature) (K : KripkeModel) (i : ℕ) (entries : List IndexEntry) → ((k : ℕ) → index_at entries k ≡ index_at sig.indexes (i + k))
    → list_all (meets_condition sig K) (frames_from i entries) ≡ list_all (λ entry. list_all (λ scheme. meets_scheme scheme K.worlds (K.related entry.name)) entry.schemes) entries
frames-all sig K i [] h = refl
frames-all sig K i (entry ∷ entries) h =
    let name : index_at sig.indexes i ≡ entry.name = ap (index_at sig.indexes) (omega arith) ∙ sym (h 0) in
    let here : list_all (meets_condition sig K) (map (Frame i) entry.schemes) ≡ list_all (λ scheme. meets_scheme scheme K.worlds (K.related entry.name)) entry.schemes =
    list_all-map (meets_condition sig K) (Frame i) entry.schemes
    ∙ ap (λ (n : IndexName). list_all (λ scheme. meets_scheme scheme K.worlds (K.related n)) entry.schemes) name in
    let rest = frames-all sig K (suc i) entries (λ k. h (suc k) ∙ ap (index_at sig.indexes) (omega arith)) in
    list_all-append (meets_condition sig K) (map (Frame i) entry.schemes) (frames_from (suc i) entries) ∙ (λ j. here j && rest j)

pub frame_conditions-all : (sig : Signature) (K : KripkeModel) → list_all (meets_condition sig K) (frame_conditions sig) ≡ meets_frames sig K
frame_conditions-all sig K = frames-all sig K 0 sig.indexes (λ k. ap (index_at sig.indexes) (omega arith))

-- each condition of the sorts
monotone-all : (sig : Signature) (K : KripkeModel) (s i : ℕ) (regime : Regime) (name : SortName) (entries : List IndexEntry) → regime_at sig.sorts s ≡ regime → sort_at sig.sorts s ≡ name → ((k : ℕ) → index_at entries k ≡ index_at sig.indexes (i + k))
    → list_all (meets_condition sig K) (monotone_from s i entries) ≡ list_all (λ entry. goes_along K regime name entry.name) entries
monotone-all sig K s i regime name [] r n h = refl
monotone-all sig K s i regime name (entry ∷ entries) r n h =
    let index : index_at sig.indexes i ≡ entry.name = ap (index_at sig.indexes) (omega arith) ∙ sym (h 0) in
    let rest = monotone-all sig K s (suc i) regime name entries r n (λ k. h (suc k) ∙ ap (index_at sig.indexes) (omega arith)) in
    λ j. goes_along K (r j) (n j) (index j) && rest j

sort-all : (sig : Signature) (K : KripkeModel) (s : ℕ) (name : SortName) (regime : Regime) → regime_at sig.sorts s ≡ regime → sort_at sig.sorts s ≡ name
    → list_all (meets_condition sig K) (sort_conditions sig.indexes s regime)
    ≡ (if constant_regime regime then true
    else someone_exists K.worlds (K.size name) (K.present name) && (everyone_exists K.worlds (K.size name) (K.present name) && is_monotone K sig.indexes name regime))
sort-all sig K s name Constant r n = refl
sort-all sig K s name Cumulative r n =
    λ j. someone_exists K.worlds (K.size (n j)) (K.present (n j)) && (everyone_exists K.worlds (K.size (n j)) (K.present (n j)) && monotone-all sig K s 0 Cumulative name sig.indexes r n (λ k. ap (index_at sig.indexes) (omega arith)) j)
sort-all sig K s name Decreasing r n =
    λ j. someone_exists K.worlds (K.size (n j)) (K.present (n j)) && (everyone_exists K.worlds (K.size (n j)) (K.present (n j)) && monotone-all sig K s 0 Decreasing name sig.indexes r n (λ k. ap (index_at sig.indexes) (omega arith)) j)
sort-all sig K s name Varying r n =
    λ j. someone_exists K.worlds (K.size (n j)) (K.present (n j)) && (everyone_exists K.worlds (K.size (n j)) (K.present (n j)) && true)

-- the entries from a place on
pub record FromPlace (sig : Signature) (s : ℕ) (entries : List SortEntry) : Type 0 where
  pub regimes : (k : ℕ) → regime_at entries k ≡ regime_at sig.sorts (s + k)
  pub names : (k : ℕ) → sort_at entries k ≡ sort_at sig.sorts (s + k)
  pub places : (k : ℕ) (entry : SortEntry) → slice_get entries k ≡ Some entry → slice_get sig.sorts (s + k) ≡ Some entry

domains-all : (sig : Signature) (K : KripkeModel) → HasDifferentNames sig → (s : ℕ) (entries : List SortEntry) → FromPlace sig s entries
    → list_all (meets_condition sig K) (domains_from sig.indexes s entries) ≡ list_all (meets_domain sig K) entries
domains-all sig K d s [] h = refl
domains-all sig K d s (entry ∷ entries) h =
    let regime : regime_at sig.sorts s ≡ entry.regime = ap (regime_at sig.sorts) (omega arith) ∙ sym (h.regimes 0) in
    let name : sort_at sig.sorts s ≡ entry.name = ap (sort_at sig.sorts) (omega arith) ∙ sym (h.names 0) in
    let constant : is_constant sig entry.name ≡ constant_regime entry.regime = is_constant-place sig d (s + 0) entry (h.places 0 entry refl) in
    let holds : Bool = someone_exists K.worlds (K.size entry.name) (K.present entry.name) && (everyone_exists K.worlds (K.size entry.name) (K.present entry.name) && is_monotone K sig.indexes entry.name entry.regime) in
    let here : list_all (meets_condition sig K) (sort_conditions sig.indexes s entry.regime) ≡ meets_domain sig K entry =
    sort-all sig K s entry.name entry.regime regime name ∙ ap (λ b. if b then true else holds) (sym constant) in
    let rest = domains-all sig K d (suc s) entries (record {
      regimes = λ k. h.regimes (suc k) ∙ ap (regime_at sig.sorts) (omega arith);
      names = λ k. h.names (suc k) ∙ ap (sort_at sig.sorts) (omega arith);
      places = λ k found at. ap (slice_get sig.sorts) (omega arith) ∙ h.places (suc k) found at;
    }) in
    list_all-append (meets_condition sig K) (sort_conditions sig.indexes s entry.regime) (domains_from sig.indexes (suc s) entries) ∙ (λ j. here j && rest j)

pub domain_conditions-all : (sig : Signature) (K : KripkeModel) → HasDifferentNames sig → list_all (meets_condition sig K) (domain_conditions sig) ≡ meets_domains sig K
domain_conditions-all sig K d = domains-all sig K d 0 sig.sorts (record {
  regimes = λ k. ap (regime_at sig.sorts) (omega arith);
  names = λ k. ap (sort_at sig.sorts) (omega arith);
  places = λ k entry at. ap (slice_get sig.sorts) (omega arith) ∙ at;
})

-- each condition of the symbols
terms-all : (sig : Signature) (K : KripkeModel) (f : ℕ) (entries : List SymbolEntry) → ((k : ℕ) → meets_term_at sig K entries k ≡ meets_term_at sig K sig.symbols (f + k))
    → list_all (meets_condition sig K) (terms_from f entries) ≡ list_all (meets_term sig K) entries
terms-all sig K f [] h = refl
terms-all sig K f (entry ∷ entries) h =
    let here : meets_term_at sig K sig.symbols f ≡ meets_term sig K entry = ap (meets_term_at sig K sig.symbols) (omega arith) ∙ sym (h 0) in
    let rest = terms-all sig K (suc f) entries (λ k. h (suc k) ∙ ap (meets_term_at sig K sig.symbols) (omega arith)) in
    λ j. here j && rest j

pub term_conditions-all : (sig : Signature) (K : KripkeModel) → list_all (meets_condition sig K) (term_conditions sig) ≡ meets_terms sig K
term_conditions-all sig K = terms-all sig K 0 sig.symbols (λ k. ap (meets_term_at sig K sig.symbols) (omega arith))
