-- The first fault of the domains, sort by sort.
use Rattle.std.proofs.Common.{◌≡◌, ℕ, zero, suc, ◌+◌, ◌<◌, Bool, true, false, cond, List, [], ◌∷◌, length, get_or, drop, refl, sym, ap, ◌∙◌, add-one, arith, None, Some}
use Rattle.std.specs.Prelude.{◌&&◌, not, slice_get}
use Rattle.std.proofs.lemmas.Option.{slice_get_read}
use Rattle.nxf_tree.specs.declared.tree.Signature.{Signature}
use Rattle.nxf_tree.specs.declared.tree.SortEntry.{SortEntry}
use Rattle.nxf_tree.specs.declared.tree.IndexEntry.{IndexEntry}
use Rattle.nxf_tree.specs.declared.tree.Regime.{Regime}
use Rattle.nxf_tree.specs.declared.tree.Regime.TheVariants.{Constant, Cumulative, Decreasing, Varying}
use Rattle.nxf_tree.specs.Counting.{all_below, implies}
use Rattle.nxf_tree.specs.Rows.{size_at}
use Rattle.nxf_tree.specs.Conditions.{someone_exists, everyone_exists, stay, were_there}
use Rattle.nxf_tree.specs.Kripke.{KripkeModel}
use Rattle.nxf_tree.specs.Structures.{kripke_model}
use Rattle.nxf_tree.specs.WellFormed.{HasDifferentNames}
use Rattle.classical_syntax.proofs.CallerLemmas.{sort_at-place}
use Rattle.fin_struct.specs.declared.condition.Condition.{Condition}
use Rattle.fin_struct.specs.declared.condition.Condition.TheVariants.{Empty, Union, Monotone}
use Rattle.fin_struct.specs.FirstFault.{goes_along, meets_condition, monotone_from, sort_conditions, domains_from}
use Rattle.fin_struct.specs.KripkeTables.{KripkeTables, IsKripke, IsKripkeFor, related_in, exists_in, kripke_structure}
use Rattle.structure_laws.specs.KripkeLaws.{ReadsByName}
use Rattle.structure_laws.proofs.Counted.{all_same, any_same, all_pass, all_implies, implies_any}
use Rattle.structure_laws.proofs.FirstFaultLemmas.{first_failing, front_holds, front_fails, first-holds, first-fails, drop-read, index_at-place, regime_at-place}
use Rattle.structure_laws.proofs.KripkeNames.{names-law}
use Rattle.domains.specs.steps.WorldTests.{goes_along_in, meets_in}

-- whether the structure's model meets a condition
abbrev pub holds_in : Signature → KripkeTables → Condition → Bool
holds_in sig view = meets_condition sig (kripke_model sig (kripke_structure view))

-- the conditions speak of the worlds and of the elements of the sort alone
someone-same : (n m : ℕ) (P Q : ℕ → ℕ → Bool) → ((w a : ℕ) → w < n → a < m → P w a ≡ Q w a) → someone_exists n m P ≡ someone_exists n m Q
someone-same n m P Q h = all_same n _ _ (λ w x. any_same m _ _ (λ a y. h w a x y))

everyone-same : (n m : ℕ) (P Q : ℕ → ℕ → Bool) → ((w a : ℕ) → w < n → a < m → P w a ≡ Q w a) → everyone_exists n m P ≡ everyone_exists n m Q
everyone-same n m P Q h = all_same m _ _ (λ a y. any_same n _ _ (λ w x. h w a x y))

-- the same relation and the same existence
pub record AreSame (n m : ℕ) (R S P Q : ℕ → ℕ → Bool) : Type 0 where
  pub related : (w v : ℕ) → w < n → v < n → R w v ≡ S w v
  pub present : (w a : ℕ) → w < n → a < m → P w a ≡ Q w a

-- step by step, and of the same
stay-steps : (n m : ℕ) (R S P Q : ℕ → ℕ → Bool) → AreSame n m R S P Q → stay n m R P ≡ all_below n (λ w. all_below n (λ v. implies (S w v) (all_below m (λ a. implies (Q w a) (Q v a)))))
stay-steps n m R S P Q h =
    all_same n _ _ (λ w x. all_same n _ _ (λ v y. all_same m _ _ (λ a z i. implies (h.related w v x y i && h.present w a x z i) (h.present v a y z i)) ∙ all_implies m (S w v) (λ a. Q w a) (λ a. Q v a)))

were_there-steps : (n m : ℕ) (R S P Q : ℕ → ℕ → Bool) → AreSame n m R S P Q → were_there n m R P ≡ all_below n (λ w. all_below n (λ v. implies (S w v) (all_below m (λ a. implies (Q v a) (Q w a)))))
were_there-steps n m R S P Q h =
    all_same n _ _ (λ w x. all_same n _ _ (λ v y. all_same m _ _ (λ a z i. implies (h.related w v x y i && h.present v a y z i) (h.present w a x z i)) ∙ all_implies m (S w v) (λ a. Q v a) (λ a. Q w a)))

any-steps : (n : ℕ) (R : ℕ → ℕ → Bool) → true ≡ all_below n (λ w. all_below n (λ v. implies (R w v) true))
any-steps n R = sym (all_same n _ _ (λ w x. all_same n _ _ (λ v y. implies_any (R w v)) ∙ all_pass n) ∙ all_pass n)

-- the structure is one for the signature, and the sort stands at its place
pub record AtSort (sig : Signature) (view : KripkeTables) (s : ℕ) (entry : SortEntry) : Type 0 where
  pub reads : ReadsByName sig view (kripke_model sig (kripke_structure view))
  pub below : s < length sig.sorts
  pub is : entry ≡ get_or sig.sorts s entry

pub at-sort : (sig : Signature) (view : KripkeTables) (s : ℕ) (entry : SortEntry) (items : List SortEntry) → HasDifferentNames sig → IsKripke view → IsKripkeFor sig view → items ≡ sig.sorts → s < length items → entry ≡ get_or items s entry → AtSort sig view s entry
at-sort sig view s entry items different kripke over same below is = record {
  reads = names-law sig view different kripke over;
  below = omega (arith, ap length same);
  is = is ∙ ap (λ (xs : List SortEntry). get_or xs s entry) same;
}

found-sort : (sig : Signature) (view : KripkeTables) (s : ℕ) (entry : SortEntry) → AtSort sig view s entry → slice_get sig.sorts s ≡ Some entry
found-sort sig view s entry h = slice_get_read sig.sorts _ s entry refl h.below h.is

along-named : (sig : Signature) (view : KripkeTables) (s i : ℕ) (entry : SortEntry) (index : IndexEntry) → AtSort sig view s entry → slice_get sig.indexes i ≡ Some index → (regime : Regime)
    → goes_along (kripke_model sig (kripke_structure view)) regime entry.name index.name ≡ goes_along_in view regime s i
along-named sig view s i entry index h at Constant = any-steps view.worlds (related_in view i)
along-named sig view s i entry index h at Varying = any-steps view.worlds (related_in view i)
along-named sig view s i entry index h at Cumulative =
    let K : KripkeModel = kripke_model sig (kripke_structure view) in
    let sort = found-sort sig view s entry h in
    ap (λ m. stay view.worlds m (K.related index.name) (K.present entry.name)) (h.reads.size s entry sort)
    ∙ stay-steps view.worlds (size_at view.sizes s) (K.related index.name) (related_in view i) (K.present entry.name) (exists_in view s) (record {
      related = λ w v. h.reads.related i index w v at;
      present = λ w a. h.reads.present s entry w a sort;
    })
along-named sig view s i entry index h at Decreasing =
    let K : KripkeModel = kripke_model sig (kripke_structure view) in
    let sort = found-sort sig view s entry h in
    ap (λ m. were_there view.worlds m (K.related index.name) (K.present entry.name)) (h.reads.size s entry sort)
    ∙ were_there-steps view.worlds (size_at view.sizes s) (K.related index.name) (related_in view i) (K.present entry.name) (exists_in view s) (record {
      related = λ w v. h.reads.related i index w v at;
      present = λ w a. h.reads.present s entry w a sort;
    })

monotone-named : (sig : Signature) (view : KripkeTables) (s i : ℕ) (entry : SortEntry) (index : IndexEntry) → AtSort sig view s entry → slice_get sig.indexes i ≡ Some index → holds_in sig view (Monotone s i) ≡ meets_in view entry.regime (Monotone s i)
monotone-named sig view s i entry index h at =
    let K : KripkeModel = kripke_model sig (kripke_structure view) in
    let sort = found-sort sig view s entry h in
    (λ j. goes_along K (regime_at-place sig.sorts s entry sort j) (sort_at-place sig.sorts s entry sort j) (index_at-place sig.indexes i index at j))
    ∙ along-named sig view s i entry index h at entry.regime

empty-named : (sig : Signature) (view : KripkeTables) (s : ℕ) (entry : SortEntry) → AtSort sig view s entry → holds_in sig view (Empty s) ≡ meets_in view entry.regime (Empty s)
empty-named sig view s entry h =
    let K : KripkeModel = kripke_model sig (kripke_structure view) in
    let sort = found-sort sig view s entry h in
    (λ j. someone_exists view.worlds (K.size (sort_at-place sig.sorts s entry sort j)) (K.present (sort_at-place sig.sorts s entry sort j)))
    ∙ ap (λ m. someone_exists view.worlds m (K.present entry.name)) (h.reads.size s entry sort)
    ∙ someone-same view.worlds (size_at view.sizes s) (K.present entry.name) (exists_in view s) (λ w a. h.reads.present s entry w a sort)

union-named : (sig : Signature) (view : KripkeTables) (s : ℕ) (entry : SortEntry) → AtSort sig view s entry → holds_in sig view (Union s) ≡ meets_in view entry.regime (Union s)
union-named sig view s entry h =
    let K : KripkeModel = kripke_model sig (kripke_structure view) in
    let sort = found-sort sig view s entry h in
    (λ j. everyone_exists view.worlds (K.size (sort_at-place sig.sorts s entry sort j)) (K.present (sort_at-place sig.sorts s entry sort j)))
    ∙ ap (λ m. everyone_exists view.worlds m (K.present entry.name)) (h.reads.size s entry sort)
    ∙ everyone-same view.worlds (size_at view.sizes s) (K.present entry.name) (exists_in view s) (λ w a. h.reads.present s entry w a sort)

-- the first that fails is the same by name and by number
monotone-first : (sig : Signature) (view : KripkeTables) (s i : ℕ) (entry : SortEntry) (indexes : List IndexEntry) → AtSort sig view s entry → ((k : ℕ) (index : IndexEntry) → slice_get indexes k ≡ Some index → slice_get sig.indexes (i + k) ≡ Some index)
    → first_failing (holds_in sig view) (monotone_from s i indexes) ≡ first_failing (meets_in view entry.regime) (monotone_from s i indexes)
monotone-first sig view s i entry [] h at = refl
monotone-first sig view s i entry (index ∷ indexes) h at =
    let here = monotone-named sig view s i entry index h (ap (slice_get sig.indexes) (omega arith) ∙ at 0 index refl) in
    let rest = monotone-first sig view s (suc i) entry indexes h (λ k found e. ap (slice_get sig.indexes) (omega arith) ∙ at (suc k) found e) in
    λ j. cond (not (here j)) (Some (Monotone s i)) (rest j)

sort-first : (sig : Signature) (view : KripkeTables) (s : ℕ) (entry : SortEntry) → AtSort sig view s entry → (regime : Regime)
    → first_failing (holds_in sig view) (sort_conditions sig.indexes s regime) ≡ first_failing (meets_in view entry.regime) (sort_conditions sig.indexes s regime)
sort-first sig view s entry h Constant = refl
sort-first sig view s entry h Varying =
    λ j. cond (not (empty-named sig view s entry h j)) (Some (Empty s)) (cond (not (union-named sig view s entry h j)) (Some (Union s)) None)
sort-first sig view s entry h Cumulative =
    let rest = monotone-first sig view s 0 entry sig.indexes h (λ k index e. ap (slice_get sig.indexes) (omega arith) ∙ e) in
    λ j. cond (not (empty-named sig view s entry h j)) (Some (Empty s)) (cond (not (union-named sig view s entry h j)) (Some (Union s)) (rest j))
sort-first sig view s entry h Decreasing =
    let rest = monotone-first sig view s 0 entry sig.indexes h (λ k index e. ap (slice_get sig.indexes) (omega arith) ∙ e) in
    λ j. cond (not (empty-named sig view s entry h j)) (Some (Empty s)) (cond (not (union-named sig view s entry h j)) (Some (Union s)) (rest j))

-- a sort that meets its conditions
pub sort-none : (sig : Signature) (view : KripkeTables) (s : ℕ) (entry : SortEntry) → AtSort sig view s entry → first_failing (meets_in view entry.regime) (sort_conditions sig.indexes s entry.regime) ≡ None
    → first_failing (holds_in sig view) (domains_from sig.indexes s (drop s sig.sorts)) ≡ first_failing (holds_in sig view) (domains_from sig.indexes (s + 1) (drop (s + 1) sig.sorts))
sort-none sig view s entry h none =
    ap (λ rest. first_failing (holds_in sig view) (domains_from sig.indexes s rest)) (drop-read sig.sorts s entry h.below h.is)
    ∙ front_holds (holds_in sig view) (sort_conditions sig.indexes s entry.regime) _ (sort-first sig view s entry h entry.regime ∙ none)
    ∙ ap (λ n. first_failing (holds_in sig view) (domains_from sig.indexes n (drop (s + 1) sig.sorts))) (sym (add-one s))

-- a sort that doesn't
pub sort-some : (sig : Signature) (view : KripkeTables) (s : ℕ) (entry : SortEntry) (fault : Condition) → AtSort sig view s entry → first_failing (meets_in view entry.regime) (sort_conditions sig.indexes s entry.regime) ≡ Some fault
    → first_failing (holds_in sig view) (domains_from sig.indexes s (drop s sig.sorts)) ≡ Some fault
sort-some sig view s entry fault h some =
    ap (λ rest. first_failing (holds_in sig view) (domains_from sig.indexes s rest)) (drop-read sig.sorts s entry h.below h.is)
    ∙ front_fails (holds_in sig view) (sort_conditions sig.indexes s entry.regime) _ fault (sort-first sig view s entry h entry.regime ∙ some)

-- index by index
monotone-drop : (indexes : List IndexEntry) (i s n : ℕ) → i < length indexes → monotone_from s n (drop i indexes) ≡ Monotone s n ∷ monotone_from s (suc n) (drop (i + 1) indexes)
monotone-drop [] i s n below = absurd (omega arith)
monotone-drop (index ∷ indexes) zero s n below = refl
monotone-drop (index ∷ indexes) (suc i) s n below =
    let next : suc (i + 1) ≡ suc i + 1 = omega arith in
    monotone-drop indexes i s n (omega arith) ∙ ap (λ k. Monotone s n ∷ monotone_from s (suc n) (drop k (index ∷ indexes))) next

pub monotone-holds : (view : KripkeTables) (regime : Regime) (s i : ℕ) (indexes : List IndexEntry) → i < length indexes → goes_along_in view regime s i ≡ true
    → first_failing (meets_in view regime) (monotone_from s i (drop i indexes)) ≡ first_failing (meets_in view regime) (monotone_from s (i + 1) (drop (i + 1) indexes))
monotone-holds view regime s i indexes below holds =
    ap (first_failing (meets_in view regime)) (monotone-drop indexes i s i below)
    ∙ first-holds (meets_in view regime) (Monotone s i) (monotone_from s (suc i) (drop (i + 1) indexes)) holds
    ∙ ap (λ n. first_failing (meets_in view regime) (monotone_from s n (drop (i + 1) indexes))) (sym (add-one i))

pub monotone-fails : (view : KripkeTables) (regime : Regime) (s i : ℕ) (indexes : List IndexEntry) → i < length indexes → goes_along_in view regime s i ≡ false → first_failing (meets_in view regime) (monotone_from s i (drop i indexes)) ≡ Some (Monotone s i)
monotone-fails view regime s i indexes below fails =
    ap (first_failing (meets_in view regime)) (monotone-drop indexes i s i below)
    ∙ first-fails (meets_in view regime) (Monotone s i) (monotone_from s (suc i) (drop (i + 1) indexes)) fails
