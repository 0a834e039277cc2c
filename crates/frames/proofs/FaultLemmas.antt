-- The first fault of the frames, index by index.
use Rattle.std.proofs.Common.{◌≡◌, ℕ, ◌+◌, ◌<◌, Bool, length, get_or, drop, refl, sym, ap, ◌∙◌, add-one, arith, List, None, Some}
use Rattle.std.specs.Prelude.{map, slice_get}
use Rattle.std.specs.Option.{option_map}
use Rattle.std.proofs.lemmas.Option.{slice_get_read}
use Rattle.nxf_tree.specs.declared.tree.Signature.{Signature}
use Rattle.nxf_tree.specs.declared.tree.IndexEntry.{IndexEntry}
use Rattle.nxf_tree.specs.declared.tree.IndexName.{IndexName}
use Rattle.nxf_tree.specs.declared.tree.Scheme.{Scheme}
use Rattle.nxf_tree.specs.Conditions.{meets_scheme}
use Rattle.nxf_tree.specs.Kripke.{KripkeModel}
use Rattle.nxf_tree.specs.Structures.{kripke_model}
use Rattle.nxf_tree.specs.WellFormed.{HasDifferentNames}
use Rattle.fin_struct.specs.declared.condition.Condition.{Condition}
use Rattle.fin_struct.specs.declared.condition.Condition.TheVariants.{Frame}
use Rattle.fin_struct.specs.FirstFault.{meets_condition, frames_from}
use Rattle.fin_struct.specs.KripkeTables.{KripkeTables, IsKripke, IsKripkeFor, related_in, kripke_structure}
use Rattle.structure_laws.proofs.FirstFaultLemmas.{first_failing, front_holds, front_fails, first-map, drop-read, index_at-place}
use Rattle.structure_laws.proofs.KripkeNames.{names-law}
use Rattle.frames.proofs.StepLemmas.{scheme_same}

-- whether the structure's model meets a condition
abbrev pub holds_in : Signature → KripkeTables → Condition → Bool
holds_in sig view = meets_condition sig (kripke_model sig (kripke_structure view))

-- the structure is one for the signature, and the index stands at its place
pub record AtIndex (sig : Signature) (view : KripkeTables) (i : ℕ) (entry : IndexEntry) : Type 0 where
  pub different : HasDifferentNames sig
  pub kripke : IsKripke view
  pub over : IsKripkeFor sig view
  pub below : i < length sig.indexes
  pub is : entry ≡ get_or sig.indexes i entry

pub at-index : (sig : Signature) (view : KripkeTables) (i : ℕ) (entry : IndexEntry) (items : List IndexEntry) → HasDifferentNames sig → IsKripke view → IsKripkeFor sig view → items ≡ sig.indexes → i < length items → entry ≡ get_or items i entry → AtIndex sig view i entry
at-index sig view i entry items different kripke over same below is = record {
  different = different;
  kripke = kripke;
  over = over;
  below = omega (arith, ap length same);
  is = is ∙ ap (λ (xs : List IndexEntry). get_or xs i entry) same;
}

-- the condition of a scheme is said of the relation with the number
frame-named : (sig : Signature) (view : KripkeTables) (i : ℕ) (entry : IndexEntry) → AtIndex sig view i entry → (scheme : Scheme) → holds_in sig view (Frame i scheme) ≡ meets_scheme scheme view.worlds (related_in view i)
frame-named sig view i entry h scheme =
    let K : KripkeModel = kripke_model sig (kripke_structure view) in
    let at : slice_get sig.indexes i ≡ Some entry = slice_get_read sig.indexes _ i entry refl h.below h.is in
    ap (λ (name : IndexName). meets_scheme scheme view.worlds (K.related name)) (index_at-place sig.indexes i entry at)
    ∙ scheme_same scheme view.worlds (K.related entry.name) (related_in view i) (λ w v. (names-law sig view h.different h.kripke h.over).related i entry w v at)

index-first : (sig : Signature) (view : KripkeTables) (i : ℕ) (entry : IndexEntry) → AtIndex sig view i entry → first_failing (holds_in sig view) (map (Frame i) entry.schemes) ≡ option_map (Frame i) (first_failing (λ scheme. meets_scheme scheme view.worlds (related_in view i)) entry.schemes)
index-first sig view i entry h =
    first-map (holds_in sig view) (Frame i) entry.schemes
    ∙ (λ j. option_map (Frame i) (first_failing (λ scheme. frame-named sig view i entry h scheme j) entry.schemes))

-- an index that meets its schemes
pub index-none : (sig : Signature) (view : KripkeTables) (i : ℕ) (entry : IndexEntry) → AtIndex sig view i entry → first_failing (λ scheme. meets_scheme scheme view.worlds (related_in view i)) entry.schemes ≡ None
    → first_failing (holds_in sig view) (frames_from i (drop i sig.indexes)) ≡ first_failing (holds_in sig view) (frames_from (i + 1) (drop (i + 1) sig.indexes))
index-none sig view i entry h none =
    ap (λ rest. first_failing (holds_in sig view) (frames_from i rest)) (drop-read sig.indexes i entry h.below h.is)
    ∙ front_holds (holds_in sig view) (map (Frame i) entry.schemes) _ (index-first sig view i entry h ∙ ap (option_map (Frame i)) none)
    ∙ ap (λ n. first_failing (holds_in sig view) (frames_from n (drop (i + 1) sig.indexes))) (sym (add-one i))

-- an index that doesn't
pub index-some : (sig : Signature) (view : KripkeTables) (i : ℕ) (entry : IndexEntry) (scheme : Scheme) → AtIndex sig view i entry → first_failing (λ s. meets_scheme s view.worlds (related_in view i)) entry.schemes ≡ Some scheme
    → first_failing (holds_in sig view) (frames_from i (drop i sig.indexes)) ≡ Some (Frame i scheme)
index-some sig view i entry scheme h some =
    ap (λ rest. first_failing (holds_in sig view) (frames_from i rest)) (drop-read sig.indexes i entry h.below h.is)
    ∙ front_fails (holds_in sig view) (map (Frame i) entry.schemes) _ (Frame i scheme) (index-first sig view i entry h ∙ ap (option_map (Frame i)) some)
