-- The file of a name in two maps as one.
use Rattle.std.proofs.Common.{◌≡◌, ℕ, List, [], ◌∷◌, ◌++◌, Option, Some, None, true, false, cond, refl, sym, ◌∙◌}
use Rattle.std.specs.Prelude.{IfSome}
use Rattle.std.specs.Ordering.{nat_cmp, eq_by_cmp}
use Rattle.std.specs.Cmp.Lexicographic.{slice_cmp, nat_list_cmp_total}
use Rattle.std.specs.FinMap as map
use Rattle.nxf_base.specs.Files.{Files, file_of}
use Rattle.nxf_include.specs.Roots.{over, over_told}

abbrev scan : List ℕ → List (List ℕ × List ℕ) → Option (List ℕ)
scan = map.find (slice_cmp nat_cmp)

scan_first : (name bytes : List ℕ) (es fs : List (List ℕ × List ℕ)) → scan name es ≡ Some bytes → scan name (es ++ fs) ≡ Some bytes
scan_first name bytes [] fs h = absurd (cc)
scan_first name bytes (e ∷ es) fs h =
    elim (eq_by_cmp (slice_cmp nat_cmp) name e.0) as (λ b. cond b (Some e.1) (scan name es) ≡ Some bytes → cond b (Some e.1) (scan name (es ++ fs)) ≡ Some bytes) [
      | true ↦ λ k. k
      | false ↦ λ k. scan_first name bytes es fs k
    ] h

scan_others : (name : List ℕ) (es fs : List (List ℕ × List ℕ)) → scan name es ≡ None → scan name (es ++ fs) ≡ scan name fs
scan_others name [] fs h = refl
scan_others name (e ∷ es) fs h =
    elim (eq_by_cmp (slice_cmp nat_cmp) name e.0) as (λ b. cond b (Some e.1) (scan name es) ≡ None → cond b (Some e.1) (scan name (es ++ fs)) ≡ scan name fs) [
      | true ↦ λ k. absurd (cc)
      | false ↦ λ k. scan_others name es fs k
    ] h

pub over_first : (name bytes : List ℕ) (first others : Files) → file_of name first ≡ Some bytes → file_of name (over first others) ≡ Some bytes
over_first name bytes first others h =
    map.get-from_entries nat_list_cmp_total _ name
    ∙ scan_first name bytes (map.entries first) (map.entries others) (sym (map.get-entries first name) ∙ h)

pub over_others : (name : List ℕ) (first others : Files) → file_of name first ≡ None → file_of name (over first others) ≡ file_of name others
over_others name first others h =
    map.get-from_entries nat_list_cmp_total _ name
    ∙ scan_others name (map.entries first) (map.entries others) (sym (map.get-entries first name) ∙ h)
    ∙ sym (map.get-entries others name)

-- the same where the maps are told
pub told_first : (name bytes : List ℕ) (first others : Option Files) → IfSome first (λ f. file_of name f ≡ Some bytes) → IfSome (over_told first others) (λ f. file_of name f ≡ Some bytes)
told_first name bytes (Some first) (Some others) h = over_first name bytes first others h
told_first name bytes (Some first) None h = tt
told_first name bytes None others h = tt

pub told_others : (name : List ℕ) (answer : Option (List ℕ)) (first others : Option Files) → IfSome first (λ f. file_of name f ≡ None) → IfSome others (λ f. file_of name f ≡ answer) → IfSome (over_told first others) (λ f. file_of name f ≡ answer)
told_others name answer (Some first) (Some others) h k = over_others name first others h ∙ k
told_others name answer (Some first) None h k = tt
told_others name answer None others h k = tt
