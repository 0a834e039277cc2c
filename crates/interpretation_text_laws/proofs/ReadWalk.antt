-- Parts without faults, one after the other.
use Rattle.std.proofs.Common.{◌≡◌, ℕ, suc, List, [], ◌∷◌, ◌++◌, None, refl, sym, ap, subst, ◌∙◌, append_assoc, append-nil}
use Rattle.std.specs.List.{AllByRecursion}
use Rattle.std.specs.Option.{option_map, option_or}
use Rattle.std.proofs.lemmas.Grind.{flat_map-append}
use Rattle.nxf_tree.specs.declared.tree.Statement.{Statement}
use Rattle.nxf_tree.specs.Faults.{first_fault}
use Rattle.interpretation_definitions.specs.declared.fault.PartFault.{PartFault}
use Rattle.interpretation_definitions.specs.Parts.{Part, parts_of, all_parts}
use Rattle.interpretation_definitions.specs.Context.{Context}
use Rattle.interpretation_definitions.specs.Judging.{part_fault, statement_fault}

module _ (C : Context) where
  -- no part has a fault after those before it
  abbrev pub AreClean : List Part → List Part → Type 0
  AreClean before [] = Unit {0}
  AreClean before (p ∷ ps) = (part_fault C before p ≡ None) × AreClean (before ++ p ∷ []) ps

  pub clean_both : (before xs ys : List Part) → AreClean before xs → AreClean (before ++ xs) ys → AreClean before (xs ++ ys)
  clean_both before [] ys a b = subst (λ (bs : List Part). AreClean bs ys) (append-nil before) b
  clean_both before (x ∷ xs) ys a b = (a.0, clean_both (before ++ x ∷ []) xs ys a.1 (subst (λ (bs : List Part). AreClean bs ys) (sym (append_assoc before (x ∷ []) xs)) b))

  clean_first : (before xs ys : List Part) → AreClean before (xs ++ ys) → AreClean before xs
  clean_first before [] ys h = tt
  clean_first before (x ∷ xs) ys h = (h.0, clean_first (before ++ x ∷ []) xs ys h.1)

  clean_second : (before xs ys : List Part) → AreClean before (xs ++ ys) → AreClean (before ++ xs) ys
  clean_second before [] ys h = subst (λ (bs : List Part). AreClean bs ys) (sym (append-nil before)) h
  clean_second before (x ∷ xs) ys h = subst (λ (bs : List Part). AreClean bs ys) (append_assoc before (x ∷ []) xs) (clean_second (before ++ x ∷ []) xs ys h.1)

  -- parts that have no fault whatever stands before them
  pub always_clean : (ps before : List Part) → AllByRecursion (λ (p : Part). (b : List Part) → part_fault C b p ≡ None) ps → AreClean before ps
  always_clean [] before h = tt
  always_clean (p ∷ ps) before h = (h.0 before, always_clean ps (before ++ p ∷ []) h.1)

  no_fault : (ps before : List Part) (k : ℕ) → AreClean before ps → first_fault (part_fault C) k before ps ≡ None
  no_fault [] before k h = refl
  no_fault (p ∷ ps) before k h =
      (λ i. option_or (option_map (λ fault. (k, fault)) (h.0 i)) (first_fault (part_fault C) (suc k) (before ++ p ∷ []) ps)) ∙ no_fault ps (before ++ p ∷ []) (suc k) h.1

  pub no_faults : (ss before : List Statement) (k : ℕ) → AreClean (all_parts before) (all_parts ss) → first_fault (statement_fault C) k before ss ≡ None
  no_faults [] before k h = refl
  no_faults (s ∷ ss) before k h =
      let parts = parts_of s in
      let first : statement_fault C before s ≡ None = ap (option_map (λ (p : ℕ × PartFault). p.1)) (no_fault parts (all_parts before) 0 (clean_first (all_parts before) parts (all_parts ss) h)) in
      let behind : all_parts (before ++ s ∷ []) ≡ all_parts before ++ parts = flat_map-append parts_of before (s ∷ []) ∙ ap (λ last. all_parts before ++ last) (append-nil parts) in
      (λ i. option_or (option_map (λ fault. (k, fault)) (first i)) (first_fault (statement_fault C) (suc k) (before ++ s ∷ []) ss))
      ∙ no_faults ss (before ++ s ∷ []) (suc k) (subst (λ (bs : List Part). AreClean bs (all_parts ss)) (sym behind) (clean_second (all_parts before) parts (all_parts ss) h))
