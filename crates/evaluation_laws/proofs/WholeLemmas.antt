-- The conditions of a whole file, one by one and together.
use Rattle.std.proofs.Common.{◌≡◌, ℕ, suc, ◌+◌, Bool, true, false, List, [], ◌∷◌, ◌++◌, Option, None, Some, refl, sym, ap, ◌∙◌, arith}
use Rattle.std.specs.Prelude.{◌&&◌, ◌↔◌, map, slice_get}
use Rattle.std.specs.List.{list_all}
use Rattle.std.proofs.lemmas.Bool.{and_from}
use Rattle.std.proofs.lemmas.List.Folds.{list_all-append}
use Rattle.nxf_tree.specs.declared.tree.Signature.{Signature}
use Rattle.nxf_tree.specs.declared.tree.IndexEntry.{IndexEntry}
use Rattle.nxf_tree.specs.declared.tree.SortEntry.{SortEntry}
use Rattle.nxf_tree.specs.declared.tree.SymbolEntry.{SymbolEntry}
use Rattle.nxf_tree.specs.declared.tree.Scheme.{Scheme}
use Rattle.nxf_tree.specs.declared.tree.Regime.{Regime}
use Rattle.nxf_tree.specs.declared.tree.Regime.TheVariants.{Constant, Cumulative, Decreasing, Varying}
use Rattle.nxf_tree.specs.declared.tree.Body.TheVariants.{Formula as IsFormula, Typing as IsTyping, Logic as IsLogic}
use Rattle.nxf_tree.specs.declared.tree.Statement.{Statement}
use Rattle.nxf_tree.specs.declared.tree.Statement.TheVariants.{Annotated, Include}
use Rattle.nxf_tree.specs.declared.tree.File.{File}
use Rattle.nxf_tree.specs.declared.tree.Part.{Part}
use Rattle.nxf_tree.specs.declared.tree.Part.TheVariants.{Premise as IsPremise, Conjecture as IsConjecture}
use Rattle.nxf_tree.specs.Kripke.{KripkeModel}
use Rattle.nxf_tree.specs.Parts.{statement_part}
use Rattle.nxf_tree.specs.Conditions.{meets_frames, meets_domains, meets_terms}
use Rattle.nxf_tree.specs.Countermodels.{meets_part, meets_statement, IsKripkeCountermodel}
use Rattle.nxf_tree.specs.WellFormed.{HasDifferentNames}
use Rattle.name_laws.proofs.Lists.{and-assoc}
use Rattle.name_laws.proofs.Types.{split}
use Rattle.fin_struct.specs.declared.condition.Condition.{Condition}
use Rattle.fin_struct.specs.declared.condition.Condition.TheVariants.{Frame, Empty, Union, Monotone, Local, Premise, Conjecture}
use Rattle.fin_struct.specs.FirstFault.{IsFirstFailing, meets_condition, frames_from, frame_conditions, monotone_from, sort_conditions, domains_from, domain_conditions, terms_from, term_conditions}
use Rattle.structure_laws.proofs.KripkeLists.{kripke-law}
use Rattle.structure_laws.proofs.FirstFaultLemmas.{none_exactly, frame_conditions-all, domain_conditions-all, term_conditions-all}
use Rattle.fin_struct.specs.KripkeTables.{KripkeTables, IsKripke, IsKripkeFor, kripke_structure}
use Rattle.kripke_evaluation_definitions.specs.FileConditions.{model_of}
use Rattle.kripke_evaluation_definitions.specs.FileConditions.{meets_where_there, meets, and_premise, premises_from, premise_conditions, and_conjecture, conjectures_from, conjecture_conditions, part_conditions, all_conditions}
use Rattle.evaluation_laws.specs.FaultLaws.{JoinedFaults}
use Rattle.evaluation_laws.proofs.FirstLemmas.{joined-first, all-agree, first-agrees}

-- the conditions that a signature asks
abbrev own : Condition → Bool
own (Frame i scheme) = true
own (Empty s) = true
own (Union s) = true
own (Monotone s i) = true
own (Local f) = true
own (Premise n) = false
own (Conjecture n) = false

schemes-own : (i : ℕ) (schemes : List Scheme) → list_all own (map (Frame i) schemes) ≡ true
schemes-own i [] = refl
schemes-own i (scheme ∷ schemes) = schemes-own i schemes

frames-own : (i : ℕ) (entries : List IndexEntry) → list_all own (frames_from i entries) ≡ true
frames-own i [] = refl
frames-own i (entry ∷ entries) = list_all-append own (map (Frame i) entry.schemes) (frames_from (suc i) entries) ∙ and_from _ _ (schemes-own i entry.schemes) (frames-own (suc i) entries)

monotone-own : (s i : ℕ) (entries : List IndexEntry) → list_all own (monotone_from s i entries) ≡ true
monotone-own s i [] = refl
monotone-own s i (entry ∷ entries) = monotone-own s (suc i) entries

sort-own : (indexes : List IndexEntry) (s : ℕ) (regime : Regime) → list_all own (sort_conditions indexes s regime) ≡ true
sort-own indexes s Constant = refl
sort-own indexes s Cumulative = monotone-own s 0 indexes
sort-own indexes s Decreasing = monotone-own s 0 indexes
sort-own indexes s Varying = refl

domains-own : (indexes : List IndexEntry) (s : ℕ) (entries : List SortEntry) → list_all own (domains_from indexes s entries) ≡ true
domains-own indexes s [] = refl
domains-own indexes s (entry ∷ entries) =
    list_all-append own (sort_conditions indexes s entry.regime) (domains_from indexes (suc s) entries) ∙ and_from _ _ (sort-own indexes s entry.regime) (domains-own indexes (suc s) entries)

terms-own : (f : ℕ) (entries : List SymbolEntry) → list_all own (terms_from f entries) ≡ true
terms-own f [] = refl
terms-own f (entry ∷ entries) = terms-own (suc f) entries

-- a statement that is no part asks nothing
no-part : (K : KripkeModel) (s : Statement) → statement_part s ≡ None → meets_statement K s ≡ true
no-part K (Annotated name role (IsFormula f)) h = ap (meets_part K f) h
no-part K (Annotated name role (IsTyping t)) h = refl
no-part K (Annotated name role (IsLogic l)) h = refl
no-part K (Include file names) h = refl

and-swap : (a b c : Bool) → a && (b && c) ≡ b && (a && c)
and-swap true b c = refl
and-swap false true c = refl
and-swap false false c = refl

module _ (sig : Signature) (file : File) (K : KripkeModel) where
  abbrev M : Condition → Bool
  M = meets sig file K

  agree : (c : Condition) → own c ≡ true → meets_condition sig K c ≡ M c
  agree (Frame i scheme) h = refl
  agree (Empty s) h = refl
  agree (Union s) h = refl
  agree (Monotone s i) h = refl
  agree (Local f) h = refl
  agree (Premise n) h = absurd cc
  agree (Conjecture n) h = absurd cc

  -- what a statement asks is asked once
  step : (k : ℕ) (s : Statement) (P C : List Condition) (rest : Bool) → slice_get file.statements k ≡ Some s → list_all M P && list_all M C ≡ rest
      → (o : Option Part) → statement_part s ≡ o → list_all M (and_premise (suc k) o P) && list_all M (and_conjecture (suc k) o C) ≡ meets_statement K s && rest
  step k s P C rest at h None e = h ∙ ap (λ b. b && rest) (sym (no-part K s e))
  step k s P C rest at h (Some (IsPremise scope)) e =
      sym (and-assoc (meets_where_there K (slice_get file.statements k)) (list_all M P) (list_all M C)) ∙ (λ i. meets_where_there K (at i) && h i)
  step k s P C rest at h (Some (IsConjecture scope)) e =
      and-swap (list_all M P) (meets_where_there K (slice_get file.statements k)) (list_all M C) ∙ (λ i. meets_where_there K (at i) && h i)

  statements-all : (ss : List Statement) (k : ℕ) → ((j : ℕ) → slice_get ss j ≡ slice_get file.statements (k + j)) → list_all M (premises_from (suc k) ss) && list_all M (conjectures_from (suc k) ss) ≡ list_all (meets_statement K) ss
  statements-all [] k h = refl
  statements-all (s ∷ ss) k h =
      let here : slice_get file.statements k ≡ Some s = ap (slice_get file.statements) (omega arith) ∙ sym (h 0) in
      let rest = statements-all ss (suc k) (λ j. h (suc j) ∙ ap (slice_get file.statements) (omega arith)) in
      step k s (premises_from (suc (suc k)) ss) (conjectures_from (suc (suc k)) ss) (list_all (meets_statement K) ss) here rest (statement_part s) refl

  parts-all : list_all M (premise_conditions file ++ conjecture_conditions file) ≡ list_all (meets_statement K) file.statements
  parts-all = list_all-append M (premise_conditions file) (conjecture_conditions file) ∙ statements-all file.statements 0 (λ j. ap (slice_get file.statements) (omega arith))

  frames-all : list_all M (frame_conditions sig) ≡ meets_frames sig K
  frames-all = sym (all-agree own (meets_condition sig K) M agree (frame_conditions sig) (frames-own 0 sig.indexes)) ∙ frame_conditions-all sig K

  domains-all : HasDifferentNames sig → list_all M (domain_conditions sig) ≡ meets_domains sig K
  domains-all d = sym (all-agree own (meets_condition sig K) M agree (domain_conditions sig) (domains-own sig.indexes 0 sig.sorts)) ∙ domain_conditions-all sig K d

  terms-all : list_all M (term_conditions sig) ≡ meets_terms sig K
  terms-all = sym (all-agree own (meets_condition sig K) M agree (term_conditions sig) (terms-own 0 sig.symbols)) ∙ term_conditions-all sig K

  pub whole-conditions : HasDifferentNames sig → list_all M (all_conditions sig file) ≡ meets_frames sig K && (meets_domains sig K && (meets_terms sig K && list_all (meets_statement K) file.statements))
  whole-conditions d =
      let from_terms : list_all M (term_conditions sig ++ part_conditions file) ≡ meets_terms sig K && list_all (meets_statement K) file.statements = list_all-append M (term_conditions sig) (part_conditions file) ∙ (λ i. terms-all i && parts-all i) in
      let from_domains : list_all M (domain_conditions sig ++ (term_conditions sig ++ part_conditions file)) ≡ meets_domains sig K && (meets_terms sig K && list_all (meets_statement K) file.statements) = list_all-append M (domain_conditions sig) (term_conditions sig ++ part_conditions file) ∙ (λ i. domains-all d i && from_terms i) in
      list_all-append M (frame_conditions sig) (domain_conditions sig ++ (term_conditions sig ++ part_conditions file)) ∙ (λ i. frames-all i && from_domains i)

pub joined-faults : JoinedFaults
joined-faults sig file K f d t p frames domains terms parts =
    let M : Condition → Bool = meets sig file K in
    let same = agree sig file K in
    joined-first M (frame_conditions sig) _ f _ (first-agrees own (meets_condition sig K) M same (frame_conditions sig) f (frames-own 0 sig.indexes) frames)
    (joined-first M (domain_conditions sig) _ d _ (first-agrees own (meets_condition sig K) M same (domain_conditions sig) d (domains-own sig.indexes 0 sig.sorts) domains)
    (joined-first M (term_conditions sig) _ t _ (first-agrees own (meets_condition sig K) M same (term_conditions sig) t (terms-own 0 sig.symbols) terms) parts))

pub countermodel-exactly : (sig : Signature) (file : File) (view : KripkeTables) (found : Option Condition) → HasDifferentNames sig → IsKripke view → IsKripkeFor sig view
    → IsFirstFailing (meets sig file (model_of sig view)) (all_conditions sig file) found → (found ≡ None) ↔ IsKripkeCountermodel sig file (kripke_structure view)
countermodel-exactly sig file view found d is over first =
    let K : KripkeModel = model_of sig view in
    let whole = whole-conditions sig file K d in
    let exactly = none_exactly (meets sig file K) (all_conditions sig file) found first in (
      λ none.
          let frames : (meets_frames sig K ≡ true) × (meets_domains sig K && (meets_terms sig K && list_all (meets_statement K) file.statements) ≡ true) = split _ _ (sym whole ∙ exactly.0 none) in
          let domains : (meets_domains sig K ≡ true) × (meets_terms sig K && list_all (meets_statement K) file.statements ≡ true) = split _ _ frames.1 in
          let terms : (meets_terms sig K ≡ true) × (list_all (meets_statement K) file.statements ≡ true) = split _ _ domains.1 in
          record { over = kripke-law sig view is over; frames = frames.0; domains = domains.0; terms = terms.0; statements = terms.1 },
      λ (c : IsKripkeCountermodel sig file (kripke_structure view)). exactly.1 (whole ∙ and_from _ _ c.frames (and_from _ _ c.domains (and_from _ _ c.terms c.statements))),
    )
