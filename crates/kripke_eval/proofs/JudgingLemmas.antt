-- The walk over formulas and parts of a file finds the first of its premises or conjectures that isn't met.
use Rattle.std.proofs.Common.{◌≡◌, ℕ, suc, ◌+◌, ◌<◌, Bool, true, false, List, [], ◌∷◌, Option, None, Some, refl, sym, ap, ◌∙◌, arith}
use mathlib.Core.Bool.{beq}
use Rattle.std.specs.Prelude.{not, if◌then◌else◌, slice_get, Ok}
use Rattle.std.specs.List.{All}
use Rattle.std.proofs.lemmas.Bool.{eq-eqb, ne_eqb}
use Rattle.std.proofs.lemmas.List.Elements.{All-head, All-tail}
use Rattle.nxf_tree.specs.declared.tree.Signature.{Signature}
use Rattle.nxf_tree.specs.declared.tree.Formula.{Formula}
use Rattle.nxf_tree.specs.declared.tree.Role.{Role}
use Rattle.nxf_tree.specs.declared.tree.Body.TheVariants.{Formula as IsFormula, Typing as IsTyping, Logic as IsLogic}
use Rattle.nxf_tree.specs.declared.tree.Statement.{Statement}
use Rattle.nxf_tree.specs.declared.tree.Statement.TheVariants.{Annotated, Include}
use Rattle.nxf_tree.specs.declared.tree.File.{File}
use Rattle.nxf_tree.specs.declared.tree.Part.{Part}
use Rattle.nxf_tree.specs.declared.tree.Part.TheVariants.{Premise as IsPremise, Conjecture as IsConjecture}
use Rattle.nxf_tree.specs.declared.tree.PartEntry.{PartEntry}
use Rattle.nxf_tree.specs.Kripke.{KripkeModel}
use Rattle.nxf_tree.specs.Faults.{first_fault, unless}
use Rattle.nxf_tree.specs.Parts.{part_of, statement_part, and_part, part_entries, parts_of, role_fault, is_conjecture}
use Rattle.nxf_tree.specs.Countermodels.{meets_part}
use Rattle.nxf_tree.specs.WellFormed.{IsWellFormed}
use Rattle.fin_struct.specs.declared.condition.Condition.{Condition}
use Rattle.fin_struct.specs.KripkeTables.{KripkeTables, IsKripke, IsKripkeFor}
use Rattle.fin_struct.specs.FirstFault.{IsFirstFailing}
use Rattle.structure_laws.proofs.FirstFaultLemmas.{first_failing, first_told, first-holds, first-fails, front_holds, front_fails}
use Rattle.numbered_definitions.specs.declared.node.Node.{Node}
use Rattle.numbered_definitions.specs.declared.node.Numbered.{Numbered}
use Rattle.numbered_definitions.specs.NamedForm.{FormulaStatement, named_form, named, all_named, formulas_from, formulas_of, IsSortedFormula}
use Rattle.kripke_evaluation_definitions.specs.FileConditions.{model_of, statement_at, meets_where_there, meets_by_file, and_premise, premises_from, and_conjecture, conjectures_from, part_conditions, condition_of, node_meets}
use Rattle.evaluation_laws.proofs.Evaluation.{evaluates}
use Rattle.numbered_definitions.proofs.CallerLemmas.{mapped, joined}
use Rattle.kripke_eval.specs.steps.Judging.{passes, first_unmet}

-- the conditions of one kind
abbrev and_condition : Bool → ℕ → Option Part → List Condition → List Condition
and_condition conjecture k None rest = rest
and_condition conjecture k (Some part) rest = if beq (is_conjecture (Some part)) conjecture then condition_of k part ∷ rest else rest

abbrev conditions_from : Bool → ℕ → List Statement → List Condition
conditions_from conjecture k [] = []
conditions_from conjecture k (s ∷ ss) = and_condition conjecture k (statement_part s) (conditions_from conjecture (suc k) ss)

premises_same : (k : ℕ) (ss : List Statement) → conditions_from false k ss ≡ premises_from k ss
premises_same k [] = refl
premises_same k (s ∷ ss) = by (statement_part s) (premises_same (suc k) ss)
  where
    by : (o : Option Part) → conditions_from false (suc k) ss ≡ premises_from (suc k) ss → and_condition false k o (conditions_from false (suc k) ss) ≡ and_premise k o (premises_from (suc k) ss)
    by None h = h
    by (Some (IsPremise scope)) h = ap (λ l. condition_of k (IsPremise scope) ∷ l) h
    by (Some (IsConjecture scope)) h = h

conjectures_same : (k : ℕ) (ss : List Statement) → conditions_from true k ss ≡ conjectures_from k ss
conjectures_same k [] = refl
conjectures_same k (s ∷ ss) = by (statement_part s) (conjectures_same (suc k) ss)
  where
    by : (o : Option Part) → conditions_from true (suc k) ss ≡ conjectures_from (suc k) ss → and_condition true k o (conditions_from true (suc k) ss) ≡ and_conjecture k o (conjectures_from (suc k) ss)
    by None h = h
    by (Some (IsPremise scope)) h = h
    by (Some (IsConjecture scope)) h = ap (λ l. condition_of k (IsConjecture scope) ∷ l) h

-- parts have the places of their statements, so those that follow come later
abbrev StartsAfter : ℕ → List PartEntry → Type 0
StartsAfter k [] = Unit {0}
StartsAfter k (p ∷ ps) = k < p.place

parts-after : (below k : ℕ) (ss : List Statement) → below < k → StartsAfter below (part_entries k ss)
parts-after below k [] h = tt
parts-after below k (s ∷ ss) h = by (statement_part s) (parts-after below (suc k) ss (omega (arith, h)))
  where
    by : (o : Option Part) → StartsAfter below (part_entries (suc k) ss) → StartsAfter below (and_part k o (part_entries (suc k) ss))
    by None rest = rest
    by (Some part) rest = h

module _ (test : Part → Node → Bool) where
  -- a formula before the next part has none
  passed-over : (n : Numbered) (ns : List Numbered) (ps : List PartEntry) → StartsAfter n.place ps → first_unmet test (n ∷ ns) ps ≡ first_unmet test ns ps
  passed-over n [] [] h = refl
  passed-over n (m ∷ ns) [] h = refl
  passed-over n ns (p ∷ ps) h =
      ap (λ b. if b then (if test p.part n.node then first_unmet test ns ps else Some (condition_of p.place p.part)) else first_unmet test ns (p ∷ ps)) (ne_eqb p.place n.place (λ e. omega (arith, h, e)))

  -- a formula with its part
  judged : (n : Numbered) (ns : List Numbered) (k : ℕ) (part : Part) (ps : List PartEntry) → n.place ≡ k → first_unmet test (n ∷ ns) (record { place = k; part = part } ∷ ps) ≡ (if test part n.node then first_unmet test ns ps else Some (condition_of k part))
  judged n ns k part ps h =
      ap (λ b. if b then (if test part n.node then first_unmet test ns ps else Some (condition_of k part)) else first_unmet test ns (record { place = k; part = part } ∷ ps)) (eq-eqb k n.place (sym h))

module _ (sig : Signature) (file : File) (view : KripkeTables) (wf : IsWellFormed sig) (is : IsKripke view) (over : IsKripkeFor sig view) where
  abbrev K : KripkeModel
  K = model_of sig view

  abbrev M : Condition → Bool
  M = meets_by_file sig file view

  -- what a part asks is what its numbered formula says
  asked : (k : ℕ) (name : List ℕ) (role : Role) (f : Formula) (part : Part) (n : Node) → statement_at file.statements k ≡ Some (Annotated name role (IsFormula f)) → part_of role ≡ Some part → named_form sig [] n ≡ Some f → IsSortedFormula sig n → M (condition_of k part) ≡ node_meets view part n
  asked k name role f (IsPremise scope) n at has stands s =
      ap (meets_where_there K) at ∙ ap (meets_part K f) has ∙ sym ((evaluates sig view wf is over n f stands s).counts scope)
  asked k name role f (IsConjecture scope) n at has stands s =
      ap (meets_where_there K) at ∙ ap (meets_part K f) has ∙ ap not (sym ((evaluates sig view wf is over n f stands s).counts scope))

  first-of : (c : Condition) (rest : List Condition) (b : Bool) → M c ≡ b → first_failing M (c ∷ rest) ≡ (if b then first_failing M rest else Some c)
  first-of c rest true h = first-holds M c rest h
  first-of c rest false h = first-fails M c rest h

  told : (conjecture : Bool) (k : ℕ) (part : Part) (n : Node) (rest : List Condition) → M (condition_of k part) ≡ node_meets view part n
      → first_failing M (and_condition conjecture k (Some part) rest) ≡ (if passes view conjecture part n then first_failing M rest else Some (condition_of k part))
  told conjecture k part n rest h = by (beq (is_conjecture (Some part)) conjecture)
    where
      by : (b : Bool) → first_failing M (if b then condition_of k part ∷ rest else rest) ≡ (if (if b then node_meets view part n else true) then first_failing M rest else Some (condition_of k part))
      by true = first-of (condition_of k part) rest (node_meets view part n) h
      by false = refl

  -- the statements from number k on
  abbrev Standing : ℕ → List Statement → Type 0
  Standing k ss = (i : ℕ) (s : Statement) → slice_get ss i ≡ Some s → statement_at file.statements (k + i) ≡ Some s

  later : (k : ℕ) (s : Statement) (ss : List Statement) → Standing k (s ∷ ss) → Standing (suc k) ss
  later k s ss at i t e = let n : suc k + i ≡ k + suc i = omega arith in ap (statement_at file.statements) n ∙ at (suc i) t e

  own : (k : ℕ) (s : Statement) (ss : List Statement) → Standing k (s ∷ ss) → statement_at file.statements k ≡ Some s
  own k s ss at = let n : k ≡ k + 0 = omega arith in ap (statement_at file.statements) n ∙ at 0 s refl

  abbrev Walks : Bool → ℕ → List Statement → List Numbered → Type 0
  Walks conjecture k ss ns = first_unmet (passes view conjecture) ns (part_entries k ss) ≡ first_failing M (conditions_from conjecture k ss)

  walks : (conjecture : Bool) (k : ℕ) (ss : List Statement) (ns : List Numbered) → Standing k ss → all_named sig ns ≡ Some (formulas_from k ss) → All (λ (n : Numbered). IsSortedFormula sig n.node) ns → Walks conjecture k ss ns
  walks conjecture k [] [] at names sorted = refl
  walks conjecture k [] (n ∷ ns) at names sorted = refl
  walks conjecture k (Annotated name role (IsTyping t) ∷ ss) ns at names sorted = walks conjecture (suc k) ss ns (later k _ ss at) names sorted
  walks conjecture k (Annotated name role (IsLogic l) ∷ ss) ns at names sorted = walks conjecture (suc k) ss ns (later k _ ss at) names sorted
  walks conjecture k (Include f names' ∷ ss) ns at names sorted = walks conjecture (suc k) ss ns (later k _ ss at) names sorted
  walks conjecture k (Annotated name role (IsFormula f) ∷ ss) [] at names sorted = absurd cc
  walks conjecture k (Annotated name role (IsFormula f) ∷ ss) (n ∷ ns) at names sorted =
      joined (λ g gs. g ∷ gs) (named sig n) (all_named sig ns) _ names (λ g gs first rest same.
      let heads : g ≡ record { place = k; name = name; formula = f } = cc in
      let tails : gs ≡ formulas_from (suc k) ss = cc in
      let next = walks conjecture (suc k) ss ns (later k _ ss at) (rest ∙ ap Some tails) (All-tail (λ (m : Numbered). IsSortedFormula sig m.node) n ns sorted) in
      mapped (λ (h : Formula). record { place = n.place; name = n.name; formula = h }) (named_form sig [] n.node) g first (λ h stands whole.
      let place : n.place ≡ k = ap (λ (x : FormulaStatement). x.place) (whole ∙ heads) in
      let form : h ≡ f = ap (λ (x : FormulaStatement). x.formula) (whole ∙ heads) in
      by (part_of role) refl place (stands ∙ ap Some form) next))
    where
      by : (o : Option Part) → part_of role ≡ o → n.place ≡ k → named_form sig [] n.node ≡ Some f → Walks conjecture (suc k) ss ns
          → first_unmet (passes view conjecture) (n ∷ ns) (and_part k o (part_entries (suc k) ss)) ≡ first_failing M (and_condition conjecture k o (conditions_from conjecture (suc k) ss))
      by None has place stands next = passed-over (passes view conjecture) n ns (part_entries (suc k) ss) (parts-after n.place (suc k) ss (omega (arith, place))) ∙ next
      by (Some part) has place stands next =
          let asks = asked k name role f part n.node (own k _ ss at) has stands (All-head (λ (m : Numbered). IsSortedFormula sig m.node) n ns sorted) in
          judged (passes view conjecture) n ns k part (part_entries (suc k) ss) place
          ∙ ap (λ d. if passes view conjecture part n.node then d else Some (condition_of k part)) next
          ∙ sym (told conjecture k part n.node (conditions_from conjecture (suc k) ss) asks)

  module _ (ns : List Numbered) (entries : List PartEntry) (names : all_named sig ns ≡ Some (formulas_of file)) (sorted : All (λ (n : Numbered). IsSortedFormula sig n.node) ns) (parts : parts_of file ≡ Ok entries) where
    unless-ok : {A E : Type 0} (fault : Option E) (a b : A) → unless fault a ≡ Ok b → a ≡ b
    unless-ok None a b h = cc
    unless-ok (Some e) a b h = absurd cc

    standing : Standing 1 file.statements
    standing i s e = let n : 1 + i ≡ suc i = omega arith in ap (statement_at file.statements) n ∙ e

    whole : (conjecture : Bool) → first_unmet (passes view conjecture) ns entries ≡ first_failing M (conditions_from conjecture 1 file.statements)
    whole conjecture =
        ap (first_unmet (passes view conjecture) ns) (sym (unless-ok (first_fault role_fault 1 [] file.statements) (part_entries 1 file.statements) entries parts))
        ∙ walks conjecture 1 file.statements ns standing names sorted

    premises : first_unmet (passes view false) ns entries ≡ first_failing M (premises_from 1 file.statements)
    premises = whole false ∙ ap (first_failing M) (premises_same 1 file.statements)

    conjectures : first_unmet (passes view true) ns entries ≡ first_failing M (conjectures_from 1 file.statements)
    conjectures = whole true ∙ ap (first_failing M) (conjectures_same 1 file.statements)

    -- a premise that isn't met is the first, and else the conjecture
    pub premise-first : (c : Condition) → first_unmet (passes view false) ns entries ≡ Some c → IsFirstFailing M (part_conditions file) (Some c)
    premise-first c h = first_told M (part_conditions file) (Some c) (front_fails M (premises_from 1 file.statements) (conjectures_from 1 file.statements) c (sym premises ∙ h))

    pub conjecture-first : (found : Option Condition) → first_unmet (passes view false) ns entries ≡ None → first_unmet (passes view true) ns entries ≡ found → IsFirstFailing M (part_conditions file) found
    conjecture-first found h j = first_told M (part_conditions file) found (front_holds M (premises_from 1 file.statements) (conjectures_from 1 file.statements) (sym premises ∙ h) ∙ sym conjectures ∙ j)
