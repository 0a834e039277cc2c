-- A printed problem has at most one conjecture, since the roles of its file are refused where a second one comes.
use Rattle.std.proofs.Common.{◌≡◌, ℕ, suc, ◌+◌, ◌≤◌, Bool, true, false, cond, List, [], ◌∷◌, ◌++◌, length, Option, None, Some, Ok, refl, sym, ◌∙◌, subst, arith}
use Rattle.std.specs.Prelude.{map, filter, not, ◌&&◌, ◌||◌, if◌then◌else◌}
use Rattle.std.specs.Option.{option_map}
use Rattle.std.specs.List.{list_any}
use Rattle.std.proofs.lemmas.List.Folds.{list_any-append}
use Rattle.std.proofs.lemmas.List.Sums.{length-filter}
use Rattle.nxf_base.specs.declared.status.RoleKind.TheVariants.{Unknown, TwoConjectures}
use Rattle.nxf_tree.specs.declared.tree.Signature.{Signature}
use Rattle.nxf_tree.specs.declared.tree.ClassicalSignature.{ClassicalSignature}
use Rattle.nxf_tree.specs.declared.tree.SortName.{SortName}
use Rattle.nxf_tree.specs.declared.tree.SortName.TheVariants.{Individual, User}
use Rattle.nxf_tree.specs.declared.tree.TableEntry.{TableEntry}
use Rattle.nxf_tree.specs.declared.tree.Part.{Part}
use Rattle.nxf_tree.specs.declared.tree.Part.TheVariants.{Premise, Conjecture}
use Rattle.nxf_tree.specs.declared.tree.PartEntry.{PartEntry}
use Rattle.nxf_tree.specs.declared.tree.Formula.{Formula}
use Rattle.nxf_tree.specs.declared.tree.Body.TheVariants.{Formula as IsFormula, Typing as IsTyping, Logic as IsLogic}
use Rattle.nxf_tree.specs.declared.tree.Statement.{Statement}
use Rattle.nxf_tree.specs.declared.tree.Statement.TheVariants.{Annotated, Include}
use Rattle.nxf_tree.specs.declared.tree.File.{File}
use Rattle.nxf_tree.specs.Faults.{first_fault, unless}
use Rattle.nxf_tree.specs.Parts.{part_of, has_known_role, is_conjecture, statement_part, role_fault, part_entries, parts_of}
use Rattle.nxf_tree.specs.Axioms.{added_axioms}
use Rattle.nxf_tree.specs.ClassicalSignature.{classical_signature_of}
use Rattle.nxf_tree.specs.Problem.{problem_of, sort_declarations, table_declaration, declarations, axiom_statements, embedded_part, embedded_statement, embedded_statements}
use Rattle.signature_laws.proofs.NoFault.{or-none, map-none}
use Rattle.nxf_embed.specs.Kept.{has_conjecture_role, HasOneConjectureAtMost}

-- how many pass a test
module _ (p : Statement → Bool) where
  abbrev passing : List Statement → ℕ
  passing ss = length (filter p ss)

  passing-next : (s : Statement) (ss : List Statement) → passing (s ∷ ss) ≡ cond (p s) 1 0 + passing ss
  passing-next s ss = by (p s)
    where
      by : (b : Bool) → length (cond b (s ∷ filter p ss) (filter p ss)) ≡ cond b 1 0 + passing ss
      by true = omega arith
      by false = omega arith

  passing-append : (ss ts : List Statement) → passing (ss ++ ts) ≡ passing ss + passing ts
  passing-append [] ts = omega arith
  passing-append (s ∷ ss) ts = omega (arith, passing-next s (ss ++ ts), passing-next s ss, passing-append ss ts)

-- conjectures in the parts of a printed problem
abbrev conjectures : List Statement → ℕ
conjectures ss = passing has_conjecture_role ss

of_sorts : (sorts : List SortName) → conjectures (sort_declarations sorts) ≡ 0
of_sorts [] = refl
of_sorts (Individual ∷ sorts) = of_sorts sorts
of_sorts (User name ∷ sorts) = of_sorts sorts

of_tables : (sorts : List SortName) (tables : List TableEntry) → conjectures (map (table_declaration sorts) tables) ≡ 0
of_tables sorts [] = refl
of_tables sorts (table ∷ tables) = of_tables sorts tables

of_declarations : (csig : ClassicalSignature) → conjectures (declarations csig) ≡ 0
of_declarations csig = passing-append has_conjecture_role (sort_declarations csig.sorts) _ ∙ (λ i. of_sorts csig.sorts i + of_tables csig.sorts csig.tables i)

of_axioms : (n : ℕ) (fs : List Formula) → conjectures (axiom_statements n fs) ≡ 0
of_axioms n [] = refl
of_axioms n (f ∷ fs) = of_axioms (suc n) fs

-- whether a statement of a file is a conjecture
abbrev is_asked : Statement → Bool
is_asked s = is_conjecture (statement_part s)

of_part : (sig : Signature) (name : List ℕ) (f : Formula) (part : Option Part) → conjectures (embedded_part sig name f part) ≡ cond (is_conjecture part) 1 0
of_part sig name f None = refl
of_part sig name f (Some (Premise scope)) = refl
of_part sig name f (Some (Conjecture scope)) = refl

of_statement : (sig : Signature) (s : Statement) → conjectures (embedded_statement sig s) ≡ cond (is_asked s) 1 0
of_statement sig (Annotated name role (IsFormula f)) = of_part sig name f (part_of role)
of_statement sig (Annotated name role (IsTyping t)) = refl
of_statement sig (Annotated name role (IsLogic l)) = refl
of_statement sig (Include file names) = refl

of_statements : (sig : Signature) (ss : List Statement) → conjectures (embedded_statements sig ss) ≡ passing is_asked ss
of_statements sig [] = refl
of_statements sig (s ∷ ss) =
    passing-append has_conjecture_role (embedded_statement sig s) (embedded_statements sig ss)
    ∙ (λ i. of_statement sig s i + of_statements sig ss i)
    ∙ sym (passing-next is_asked s ss)

-- statements without a fault have at most one conjecture together with those before them
one_asked : (k : ℕ) (before ss : List Statement) → first_fault role_fault k before ss ≡ None → cond (list_any is_asked before) 1 0 + passing is_asked ss ≤ 1
one_asked k before [] h = by (list_any is_asked before)
  where
    by : (b : Bool) → cond b 1 0 + 0 ≤ 1
    by true = omega arith
    by false = omega arith
one_asked k before (s ∷ ss) h =
    let parts : (option_map (λ fault. (k, fault)) (role_fault before s) ≡ None) × (first_fault role_fault (suc k) (before ++ s ∷ []) ss ≡ None) = or-none _ _ h in
    let rest : cond (list_any is_asked before || (is_asked s || false)) 1 0 + passing is_asked ss ≤ 1 =
    subst (λ b. cond b 1 0 + passing is_asked ss ≤ 1) (list_any-append is_asked before (s ∷ [])) (one_asked (suc k) (before ++ s ∷ []) ss parts.1) in
    by (list_any is_asked before) (is_asked s) (alone (has_known_role s) (is_asked s) (list_any is_asked before) (map-none _ (role_fault before s) parts.0)) rest
  where
    alone : (known asked earlier : Bool) → (if not known then Some Unknown else (if asked && earlier then Some TwoConjectures else None)) ≡ None → asked && earlier ≡ false
    alone true true true e = absurd cc
    alone true true false e = refl
    alone true false earlier e = refl
    alone false asked earlier e = absurd cc

    by : (earlier asked : Bool) → asked && earlier ≡ false → cond (earlier || (asked || false)) 1 0 + passing is_asked ss ≤ 1 → cond earlier 1 0 + length (cond asked (s ∷ filter is_asked ss) (filter is_asked ss)) ≤ 1
    by true true e h = absurd cc
    by true false e h = h
    by false true e h = omega (arith, h)
    by false false e h = h

no-fault : {A E : Type 0} (fault : Option E) (a b : A) → unless fault a ≡ Ok b → fault ≡ None
no-fault None a b h = refl
no-fault (Some e) a b h = absurd cc

pub one_conjecture : (sig : Signature) (file : File) (parts : List PartEntry) → parts_of file ≡ Ok parts → HasOneConjectureAtMost (problem_of sig file)
one_conjecture sig file parts h =
    let ss = file.statements in
    let declared = declarations (classical_signature_of sig) in
    let axioms = axiom_statements 1 (added_axioms sig) in
    let one : 0 + passing is_asked ss ≤ 1 = one_asked 1 [] ss (no-fault (first_fault role_fault 1 [] ss) (part_entries 1 ss) parts h) in
    omega (
      arith,
      sym (length-filter has_conjecture_role (problem_of sig file).statements),
      passing-append has_conjecture_role declared (axioms ++ embedded_statements sig ss),
      passing-append has_conjecture_role axioms (embedded_statements sig ss),
      of_declarations (classical_signature_of sig),
      of_axioms 1 (added_axioms sig),
      of_statements sig ss,
      one,
    )
