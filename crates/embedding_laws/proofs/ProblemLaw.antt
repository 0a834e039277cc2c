-- The printed problem says what the file asks.
use Rattle.std.proofs.Common.{◌≡◌, ℕ, suc, Bool, true, false, List, [], ◌∷◌, ◌++◌, refl, ap, ◌∙◌}
use Rattle.std.specs.Prelude.{◌&&◌, not, map, Option, None, Some}
use Rattle.nxf_tree.specs.declared.tree.Signature.{Signature}
use Rattle.nxf_tree.specs.declared.tree.ClassicalSignature.{ClassicalSignature}
use Rattle.nxf_tree.specs.declared.tree.TableEntry.{TableEntry}
use Rattle.nxf_tree.specs.declared.tree.SortName.{SortName}
use Rattle.nxf_tree.specs.declared.tree.SortName.TheVariants.{Individual, User}
use Rattle.nxf_tree.specs.declared.tree.Scope.{Scope}
use Rattle.nxf_tree.specs.declared.tree.Scope.TheVariants.{Local, Global}
use Rattle.nxf_tree.specs.declared.tree.Part.{Part}
use Rattle.nxf_tree.specs.declared.tree.Part.TheVariants.{Premise, Conjecture}
use Rattle.nxf_tree.specs.declared.tree.Term.{Var}
use Rattle.nxf_tree.specs.declared.tree.Formula.{Formula}
use Rattle.nxf_tree.specs.declared.tree.Body.TheVariants.{Formula as IsFormula, Typing as IsTyping, Logic as IsLogic}
use Rattle.nxf_tree.specs.declared.tree.Statement.{Statement}
use Rattle.nxf_tree.specs.declared.tree.Statement.TheVariants.{Annotated, Include}
use Rattle.nxf_tree.specs.declared.tree.File.{File}
use Rattle.nxf_tree.specs.Shapes.{Name0}
use Rattle.std.specs.List.{list_all}
use Rattle.nxf_tree.specs.Names.{actual_name, world_variable}
use Rattle.nxf_tree.specs.Kripke.{KripkeModel}
use Rattle.nxf_tree.specs.Classical.{ClassicalModel, csat}
use Rattle.nxf_tree.specs.Embedding.{embedded}
use Rattle.nxf_tree.specs.ClassicalSignature.{classical_signature_of}
use Rattle.nxf_tree.specs.Conditions.{meets_frames, meets_domains, meets_terms}
use Rattle.nxf_tree.specs.Axioms.{frame_axioms, domain_axioms, term_axioms, added_axioms}
use Rattle.nxf_tree.specs.Parts.{part_of}
use Rattle.nxf_tree.specs.Problem.{sort_declarations, table_declaration, declarations, axiom_statements, embedded_part, embedded_statement, embedded_statements, problem_of}
use Rattle.nxf_tree.specs.Countermodels.{holds_in, meets_part, meets_statement, meets_classical_statement}
use Rattle.name_laws.specs.Agreement.{Agrees}
use Rattle.name_laws.proofs.Bounds.{and-true, all_below-same}
use Rattle.std.proofs.lemmas.List.Folds.{list_all-append}
use Rattle.name_laws.specs.Standing.{Stands, actual}
use Rattle.embedding_laws.proofs.Transfer.{transfer, under_box}
use Rattle.embedding_laws.proofs.FrameLaw.{frames-law}
use Rattle.embedding_laws.proofs.DomainLaw.{domains-law}
use Rattle.embedding_laws.proofs.TermLaw.{terms-law}

regroup : (a b c d : Bool) → (a && (b && c)) && d ≡ a && (b && (c && d))
regroup true true c d = refl
regroup true false c d = refl
regroup false b c d = refl

-- declarations ask nothing
module _ (S : ClassicalModel) where
  sorts-ask : (sorts : List SortName) → list_all (meets_classical_statement S) (sort_declarations sorts) ≡ true
  sorts-ask [] = refl
  sorts-ask (Individual ∷ sorts) = sorts-ask sorts
  sorts-ask (User name ∷ sorts) = sorts-ask sorts

  tables-ask : (sorts : List SortName) (entries : List TableEntry) → list_all (meets_classical_statement S) (map (table_declaration sorts) entries) ≡ true
  tables-ask sorts [] = refl
  tables-ask sorts (entry ∷ entries) = tables-ask sorts entries

  declarations-ask : (csig : ClassicalSignature) → list_all (meets_classical_statement S) (declarations csig) ≡ true
  declarations-ask csig =
      list_all-append (meets_classical_statement S) (sort_declarations csig.sorts) _
      ∙ (λ i. sorts-ask csig.sorts i && tables-ask csig.sorts csig.tables i)

  axioms-ask : (n : ℕ) (fs : List Formula) → list_all (meets_classical_statement S) (axiom_statements n fs) ≡ list_all (csat S []) fs
  axioms-ask n [] = refl
  axioms-ask n (f ∷ fs) = ap (λ b. csat S [] f && b) (axioms-ask (suc n) fs)

module _ (sig : Signature) (K : KripkeModel) (S : ClassicalModel) (c : Agrees sig K S) where
  at_actual : Stands S [] [] (Name0 actual_name) K.actual 0
  at_actual = record {
    renamed = λ x. refl;
    term = actual;
    at = c.actual;
  }

  pub scope-law : (scope : Scope) (f : Formula) → csat S [] (embedded sig scope f) ≡ holds_in K scope f
  scope-law Local f = transfer sig K S c f K.actual 0 (Name0 actual_name) [] [] at_actual
  scope-law Global f =
      all_below-same _ _ _ _ c.worlds (λ w. transfer sig K S c f w 1 (Var (world_variable 0)) [] ((world_variable 0, w) ∷ []) (under_box S [] [] (Name0 actual_name) K.actual 0 w at_actual))

  part-law : (name : List ℕ) (f : Formula) (part : Option Part) → list_all (meets_classical_statement S) (embedded_part sig name f part) ≡ meets_part K f part
  part-law name f None = refl
  part-law name f (Some (Premise scope)) = and-true _ ∙ scope-law scope f
  part-law name f (Some (Conjecture scope)) = and-true _ ∙ ap not (scope-law scope f)

  statement-law : (s : Statement) → list_all (meets_classical_statement S) (embedded_statement sig s) ≡ meets_statement K s
  statement-law (Annotated name role (IsFormula f)) = part-law name f (part_of role)
  statement-law (Annotated name role (IsTyping t)) = refl
  statement-law (Annotated name role (IsLogic l)) = refl
  statement-law (Include file names) = refl

  statements-law : (ss : List Statement) → list_all (meets_classical_statement S) (embedded_statements sig ss) ≡ list_all (meets_statement K) ss
  statements-law [] = refl
  statements-law (s ∷ ss) =
      list_all-append (meets_classical_statement S) (embedded_statement sig s) (embedded_statements sig ss)
      ∙ (λ i. statement-law s i && statements-law ss i)

  added-law : list_all (csat S []) (added_axioms sig) ≡ meets_frames sig K && (meets_domains sig K && meets_terms sig K)
  added-law =
      list_all-append (csat S []) (frame_axioms sig.indexes) _
      ∙ (λ i. frames-law sig K S c i && (list_all-append (csat S []) (domain_axioms sig) (term_axioms sig) ∙ (λ j. domains-law sig K S c j && terms-law sig K S c j)) i)

  pub problem-law : (file : File) → list_all (meets_classical_statement S) (problem_of sig file).statements ≡ meets_frames sig K && (meets_domains sig K && (meets_terms sig K && list_all (meets_statement K) file.statements))
  problem-law file =
      list_all-append (meets_classical_statement S) (declarations (classical_signature_of sig)) _
      ∙ ap (λ b. b && list_all (meets_classical_statement S) (axiom_statements 1 (added_axioms sig) ++ embedded_statements sig file.statements)) (declarations-ask S (classical_signature_of sig))
      ∙ list_all-append (meets_classical_statement S) (axiom_statements 1 (added_axioms sig)) (embedded_statements sig file.statements)
      ∙ (λ i. (axioms-ask S 1 (added_axioms sig) ∙ added-law) i && statements-law file.statements i)
      ∙ regroup (meets_frames sig K) (meets_domains sig K) (meets_terms sig K) _
