-- A printed problem has no logic statement.
use Rattle.std.proofs.Common.{◌≡◌, ℕ, suc, true, List, [], ◌∷◌, ◌++◌, refl, ◌∙◌}
use Rattle.std.specs.Prelude.{map, ◌&&◌, Option, None, Some}
use Rattle.std.specs.List.{list_all}
use Rattle.std.proofs.lemmas.List.Folds.{list_all-append}
use Rattle.nxf_tree.specs.declared.tree.Signature.{Signature}
use Rattle.nxf_tree.specs.declared.tree.ClassicalSignature.{ClassicalSignature}
use Rattle.nxf_tree.specs.declared.tree.SortName.{SortName}
use Rattle.nxf_tree.specs.declared.tree.SortName.TheVariants.{Individual, User}
use Rattle.nxf_tree.specs.declared.tree.TableEntry.{TableEntry}
use Rattle.nxf_tree.specs.declared.tree.Part.{Part}
use Rattle.nxf_tree.specs.declared.tree.Part.TheVariants.{Premise, Conjecture}
use Rattle.nxf_tree.specs.declared.tree.Formula.{Formula}
use Rattle.nxf_tree.specs.declared.tree.Body.TheVariants.{Formula as IsFormula, Typing as IsTyping, Logic as IsLogic}
use Rattle.nxf_tree.specs.declared.tree.Statement.{Statement}
use Rattle.nxf_tree.specs.declared.tree.Statement.TheVariants.{Annotated, Include}
use Rattle.nxf_tree.specs.declared.tree.File.{File}
use Rattle.nxf_tree.specs.Parts.{part_of}
use Rattle.nxf_tree.specs.Axioms.{added_axioms}
use Rattle.nxf_tree.specs.ClassicalSignature.{classical_signature_of}
use Rattle.nxf_tree.specs.Problem.{problem_of, sort_declarations, table_declaration, declarations, axiom_statements, embedded_part, embedded_statement, embedded_statements}
use Rattle.nxf_tree.specs.Text.{has_text, is_printable}

abbrev All : List Statement → Type 0
All statements = list_all has_text statements ≡ true

both : (xs ys : List Statement) → All xs → All ys → All (xs ++ ys)
both xs ys h k = list_all-append has_text xs ys ∙ (λ i. h i && k i)

of_sorts : (sorts : List SortName) → All (sort_declarations sorts)
of_sorts [] = refl
of_sorts (Individual ∷ sorts) = of_sorts sorts
of_sorts (User name ∷ sorts) = of_sorts sorts

of_tables : (sorts : List SortName) (tables : List TableEntry) → All (map (table_declaration sorts) tables)
of_tables sorts [] = refl
of_tables sorts (table ∷ tables) = of_tables sorts tables

of_declarations : (csig : ClassicalSignature) → All (declarations csig)
of_declarations csig = both (sort_declarations csig.sorts) _ (of_sorts csig.sorts) (of_tables csig.sorts csig.tables)

of_axioms : (n : ℕ) (fs : List Formula) → All (axiom_statements n fs)
of_axioms n [] = refl
of_axioms n (f ∷ fs) = of_axioms (suc n) fs

of_part : (sig : Signature) (name : List ℕ) (f : Formula) (part : Option Part) → All (embedded_part sig name f part)
of_part sig name f None = refl
of_part sig name f (Some (Premise scope)) = refl
of_part sig name f (Some (Conjecture scope)) = refl

of_statement : (sig : Signature) (s : Statement) → All (embedded_statement sig s)
of_statement sig (Annotated name role (IsFormula f)) = of_part sig name f (part_of role)
of_statement sig (Annotated name role (IsTyping t)) = refl
of_statement sig (Annotated name role (IsLogic l)) = refl
of_statement sig (Include file names) = refl

of_statements : (sig : Signature) (ss : List Statement) → All (embedded_statements sig ss)
of_statements sig [] = refl
of_statements sig (s ∷ ss) = both (embedded_statement sig s) _ (of_statement sig s) (of_statements sig ss)

pub problem_is_printable : (sig : Signature) (file : File) → is_printable (problem_of sig file) ≡ true
problem_is_printable sig file =
    both (declarations (classical_signature_of sig)) _ (of_declarations (classical_signature_of sig))
    (both (axiom_statements 1 (added_axioms sig)) _ (of_axioms 1 (added_axioms sig)) (of_statements sig file.statements))
