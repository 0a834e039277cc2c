-- The printed problem is over the classical signature.
use Rattle.std.proofs.Common.{◌≡◌, ℕ, suc, true, List, [], ◌∷◌, ◌++◌, refl, ap, ◌∙◌}
use Rattle.std.specs.Prelude.{◌&&◌, map, Option, None, Some}
use Rattle.std.proofs.lemmas.List.{append-nil}
use Rattle.nxf_tree.specs.declared.tree.Signature.{Signature}
use Rattle.nxf_tree.specs.declared.tree.ClassicalSignature.{ClassicalSignature}
use Rattle.nxf_tree.specs.declared.tree.TableEntry.{TableEntry}
use Rattle.nxf_tree.specs.declared.tree.SortName.{SortName}
use Rattle.nxf_tree.specs.declared.tree.SortName.TheVariants.{Individual, User}
use Rattle.nxf_tree.specs.declared.tree.Part.{Part}
use Rattle.nxf_tree.specs.declared.tree.Part.TheVariants.{Premise, Conjecture}
use Rattle.nxf_tree.specs.declared.tree.Formula.{Formula}
use Rattle.nxf_tree.specs.declared.tree.Typing.TheVariants.{Sort, Symbol}
use Rattle.nxf_tree.specs.declared.tree.Body.TheVariants.{Formula as IsFormula, Typing as IsTyping, Logic as IsLogic}
use Rattle.nxf_tree.specs.declared.tree.Statement.{Statement}
use Rattle.nxf_tree.specs.declared.tree.Statement.TheVariants.{Annotated, Include}
use Rattle.nxf_tree.specs.declared.tree.File.{File}
use Rattle.std.specs.List.{list_all}
use Rattle.nxf_tree.specs.Names.{actual_name, world_name}
use Rattle.nxf_tree.specs.ClassicalSignature.{classical_signature_of}
use Rattle.nxf_tree.specs.Axioms.{added_axioms}
use Rattle.nxf_tree.specs.Parts.{part_of}
use Rattle.nxf_tree.specs.Problem.{declaration, sort_declarations, table_declaration, declarations, axiom_statements, embedded_part, embedded_statement, embedded_statements, problem_of}
use Rattle.nxf_tree.specs.Sorting.{Language, is_sorted, modal_language, statement_is_sorted, IsWellSorted, type_statements, is_classical_statement, FileIsOver}
use Rattle.name_laws.proofs.GoodSymbols.{HasGoodSymbols, good-from}
use Rattle.std.proofs.lemmas.List.Folds.{list_all-append}
use Rattle.embedding_laws.specs.Laws.{FileLaw}
use Rattle.name_laws.proofs.Types.{split, CL}
use Rattle.name_laws.proofs.SortedFormulas.{both, embedded-sorted}
use Rattle.embedding_laws.proofs.SortedAxioms.{added-sorted}

types-append : (xs ys : List Statement) → type_statements (xs ++ ys) ≡ type_statements xs ++ type_statements ys
types-append [] ys = refl
types-append (Annotated name role (IsFormula f) ∷ xs) ys = types-append xs ys
types-append (Annotated name role (IsTyping t) ∷ xs) ys = ap (λ l. Annotated name role (IsTyping t) ∷ l) (types-append xs ys)
types-append (Annotated name role (IsLogic l) ∷ xs) ys = types-append xs ys
types-append (Include file names ∷ xs) ys = types-append xs ys

sort-types : (sorts : List SortName) → type_statements (sort_declarations sorts) ≡ sort_declarations sorts
sort-types [] = refl
sort-types (Individual ∷ sorts) = sort-types sorts
sort-types (User name ∷ sorts) = ap (λ l. declaration name (Sort name) ∷ l) (sort-types sorts)

table-types : (sorts : List SortName) (entries : List TableEntry) → type_statements (map (table_declaration sorts) entries) ≡ map (table_declaration sorts) entries
table-types sorts [] = refl
table-types sorts (entry ∷ entries) = ap (λ l. table_declaration sorts entry ∷ l) (table-types sorts entries)

declared-types : (csig : ClassicalSignature) → type_statements (declarations csig) ≡ declarations csig
declared-types csig =
    types-append (sort_declarations csig.sorts) _
    ∙ (λ i. sort-types csig.sorts i ++ (declaration actual_name (Symbol actual_name [] (Some (User world_name))) ∷ table-types csig.sorts csig.tables i))

axiom-types : (n : ℕ) (fs : List Formula) → type_statements (axiom_statements n fs) ≡ []
axiom-types n [] = refl
axiom-types n (f ∷ fs) = axiom-types (suc n) fs

part-types : (sig : Signature) (name : List ℕ) (f : Formula) (part : Option Part) → type_statements (embedded_part sig name f part) ≡ []
part-types sig name f None = refl
part-types sig name f (Some (Premise scope)) = refl
part-types sig name f (Some (Conjecture scope)) = refl

statement-types : (sig : Signature) (s : Statement) → type_statements (embedded_statement sig s) ≡ []
statement-types sig (Annotated name role (IsFormula f)) = part-types sig name f (part_of role)
statement-types sig (Annotated name role (IsTyping t)) = refl
statement-types sig (Annotated name role (IsLogic l)) = refl
statement-types sig (Include file names) = refl

statements-types : (sig : Signature) (ss : List Statement) → type_statements (embedded_statements sig ss) ≡ []
statements-types sig [] = refl
statements-types sig (s ∷ ss) = types-append (embedded_statement sig s) (embedded_statements sig ss) ∙ (λ i. statement-types sig s i ++ statements-types sig ss i)

-- the printed problem has formulas and type statements only
sorts-classical : (sorts : List SortName) → list_all is_classical_statement (sort_declarations sorts) ≡ true
sorts-classical [] = refl
sorts-classical (Individual ∷ sorts) = sorts-classical sorts
sorts-classical (User name ∷ sorts) = sorts-classical sorts

tables-classical : (sorts : List SortName) (entries : List TableEntry) → list_all is_classical_statement (map (table_declaration sorts) entries) ≡ true
tables-classical sorts [] = refl
tables-classical sorts (entry ∷ entries) = tables-classical sorts entries

declarations-classical : (csig : ClassicalSignature) → list_all is_classical_statement (declarations csig) ≡ true
declarations-classical csig = list_all-append is_classical_statement (sort_declarations csig.sorts) _ ∙ (λ i. sorts-classical csig.sorts i && tables-classical csig.sorts csig.tables i)

axioms-classical : (n : ℕ) (fs : List Formula) → list_all is_classical_statement (axiom_statements n fs) ≡ true
axioms-classical n [] = refl
axioms-classical n (f ∷ fs) = axioms-classical (suc n) fs

part-classical : (sig : Signature) (name : List ℕ) (f : Formula) (part : Option Part) → list_all is_classical_statement (embedded_part sig name f part) ≡ true
part-classical sig name f None = refl
part-classical sig name f (Some (Premise scope)) = refl
part-classical sig name f (Some (Conjecture scope)) = refl

statement-classical : (sig : Signature) (s : Statement) → list_all is_classical_statement (embedded_statement sig s) ≡ true
statement-classical sig (Annotated name role (IsFormula f)) = part-classical sig name f (part_of role)
statement-classical sig (Annotated name role (IsTyping t)) = refl
statement-classical sig (Annotated name role (IsLogic l)) = refl
statement-classical sig (Include file names) = refl

statements-classical : (sig : Signature) (ss : List Statement) → list_all is_classical_statement (embedded_statements sig ss) ≡ true
statements-classical sig [] = refl
statements-classical sig (s ∷ ss) = list_all-append is_classical_statement (embedded_statement sig s) (embedded_statements sig ss) ∙ both _ _ (statement-classical sig s) (statements-classical sig ss)

-- declarations have no formula
module _ (M : Language) where
  sorts-sorted : (sorts : List SortName) → list_all (statement_is_sorted M) (sort_declarations sorts) ≡ true
  sorts-sorted [] = refl
  sorts-sorted (Individual ∷ sorts) = sorts-sorted sorts
  sorts-sorted (User name ∷ sorts) = sorts-sorted sorts

  tables-sorted : (sorts : List SortName) (entries : List TableEntry) → list_all (statement_is_sorted M) (map (table_declaration sorts) entries) ≡ true
  tables-sorted sorts [] = refl
  tables-sorted sorts (entry ∷ entries) = tables-sorted sorts entries

  declarations-sorted : (csig : ClassicalSignature) → list_all (statement_is_sorted M) (declarations csig) ≡ true
  declarations-sorted csig = list_all-append (statement_is_sorted M) (sort_declarations csig.sorts) _ ∙ (λ i. sorts-sorted csig.sorts i && tables-sorted csig.sorts csig.tables i)

  axioms-sorted : (n : ℕ) (fs : List Formula) → list_all (statement_is_sorted M) (axiom_statements n fs) ≡ list_all (is_sorted M []) fs
  axioms-sorted n [] = refl
  axioms-sorted n (f ∷ fs) = ap (λ b. is_sorted M [] f && b) (axioms-sorted (suc n) fs)

module _ (sig : Signature) where
  part-sorted : (name : List ℕ) (f : Formula) (part : Option Part) → is_sorted (modal_language sig) [] f ≡ true → list_all (statement_is_sorted (CL sig)) (embedded_part sig name f part) ≡ true
  part-sorted name f None h = refl
  part-sorted name f (Some (Premise scope)) h = both _ _ (embedded-sorted sig scope f h) refl
  part-sorted name f (Some (Conjecture scope)) h = both _ _ (embedded-sorted sig scope f h) refl

  statement-sorted : (s : Statement) → statement_is_sorted (modal_language sig) s ≡ true → list_all (statement_is_sorted (CL sig)) (embedded_statement sig s) ≡ true
  statement-sorted (Annotated name role (IsFormula f)) h = part-sorted name f (part_of role) h
  statement-sorted (Annotated name role (IsTyping t)) h = refl
  statement-sorted (Annotated name role (IsLogic l)) h = refl
  statement-sorted (Include file names) h = refl

  statements-sorted : (ss : List Statement) → list_all (statement_is_sorted (modal_language sig)) ss ≡ true → list_all (statement_is_sorted (CL sig)) (embedded_statements sig ss) ≡ true
  statements-sorted [] h = refl
  statements-sorted (s ∷ ss) h =
      list_all-append (statement_is_sorted (CL sig)) (embedded_statement sig s) (embedded_statements sig ss)
      ∙ both _ _ (statement-sorted s (split _ _ h).0) (statements-sorted ss (split _ _ h).1)

  over-from : (file : File) → HasGoodSymbols sig → IsWellSorted sig file → FileIsOver (classical_signature_of sig) (problem_of sig file)
  over-from file good h = record {
    classical =
        list_all-append is_classical_statement (declarations (classical_signature_of sig)) _
        ∙ both _ _ (declarations-classical (classical_signature_of sig))
        (list_all-append is_classical_statement (axiom_statements 1 (added_axioms sig)) (embedded_statements sig file.statements)
        ∙ both _ _ (axioms-classical 1 (added_axioms sig)) (statements-classical sig file.statements));
    declared =
        types-append (declarations (classical_signature_of sig)) _
        ∙ (λ i. declared-types (classical_signature_of sig) i ++ (types-append (axiom_statements 1 (added_axioms sig)) (embedded_statements sig file.statements) ∙ (λ j. axiom-types 1 (added_axioms sig) j ++ statements-types sig file.statements j)) i)
        ∙ append-nil (declarations (classical_signature_of sig));
    sorted =
        list_all-append (statement_is_sorted (CL sig)) (declarations (classical_signature_of sig)) _
        ∙ both _ _ (declarations-sorted (CL sig) (classical_signature_of sig))
        (list_all-append (statement_is_sorted (CL sig)) (axiom_statements 1 (added_axioms sig)) (embedded_statements sig file.statements)
        ∙ both _ _ (axioms-sorted (CL sig) 1 (added_axioms sig) ∙ added-sorted sig good) (statements-sorted file.statements h));
  }

pub file-law : FileLaw
file-law sig file different numbers h = over-from sig file (good-from sig different numbers) h
