-- The formulas and the parts of a file give the translations of its statements, and its formulas are well sorted.
use Rattle.std.proofs.Common.{◌≡◌, ℕ, suc, ◌<◌, true, List, [], ◌∷◌, ◌++◌, refl, sym, ap, ◌∙◌, arith}
use Rattle.std.specs.Prelude.{Option, None, Some, Ok}
use Rattle.std.specs.List.{All, list_all}
use Rattle.std.proofs.lemmas.List.Elements.{All-head, All-tail}
use Rattle.nxf_tree.specs.declared.tree.Signature.{Signature}
use Rattle.nxf_tree.specs.declared.tree.Part.{Part}
use Rattle.nxf_tree.specs.declared.tree.Part.TheVariants.{Premise, Conjecture}
use Rattle.nxf_tree.specs.declared.tree.PartEntry.{PartEntry}
use Rattle.nxf_tree.specs.declared.tree.Formula.{Formula}
use Rattle.nxf_tree.specs.declared.tree.Body.TheVariants.{Formula as IsFormula, Typing as IsTyping, Logic as IsLogic}
use Rattle.nxf_tree.specs.declared.tree.Statement.{Statement}
use Rattle.nxf_tree.specs.declared.tree.Statement.TheVariants.{Annotated, Include}
use Rattle.nxf_tree.specs.declared.tree.File.{File}
use Rattle.nxf_tree.specs.Faults.{first_fault, unless}
use Rattle.nxf_tree.specs.Parts.{part_of, role_fault, statement_part, and_part, part_entries, parts_of}
use Rattle.nxf_tree.specs.Problem.{embedded_part, embedded_statements}
use Rattle.nxf_tree.specs.Sorting.{is_sorted, modal_language, statement_is_sorted, IsWellSorted}
use Rattle.name_laws.proofs.SortedFormulas.{both as both-true}
use Rattle.name_laws.proofs.Types.{split}
use Rattle.numbered_definitions.specs.declared.node.Numbered.{Numbered}
use Rattle.numbered_definitions.specs.NamedForm.{FormulaStatement, IsSortedFormula, named, all_named, formulas_from, formulas_of}
use Rattle.numbered_definitions.proofs.CallerLemmas.{joined}
use Rattle.nxf_embed.specs.steps.Chosen.{part_statement, chosen}
use Rattle.nxf_embed.proofs.Choosing.{not-chosen, is-chosen, form-is}

skip-part : (sig : Signature) (f : FormulaStatement) (fs : List FormulaStatement) (k : ℕ) (part : Option Part) (ps : List PartEntry) → f.place < k
    → chosen sig (f ∷ fs) ps ≡ chosen sig fs ps → chosen sig (f ∷ fs) (and_part k part ps) ≡ chosen sig fs (and_part k part ps)
skip-part sig f fs k None ps l h = h
skip-part sig f fs k (Some part) ps l h = not-chosen sig f fs (record { place = k; part = part }) ps (λ e. absurd (omega arith))

-- a formula before all parts has none
skip : (sig : Signature) (f : FormulaStatement) (fs : List FormulaStatement) (k : ℕ) (ss : List Statement) → f.place < k → chosen sig (f ∷ fs) (part_entries k ss) ≡ chosen sig fs (part_entries k ss)
skip sig f [] k [] l = refl
skip sig f (g ∷ fs) k [] l = refl
skip sig f fs k (s ∷ ss) l = skip-part sig f fs k (statement_part s) (part_entries (suc k) ss) l (skip sig f fs (suc k) ss (omega arith))

own-part : (sig : Signature) (name : List ℕ) (f : Formula) (fs : List FormulaStatement) (k : ℕ) (part : Option Part) (ps : List PartEntry) (rest : List Statement)
    → chosen sig (record { place = k; name = name; formula = f } ∷ fs) ps ≡ chosen sig fs ps → chosen sig fs ps ≡ rest
    → chosen sig (record { place = k; name = name; formula = f } ∷ fs) (and_part k part ps) ≡ embedded_part sig name f part ++ rest
own-part sig name f fs k None ps rest h e = h ∙ e
own-part sig name f fs k (Some (Premise scope)) ps rest h e =
    is-chosen sig (record { place = k; name = name; formula = f }) fs (record { place = k; part = Premise scope }) ps refl ∙ ap (λ ss. part_statement sig name f (Premise scope) ∷ ss) e
own-part sig name f fs k (Some (Conjecture scope)) ps rest h e =
    is-chosen sig (record { place = k; name = name; formula = f }) fs (record { place = k; part = Conjecture scope }) ps refl ∙ ap (λ ss. part_statement sig name f (Conjecture scope) ∷ ss) e

statements-chosen : (sig : Signature) (k : ℕ) (ss : List Statement) → chosen sig (formulas_from k ss) (part_entries k ss) ≡ embedded_statements sig ss
statements-chosen sig k [] = refl
statements-chosen sig k (Annotated name role (IsFormula f) ∷ ss) =
    own-part sig name f (formulas_from (suc k) ss) k (part_of role) (part_entries (suc k) ss) (embedded_statements sig ss)
    (skip sig (record { place = k; name = name; formula = f }) (formulas_from (suc k) ss) (suc k) ss (omega arith)) (statements-chosen sig (suc k) ss)
statements-chosen sig k (Annotated name role (IsTyping t) ∷ ss) = statements-chosen sig (suc k) ss
statements-chosen sig k (Annotated name role (IsLogic l) ∷ ss) = statements-chosen sig (suc k) ss
statements-chosen sig k (Include file names ∷ ss) = statements-chosen sig (suc k) ss

unless-ok : {A E : Type 0} (fault : Option E) (a b : A) → unless fault a ≡ Ok b → a ≡ b
unless-ok None a b h = cc
unless-ok (Some e) a b h = absurd cc

-- the formulas of a file that have parts are its translated statements
pub file-chosen : (sig : Signature) (file : File) (parts : List PartEntry) → parts_of file ≡ Ok parts → chosen sig (formulas_of file) parts ≡ embedded_statements sig file.statements
file-chosen sig file parts h =
    ap (chosen sig (formulas_of file)) (sym (unless-ok (first_fault role_fault 1 [] file.statements) (part_entries 1 file.statements) parts h)) ∙ statements-chosen sig 1 file.statements

all-sorted : (sig : Signature) (ns : List Numbered) (fs : List FormulaStatement) → all_named sig ns ≡ Some fs → All (λ (n : Numbered). IsSortedFormula sig n.node) ns
    → list_all (λ (f : FormulaStatement). is_sorted (modal_language sig) [] f.formula) fs ≡ true
all-sorted sig [] [] h each = refl
all-sorted sig [] (f ∷ fs) h each = absurd cc
all-sorted sig (n ∷ ns) fs h each =
    joined (λ f fs. f ∷ fs) (named sig n) (all_named sig ns) fs h (λ g gs e i j.
    let sorted : IsSortedFormula sig n.node = All-head (λ (n : Numbered). IsSortedFormula sig n.node) n ns each in
    let same : Some sorted.formula ≡ Some g.formula = sym sorted.named ∙ form-is sig n g e in
    let is : sorted.formula ≡ g.formula = cc in
    ap (list_all (λ (f : FormulaStatement). is_sorted (modal_language sig) [] f.formula)) (sym j)
    ∙ both-true _ _ (ap (is_sorted (modal_language sig) []) (sym is) ∙ sorted.sorted) (all-sorted sig ns gs i (All-tail (λ (n : Numbered). IsSortedFormula sig n.node) n ns each)))

statements-sorted : (sig : Signature) (k : ℕ) (ss : List Statement) → list_all (λ (f : FormulaStatement). is_sorted (modal_language sig) [] f.formula) (formulas_from k ss) ≡ true → list_all (statement_is_sorted (modal_language sig)) ss ≡ true
statements-sorted sig k [] h = refl
statements-sorted sig k (Annotated name role (IsFormula f) ∷ ss) h = let parts = split _ _ h in both-true _ _ parts.0 (statements-sorted sig (suc k) ss parts.1)
statements-sorted sig k (Annotated name role (IsTyping t) ∷ ss) h = statements-sorted sig (suc k) ss h
statements-sorted sig k (Annotated name role (IsLogic l) ∷ ss) h = statements-sorted sig (suc k) ss h
statements-sorted sig k (Include file names ∷ ss) h = statements-sorted sig (suc k) ss h

-- a file whose numbered formulas are sorted is well sorted
pub file-sorted : (sig : Signature) (file : File) (ns : List Numbered) → all_named sig ns ≡ Some (formulas_of file) → All (λ (n : Numbered). IsSortedFormula sig n.node) ns → IsWellSorted sig file
file-sorted sig file ns h each = statements-sorted sig 1 file.statements (all-sorted sig ns (formulas_of file) h each)
