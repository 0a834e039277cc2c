-- Statements that are printed one after the other.
use Rattle.std.proofs.Common.{◌≡◌, ℕ, zero, suc, ◌+◌, ◌<◌, ◌≤◌, List, [], ◌∷◌, ◌++◌, map, length, drop, get_or, refl, sym, ap, ap₂, subst, ◌∙◌, append_assoc, append-nil, arith}
use Rattle.std.specs.Prelude.{flat_map}
use Rattle.std.specs.List.{fold}
use Rattle.std.proofs.lemmas.List.{drop_more, drop_all, length-map}
use Rattle.std.proofs.lemmas.Grind.{flat_map-append}
use Rattle.nxf_tree.specs.declared.tree.Signature.{Signature}
use Rattle.nxf_tree.specs.declared.tree.SortEntry.{SortEntry}
use Rattle.nxf_tree.specs.Signature.{sort_names}
use Rattle.nxf_tree.specs.Rows.{Table, AreSizes, size_at}
use Rattle.fin_struct.specs.Cells.{table_at}
use Rattle.fin_struct.specs.RowLists.{listed}
use Rattle.fin_struct.specs.KripkeTables.{KripkeTables, IsKripke, IsKripkeFor, kripke_structure}
use Rattle.fin_struct.proofs.CallerLemmas.{whole-lists}
use Rattle.structure_laws.proofs.KripkeLists.{kripke-law}
use Rattle.kripke_text_laws.proofs.Whole.{tables_are}
use Rattle.plain_tokens.specs.Marks.{Mark, spelled}
use Rattle.kripke_text_definitions.specs.KripkeText as text
use Rattle.kripke_text.specs.declared.subject.Subject.{Subject}
use Rattle.kripke_text.specs.steps.Subjects.{label_of, IsIn, number_of, table_of, subjects_of}
use Rattle.kripke_text.specs.steps.Taking.{printed}
use Rattle.kripke_text.proofs.Folds.{fold_printed}
use Rattle.kripke_text.proofs.SubjectPlaces.{StandsAt, subjects_stand, stands_at, stand_length, statement_first, statements_none}

-- one more statement on a page
pub page_next : (page new goal : List ℕ) (s : List Mark) (left rest : List (List Mark)) → left ≡ s ∷ rest → new ≡ fold printed page s → page ++ flat_map spelled left ≡ goal → new ++ flat_map spelled rest ≡ goal
page_next page new goal s left rest first put inv =
    ap (λ (r : List ℕ). r ++ flat_map spelled rest) (put ∙ fold_printed page s)
    ∙ append_assoc page (spelled s) (flat_map spelled rest)
    ∙ ap (λ (r : List (List Mark)). page ++ flat_map spelled r) (sym first)
    ∙ inv

pub page_end : (page goal : List ℕ) (left : List (List Mark)) → left ≡ [] → page ++ flat_map spelled left ≡ goal → page ≡ goal
page_end page goal left none inv = sym (append-nil page) ∙ ap (λ (r : List (List Mark)). page ++ flat_map spelled r) (sym none) ∙ inv

-- ---- the elements of sorts

pub sizes_long : (entries : List SortEntry) (sizes : List ℕ) → AreSizes entries sizes → length sizes ≡ length entries
sizes_long [] [] h = refl
sizes_long [] (n ∷ sizes) h = absurd h
sizes_long (e ∷ entries) [] h = absurd h
sizes_long (e ∷ entries) (n ∷ sizes) h = ap suc (sizes_long entries sizes h.1)

size_first : (sizes : List ℕ) (k : ℕ) → get_or sizes k 0 ≡ size_at sizes k
size_first [] zero = refl
size_first [] (suc k) = refl
size_first (n ∷ sizes) zero = refl
size_first (n ∷ sizes) (suc k) = size_first sizes k

pub domain_first : (entries : List SortEntry) (sizes : List ℕ) (k : ℕ) (entry : SortEntry) (n : ℕ) → k < length entries → k < length sizes → entry ≡ get_or entries k entry → n ≡ size_at sizes k → text.domain_statements (sort_names (drop k entries)) (drop k sizes) ≡ text.domain_statement entry.name n ∷ text.domain_statements (sort_names (drop (k + 1) entries)) (drop (k + 1) sizes)
domain_first entries sizes k entry n h i is_entry is_size =
    ap₂ (λ (es : List SortEntry) (ns : List ℕ). text.domain_statements (sort_names es) ns)
    (drop_more entries k entry h ∙ ap (λ (e : SortEntry). e ∷ drop (k + 1) entries) (sym is_entry))
    (drop_more sizes k 0 i ∙ ap (λ (m : ℕ). m ∷ drop (k + 1) sizes) (size_first sizes k ∙ sym is_size))

pub domains_none : (entries : List SortEntry) (sizes : List ℕ) (k : ℕ) → length entries ≤ k → text.domain_statements (sort_names (drop k entries)) (drop k sizes) ≡ []
domains_none entries sizes k h = ap (λ (es : List SortEntry). text.domain_statements (sort_names es) (drop k sizes)) (drop_all k entries h)

-- ---- the tables

-- the table with the number k stands under its label
pub subject_there : (sig : Signature) (view : KripkeTables) (subjects : List Subject) (k : ℕ) (d : Subject) (l : text.Label) → IsKripke view → IsKripkeFor sig view → subjects ≡ subjects_of sig → k < length subjects → StandsAt sig view (get_or subjects k d) (get_or (text.labels_of sig) k l) k
subject_there sig view subjects k d l is for_sig are h =
    let at = stands_at sig view 0 (subjects_of sig) (text.labels_of sig) k d l (subjects_stand sig view is for_sig) (omega (arith, ap length are)) in
    let same : get_or (subjects_of sig) k d ≡ get_or subjects k d = ap (λ (ss : List Subject). get_or ss k d) (sym are) in
    let zero_more : 0 + k ≡ k = omega arith in
    record {
      label_is = ap (label_of sig) (sym same) ∙ at.label_is;
      is_in = subst (IsIn sig) same at.is_in;
      number = ap (number_of view) (sym same) ∙ at.number ∙ zero_more;
    }

-- as many tables as labels
pub tables_long : (sig : Signature) (view : KripkeTables) → IsKripke view → IsKripkeFor sig view → length (text.labels_of sig) ≡ length view.tables
tables_long sig view is for_sig =
    sym (tables_are sig (kripke_structure view) (kripke-law sig view is for_sig)) ∙ ap length (whole-lists view is) ∙ length-map view.tables listed

pub table_first : (sig : Signature) (view : KripkeTables) (subjects : List Subject) (k : ℕ) (d : Subject) → IsKripke view → IsKripkeFor sig view → subjects ≡ subjects_of sig → k < length subjects → drop k (text.table_statements (text.labels_of sig) (map listed view.tables)) ≡ text.table_statement (label_of sig (get_or subjects k d)) (listed (table_of view (get_or subjects k d))) ∷ drop (k + 1) (text.table_statements (text.labels_of sig) (map listed view.tables))
table_first sig view subjects k d is for_sig are h =
    let l = label_of sig (get_or subjects k d) in
    let at = subject_there sig view subjects k d l is for_sig are h in
    let long = stand_length sig view 0 (subjects_of sig) (text.labels_of sig) (subjects_stand sig view is for_sig) in
    let next : suc k ≡ k + 1 = omega arith in
    let label = sym at.label_is in
    let number = sym at.number in
    statement_first (text.labels_of sig) view.tables k l (omega (arith, long, ap length are)) (omega (arith, long, ap length are, tables_long sig view is for_sig))
    ∙ (λ i. text.table_statement (label i) (listed (table_at view.tables (number i))) ∷ drop (next i) (text.table_statements (text.labels_of sig) (map listed view.tables)))

pub tables_none : (sig : Signature) (view : KripkeTables) (subjects : List Subject) (k : ℕ) → IsKripke view → IsKripkeFor sig view → subjects ≡ subjects_of sig → length subjects ≤ k → drop k (text.table_statements (text.labels_of sig) (map listed view.tables)) ≡ []
tables_none sig view subjects k is for_sig are h =
    let long = stand_length sig view 0 (subjects_of sig) (text.labels_of sig) (subjects_stand sig view is for_sig) in
    statements_none (text.labels_of sig) view.tables k (omega (arith, long, ap length are))

-- ---- all statements

pub all_printed : (sig : Signature) (view : KripkeTables) (start page all : List ℕ) → IsKripke view → start ≡ [] → page ≡ start ++ flat_map spelled (text.head_marks sig view.worlds view.actual view.sizes) → all ≡ page ++ flat_map spelled (text.table_statements (text.labels_of sig) (map listed view.tables)) → all ≡ text.ktext sig (kripke_structure view)
all_printed sig view start page all is none head tables =
    let heads = text.head_marks sig view.worlds view.actual view.sizes in
    let statements = text.table_statements (text.labels_of sig) (map listed view.tables) in
    tables
    ∙ ap (λ (r : List ℕ). r ++ flat_map spelled statements) (head ∙ ap (λ (r : List ℕ). r ++ flat_map spelled heads) none)
    ∙ sym (flat_map-append spelled heads statements)
    ∙ ap (λ (ts : List Table). flat_map spelled (heads ++ text.table_statements (text.labels_of sig) ts)) (sym (whole-lists view is))

-- the first statements
pub head_put : (page a b d : List ℕ) (n w worlds actual : ℕ) (ds : List (List Mark)) → a ≡ fold printed page (text.worlds_statement n) → b ≡ fold printed a (text.local_statement w) → n ≡ worlds → w ≡ actual → d ≡ b ++ flat_map spelled ds → d ≡ page ++ flat_map spelled (text.worlds_statement worlds ∷ text.local_statement actual ∷ ds)
head_put page a b d n w worlds actual ds p q e f h =
    let first = text.worlds_statement n in
    let second = text.local_statement w in
    let rest = flat_map spelled ds in
    h
    ∙ ap (λ (r : List ℕ). r ++ rest) (q ∙ fold_printed a second ∙ ap (λ (r : List ℕ). r ++ spelled second) (p ∙ fold_printed page first))
    ∙ append_assoc (page ++ spelled first) (spelled second) rest
    ∙ append_assoc page (spelled first) (spelled second ++ rest)
    ∙ (λ i. page ++ flat_map spelled (text.worlds_statement (e i) ∷ text.local_statement (f i) ∷ ds))
