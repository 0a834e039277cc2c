-- The statements of a file, sorted one after another.
use Rattle.std.proofs.Common.{◌≡◌, ℕ, suc, ◌+◌, ◌<◌, ◌≤◌, Bool, true, false, ◌||◌, List, [], ◌∷◌, ◌++◌, length, take, drop, get_or, Option, None, Some, Ok, refl, sym, ap, ◌∙◌, add-one}
use Rattle.std.proofs.Math.Seq.{take-suc}
use Rattle.std.specs.List.{list_any}
use Rattle.std.specs.Option.{option_or, option_map}
use Rattle.std.proofs.lemmas.List.{drop_all, drop_more, append-nil, append_assoc}
use Rattle.std.proofs.lemmas.List.Folds.{list_any-append}
use Rattle.nxf_tree.specs.declared.tree.PartEntry.{PartEntry}
use Rattle.nxf_tree.specs.declared.tree.Part.{Part}
use Rattle.nxf_tree.specs.declared.tree.Statement.{Statement}
use Rattle.nxf_tree.specs.Faults.{first_fault, unless}
use Rattle.nxf_tree.specs.Parts.{role_fault, statement_part, is_conjecture, and_part, part_entries}

-- the first `at` statements have no fault, these entries, and a conjecture or none
pub record IsSorted (statements : List Statement) (at : ℕ) (entries : List PartEntry) (conjectured : Bool) : Type 0 where
  pub faultless : first_fault role_fault 1 [] statements ≡ first_fault role_fault (at + 1) (take at statements) (drop at statements)
  pub entered : part_entries 1 statements ≡ entries ++ part_entries (at + 1) (drop at statements)
  pub has_conjecture : list_any (λ s. is_conjecture (statement_part s)) (take at statements) ≡ conjectured

pub all_sorted : (statements : List Statement) (at : ℕ) (entries : List PartEntry) (conjectured : Bool) → IsSorted statements at entries conjectured → length statements ≤ at → unless (first_fault role_fault 1 [] statements) (part_entries 1 statements) ≡ Ok entries
all_sorted statements at entries conjectured sorted all =
    let nothing : drop at statements ≡ [] = drop_all at statements all in
    let fine : first_fault role_fault 1 [] statements ≡ None = sorted.faultless ∙ ap (first_fault role_fault (at + 1) (take at statements)) nothing in
    let whole : part_entries 1 statements ≡ entries = sorted.entered ∙ ap (λ rest. entries ++ part_entries (at + 1) rest) nothing ∙ append-nil entries in
    rw (fine, whole) refl

one_more : (k : ℕ) (part : Option Part) (entries rest : List PartEntry) → entries ++ and_part k part rest ≡ (entries ++ and_part k part []) ++ rest
one_more k None entries rest = ap (λ xs. xs ++ rest) (sym (append-nil entries))
one_more k (Some part) entries rest = sym (append_assoc entries _ rest)

last_or : (a b : Bool) → (a || (b || false)) ≡ (a || b)
last_or true b = refl
last_or false true = refl
last_or false false = refl

pub sorted_next : (statements : List Statement) (at : ℕ) (entries : List PartEntry) (conjectured : Bool) (d : Statement) (part : Option Part) → IsSorted statements at entries conjectured → at < length statements → role_fault (take at statements) (get_or statements at d) ≡ None → statement_part (get_or statements at d) ≡ part → IsSorted statements (at + 1) (entries ++ and_part (at + 1) part []) (conjectured || is_conjecture part)
sorted_next statements at entries conjectured d part sorted more fault is =
    let x = get_or statements at d in
    let cut : drop at statements ≡ x ∷ drop (at + 1) statements = drop_more statements at d more in
    let grown : take (at + 1) statements ≡ take at statements ++ x ∷ [] = rw add-one (take-suc statements at d more) in
    record {
      faultless =
          sorted.faultless ∙ ap (first_fault role_fault (at + 1) (take at statements)) cut
          ∙ ap (λ found. option_or (option_map (λ k. (at + 1, k)) found) (first_fault role_fault (suc (at + 1)) (take at statements ++ x ∷ []) (drop (at + 1) statements))) fault
          ∙ ap (λ before. first_fault role_fault (suc (at + 1)) before (drop (at + 1) statements)) (sym grown)
          ∙ ap (λ k. first_fault role_fault k (take (at + 1) statements) (drop (at + 1) statements)) (sym (add-one (at + 1)));
      entered =
          sorted.entered ∙ ap (λ rest. entries ++ part_entries (at + 1) rest) cut
          ∙ ap (λ p. entries ++ and_part (at + 1) p (part_entries (suc (at + 1)) (drop (at + 1) statements))) is
          ∙ one_more (at + 1) part entries (part_entries (suc (at + 1)) (drop (at + 1) statements))
          ∙ ap (λ k. (entries ++ and_part (at + 1) part []) ++ part_entries k (drop (at + 1) statements)) (sym (add-one (at + 1)));
      has_conjecture =
          ap (list_any (λ s. is_conjecture (statement_part s))) grown ∙ list_any-append _ (take at statements) (x ∷ [])
          ∙ rw (sorted.has_conjecture, is) (last_or conjectured (is_conjecture part));
    }
