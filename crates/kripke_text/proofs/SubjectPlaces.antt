-- The tables of a signature stand in a structure in their order, each under its label.
use Rattle.std.proofs.Common.{◌≡◌, ℕ, zero, suc, ◌+◌, ◌<◌, ◌≤◌, Bool, true, false, cond, List, [], ◌∷◌, ◌++◌, map, length, drop, get_or, None, Some, refl, sym, ap, ◌∙◌, append_assoc, arith}
use Rattle.std.proofs.lemmas.List.{length-map}
use Rattle.nxf_tree.specs.declared.tree.Signature.{Signature}
use Rattle.nxf_tree.specs.declared.tree.SortEntry.{SortEntry}
use Rattle.nxf_tree.specs.declared.tree.SymbolEntry.{SymbolEntry}
use Rattle.nxf_tree.specs.declared.tree.IndexEntry.{IndexEntry}
use Rattle.nxf_tree.specs.declared.tree.IndexName.TheVariants.{Plain}
use Rattle.nxf_tree.specs.Signature.{constant_regime, existence_sorts, sort_at}
use Rattle.fin_struct.specs.Cells.{CellTable, table_at}
use Rattle.fin_struct.specs.RowLists.{listed}
use Rattle.fin_struct.specs.FirstFault.{index_at, regime_at}
use Rattle.fin_struct.specs.KripkeTables.{KripkeTables, IsKripke, IsKripkeFor, AreNumbered, numbers_from, place_or_zero}
use Rattle.kripke_text_definitions.specs.KripkeText as text
use Rattle.kripke_text.specs.declared.subject.Subject.{Subject}
use Rattle.kripke_text.specs.declared.subject.Subject.TheVariants.{Relation, Existence, Symbol}
use Rattle.kripke_text.specs.steps.Subjects.{no_symbol, label_of, IsIn, number_of, relations_from, existences_from, symbols_from, subjects_of}

-- the subjects are in the signature, have these labels, and stand in the structure from table t on
abbrev pub Stand : Signature → KripkeTables → ℕ → List Subject → List text.Label → Type 0
Stand sig view t [] [] = Unit {0}
Stand sig view t [] (l ∷ ls) = ⊥
Stand sig view t (s ∷ ss) [] = ⊥
Stand sig view t (s ∷ ss) (l ∷ ls) = (label_of sig s ≡ l) × IsIn sig s × (number_of view s ≡ t) × Stand sig view (suc t) ss ls

stand_more : (sig : Signature) (view : KripkeTables) (t u : ℕ) (ss more : List Subject) (ls others : List text.Label) → Stand sig view t ss ls → t + length ls ≡ u → Stand sig view u more others → Stand sig view t (ss ++ more) (ls ++ others)
stand_more sig view t u [] more [] others h e k = let same : u ≡ t = omega arith in (rw same at k)
stand_more sig view t u [] more (l ∷ ls) others h e k = absurd h
stand_more sig view t u (s ∷ ss) more [] others h e k = absurd h
stand_more sig view t u (s ∷ ss) more (l ∷ ls) others h e k = (h.0, h.1, h.2, stand_more sig view (suc t) u ss more ls others h.3 (omega arith) k)

-- ---- what is left of lists

first_is : {A : Type 0} → (xs : List A) (k : ℕ) (x : A) (rest : List A) → drop k xs ≡ x ∷ rest → k < length xs
first_is [] zero x rest e = absurd cc
first_is [] (suc k) x rest e = absurd cc
first_is (y ∷ xs) zero x rest e = omega arith
first_is (y ∷ xs) (suc k) x rest e = omega (arith, first_is xs k x rest e)

rest_is : {A : Type 0} → (xs : List A) (k : ℕ) (x : A) (rest : List A) → drop k xs ≡ x ∷ rest → drop (suc k) xs ≡ rest
rest_is [] zero x rest e = absurd cc
rest_is [] (suc k) x rest e = absurd cc
rest_is (y ∷ xs) zero x rest e = cc
rest_is (y ∷ xs) (suc k) x rest e = rest_is xs k x rest e

at_first : {A : Type 0} → (xs : List A) (k : ℕ) (x : A) (rest : List A) (d : A) → drop k xs ≡ x ∷ rest → get_or xs k d ≡ x
at_first [] zero x rest d e = absurd cc
at_first [] (suc k) x rest d e = absurd cc
at_first (y ∷ xs) zero x rest d e = cc
at_first (y ∷ xs) (suc k) x rest d e = at_first xs k x rest d e

index_first : (xs : List IndexEntry) (k : ℕ) (x : IndexEntry) (rest : List IndexEntry) → drop k xs ≡ x ∷ rest → index_at xs k ≡ x.name
index_first [] zero x rest e = absurd cc
index_first [] (suc k) x rest e = absurd cc
index_first (y ∷ xs) zero x rest e = let same : y ≡ x = cc in ap (λ (z : IndexEntry). z.name) same
index_first (y ∷ xs) (suc k) x rest e = index_first xs k x rest e

sort_first : (xs : List SortEntry) (k : ℕ) (x : SortEntry) (rest : List SortEntry) → drop k xs ≡ x ∷ rest → (sort_at xs k ≡ x.name) × (regime_at xs k ≡ x.regime)
sort_first [] zero x rest e = absurd cc
sort_first [] (suc k) x rest e = absurd cc
sort_first (y ∷ xs) zero x rest e = let same : y ≡ x = cc in (ap (λ (z : SortEntry). z.name) same, ap (λ (z : SortEntry). z.regime) same)
sort_first (y ∷ xs) (suc k) x rest e = sort_first xs k x rest e

-- ---- the three kinds

relations_stand : (sig : Signature) (view : KripkeTables) (k : ℕ) (entries : List IndexEntry) → drop k sig.indexes ≡ entries → Stand sig view k (relations_from k entries) (map (λ (entry : IndexEntry). text.Access entry.name) entries)
relations_stand sig view k [] e = tt
relations_stand sig view k (x ∷ entries) e = (
  ap text.Access (index_first sig.indexes k x entries e),
  first_is sig.indexes k x entries e,
  refl,
  relations_stand sig view (suc k) entries (rest_is sig.indexes k x entries e),
)

existences_by : (sig : Signature) (view : KripkeTables) (k t : ℕ) (x : SortEntry) (entries : List SortEntry) (b : Bool) → constant_regime x.regime ≡ b → drop k sig.sorts ≡ x ∷ entries → drop k view.existence ≡ cond b (None ∷ numbers_from t entries) (Some t ∷ numbers_from (suc t) entries)
    → ((u : ℕ) → drop (suc k) view.existence ≡ numbers_from u entries → Stand sig view u (existences_from (suc k) entries) (map text.Exists (existence_sorts entries)))
    → Stand sig view t (cond b (existences_from (suc k) entries) (Existence k ∷ existences_from (suc k) entries)) (map text.Exists (cond b (existence_sorts entries) (x.name ∷ existence_sorts entries)))
existences_by sig view k t x entries true c e n ih = ih t (rest_is view.existence k None (numbers_from t entries) n)
existences_by sig view k t x entries false c e n ih =
    let s = sort_first sig.sorts k x entries e in (
      ap text.Exists s.0,
      (first_is sig.sorts k x entries e, ap constant_regime s.1 ∙ c),
      ap place_or_zero (at_first view.existence k (Some t) (numbers_from (suc t) entries) None n),
      ih (suc t) (rest_is view.existence k (Some t) (numbers_from (suc t) entries) n),
    )

existences_stand : (sig : Signature) (view : KripkeTables) (k t : ℕ) (entries : List SortEntry) → drop k sig.sorts ≡ entries → drop k view.existence ≡ numbers_from t entries → Stand sig view t (existences_from k entries) (map text.Exists (existence_sorts entries))
existences_stand sig view k t [] e n = tt
existences_stand sig view k t (x ∷ entries) e n =
    existences_by sig view k t x entries (constant_regime x.regime) refl e n (λ u m. existences_stand sig view (suc k) u entries (rest_is sig.sorts k x entries e) m)

symbols_stand : (sig : Signature) (view : KripkeTables) (k : ℕ) (entries : List SymbolEntry) → drop k sig.symbols ≡ entries → Stand sig view (view.first_symbol + k) (symbols_from k entries) (map (text.symbol_label sig.sorts) entries)
symbols_stand sig view k [] e = tt
symbols_stand sig view k (x ∷ entries) e =
    let next : view.first_symbol + suc k ≡ suc (view.first_symbol + k) = omega arith in (
      ap (text.symbol_label sig.sorts) (at_first sig.symbols k x entries no_symbol e),
      first_is sig.symbols k x entries e,
      refl,
      (rw next at (symbols_stand sig view (suc k) entries (rest_is sig.symbols k x entries e))),
    )

ends_by : (t to : ℕ) (x : SortEntry) (entries : List SortEntry) (b : Bool) → AreNumbered t to (cond b (None ∷ numbers_from t entries) (Some t ∷ numbers_from (suc t) entries)) → ((u : ℕ) → AreNumbered u to (numbers_from u entries) → u + length (existence_sorts entries) ≡ to) → t + length (cond b (existence_sorts entries) (x.name ∷ existence_sorts entries)) ≡ to
ends_by t to x entries true h ih = ih t h
ends_by t to x entries false h ih = omega (arith, ih (suc t) h.1)

numbers_end : (t to : ℕ) (entries : List SortEntry) → AreNumbered t to (numbers_from t entries) → t + length (existence_sorts entries) ≡ to
numbers_end t to [] h = omega (arith, h)
numbers_end t to (x ∷ entries) h = ends_by t to x entries (constant_regime x.regime) h (λ u m. numbers_end u to entries m)

-- all of them
pub subjects_stand : (sig : Signature) (view : KripkeTables) → IsKripke view → IsKripkeFor sig view → Stand sig view 0 (subjects_of sig) (text.labels_of sig)
subjects_stand sig view is for_sig =
    let numbered : AreNumbered view.indexes view.first_symbol (numbers_from (length sig.indexes) sig.sorts) = rw for_sig.existence at is.numbered in
    let begun : AreNumbered (length sig.indexes) view.first_symbol (numbers_from (length sig.indexes) sig.sorts) = rw for_sig.indexes at numbered in
    let ends = numbers_end (length sig.indexes) view.first_symbol sig.sorts begun in
    let none : view.first_symbol + 0 ≡ view.first_symbol = omega arith in
    stand_more sig view 0 (length sig.indexes) (relations_from 0 sig.indexes) _ _ _ (relations_stand sig view 0 sig.indexes refl) (omega (arith, length-map sig.indexes (λ (entry : IndexEntry). text.Access entry.name)))
    (stand_more sig view (length sig.indexes) (view.first_symbol + 0) (existences_from 0 sig.sorts) _ _ _ (existences_stand sig view 0 (length sig.indexes) sig.sorts refl for_sig.existence) (omega (arith, ends, length-map (existence_sorts sig.sorts) text.Exists)) (symbols_stand sig view 0 sig.symbols refl))

-- ---- one of them

pub record StandsAt (sig : Signature) (view : KripkeTables) (subject : Subject) (label : text.Label) (t : ℕ) : Type 0 where
  pub label_is : label_of sig subject ≡ label
  pub is_in : IsIn sig subject
  pub number : number_of view subject ≡ t

pub stands_at : (sig : Signature) (view : KripkeTables) (t : ℕ) (ss : List Subject) (ls : List text.Label) (k : ℕ) (s : Subject) (l : text.Label) → Stand sig view t ss ls → k < length ss → StandsAt sig view (get_or ss k s) (get_or ls k l) (t + k)
stands_at sig view t [] ls k s l h i = absurd (omega arith)
stands_at sig view t (x ∷ ss) [] k s l h i = absurd h
stands_at sig view t (x ∷ ss) (y ∷ ls) zero s l h i = record { label_is = h.0; is_in = h.1; number = omega (arith, h.2) }
stands_at sig view t (x ∷ ss) (y ∷ ls) (suc k) s l h i =
    let r = stands_at sig view (suc t) ss ls k s l h.3 (omega arith) in
    record { label_is = r.label_is; is_in = r.is_in; number = omega (arith, r.number) }

pub stand_length : (sig : Signature) (view : KripkeTables) (t : ℕ) (ss : List Subject) (ls : List text.Label) → Stand sig view t ss ls → length ss ≡ length ls
stand_length sig view t [] [] h = refl
stand_length sig view t [] (l ∷ ls) h = absurd h
stand_length sig view t (s ∷ ss) [] h = absurd h
stand_length sig view t (s ∷ ss) (l ∷ ls) h = ap suc (stand_length sig view (suc t) ss ls h.3)

-- the k-th statement of tables
pub statement_first : (labels : List text.Label) (tables : List CellTable) (k : ℕ) (l : text.Label) → k < length labels → k < length tables → drop k (text.table_statements labels (map listed tables)) ≡ text.table_statement (get_or labels k l) (listed (table_at tables k)) ∷ drop (suc k) (text.table_statements labels (map listed tables))
statement_first [] tables k l h i = absurd (omega arith)
statement_first (x ∷ labels) [] k l h i = absurd (omega arith)
statement_first (x ∷ labels) (t ∷ tables) zero l h i = refl
statement_first (x ∷ labels) (t ∷ tables) (suc k) l h i = statement_first labels tables k l (omega arith) (omega arith)

pub statements_none : (labels : List text.Label) (tables : List CellTable) (k : ℕ) → length labels ≤ k → drop k (text.table_statements labels (map listed tables)) ≡ []
statements_none [] tables zero h = refl
statements_none [] tables (suc k) h = refl
statements_none (x ∷ labels) [] zero h = refl
statements_none (x ∷ labels) [] (suc k) h = refl
statements_none (x ∷ labels) (t ∷ tables) zero h = absurd (omega arith)
statements_none (x ∷ labels) (t ∷ tables) (suc k) h = statements_none labels tables k (omega arith)

-- ---- the loops that list them

no_index : IndexEntry
no_index = record { name = Plain; schemes = [] }

step_first : {A : Type 0} → (xs : List A) (k : ℕ) (x : A) → k < length xs → drop k xs ≡ get_or xs k x ∷ drop (suc k) xs
step_first [] k x h = absurd (omega arith)
step_first (y ∷ xs) zero x h = refl
step_first (y ∷ xs) (suc k) x h = step_first xs k x (omega arith)

pub relations_next : (entries : List IndexEntry) (k : ℕ) (old new goal : List Subject) → k < length entries → new ≡ old ++ Relation k ∷ [] → old ++ relations_from k (drop k entries) ≡ goal → new ++ relations_from (k + 1) (drop (k + 1) entries) ≡ goal
relations_next entries k old new goal h e inv =
    let next : k + 1 ≡ suc k = omega arith in
    ap (λ (n : ℕ). new ++ relations_from n (drop n entries)) next
    ∙ ap (λ (r : List Subject). r ++ relations_from (suc k) (drop (suc k) entries)) e
    ∙ append_assoc old (Relation k ∷ []) (relations_from (suc k) (drop (suc k) entries))
    ∙ ap (λ (es : List IndexEntry). old ++ relations_from k es) (sym (step_first entries k no_index h))
    ∙ inv

pub symbols_next : (entries : List SymbolEntry) (k : ℕ) (old new goal : List Subject) → k < length entries → new ≡ old ++ Symbol k ∷ [] → old ++ symbols_from k (drop k entries) ≡ goal → new ++ symbols_from (k + 1) (drop (k + 1) entries) ≡ goal
symbols_next entries k old new goal h e inv =
    let next : k + 1 ≡ suc k = omega arith in
    ap (λ (n : ℕ). new ++ symbols_from n (drop n entries)) next
    ∙ ap (λ (r : List Subject). r ++ symbols_from (suc k) (drop (suc k) entries)) e
    ∙ append_assoc old (Symbol k ∷ []) (symbols_from (suc k) (drop (suc k) entries))
    ∙ ap (λ (es : List SymbolEntry). old ++ symbols_from k es) (sym (step_first entries k no_symbol h))
    ∙ inv
