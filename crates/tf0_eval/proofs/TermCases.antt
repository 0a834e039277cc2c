-- Numbered terms by their lists of arguments.
use Rattle.std.proofs.Common.{◌≡◌, ℕ, zero, suc, ◌+◌, ◌-◌, ◌<◌, ◌≤◌, List, [], ◌∷◌, length, get_or, take, drop, refl, sym, ap, ◌∙◌, subst, arith}
use Rattle.std.specs.Prelude.{◌&&◌, ◌||◌, max, map, nat_eq, not}
use Rattle.std.specs.List.{All, list_any}
use Rattle.std.proofs.lemmas.List.{at_drop_more, get_or-map, length-map, length-take-le, length-drop, take_all}
use Rattle.std.proofs.lemmas.List.Elements.{All-nil, All-cons, All-from_get_or}
use Rattle.formula_cells.specs.declared.cell.Span.{Span}
use Rattle.formula_cells.specs.Expressions.{span_of}
use Rattle.formula_cells.specs.Stored.{Stored, term_at}
use Rattle.nxf_tree.specs.Counting.{all_different, has}
use Rattle.fin_struct.specs.Cells.{cell, table_at}
use Rattle.fin_struct.specs.StructureTables.{StructureTables}
use Rattle.numbered_definitions.specs.declared.node.NTerm.{NTerm, Row_of-NTerm, end_of-NTerm, more_of-NTerm}
use Rattle.numbered_definitions.specs.declared.node.NTerm as numbered
use Rattle.numbered_definitions.specs.declared.node.NTerm.TheBlock.{hidden-the_row-NTerm-0, items-the_row-NTerm, items_hidden-the_row-NTerm-0}
use Rattle.classical_evaluation_definitions.specs.ClassicalMeaning.{node_value, node_values, function_in, predicate_in}
use Rattle.classical_evaluation_definitions.specs.ClassicalFitting.{IsRow, IsFunctionRow, IsPredicateRow, TermFits, TermsFit}
use Rattle.kripke_evaluation_definitions.specs.NumberedDepth.{term_depth, row_depth, terms_depth}

depth_row : {m : _} (ns : Row_of-NTerm m) → row_depth ns ≡ terms_depth (items-the_row-NTerm _ ns)
depth_row end_of-NTerm = refl
depth_row (more_of-NTerm n ns) = ap (max (term_depth n)) (depth_row ns)

pub depth_of_App : (k : ℕ) (ns : List NTerm) → term_depth (numbered.App k ns) ≡ terms_depth ns + 1
depth_of_App k ns = ap (λ n. n + 1) (depth_row (hidden-the_row-NTerm-0 ns) ∙ ap terms_depth (items_hidden-the_row-NTerm-0 ns))

pub term-at : (ns : List NTerm) (i : ℕ) (d : NTerm) → i < length ns → term_depth (get_or ns i d) ≤ terms_depth ns
term-at [] i d l = absurd (omega arith)
term-at (n ∷ ns) zero d l = omega arith
term-at (n ∷ ns) (suc i) d l = omega (arith, term-at ns i d (omega arith))

module _ (view : StructureTables) (e : List ℕ) where
  values_row : {m : _} (ns : Row_of-NTerm m) → node_values view e ns ≡ map (node_value view e) (items-the_row-NTerm _ ns)
  values_row end_of-NTerm = refl
  values_row (more_of-NTerm n ns) = ap (λ vs. node_value view e n ∷ vs) (values_row ns)

  values_list : (ns : List NTerm) → node_values view e (hidden-the_row-NTerm-0 ns) ≡ map (node_value view e) ns
  values_list ns = values_row (hidden-the_row-NTerm-0 ns) ∙ ap (map (node_value view e)) (items_hidden-the_row-NTerm-0 ns)

  pub value_of_App : (y : ℕ) (ns : List NTerm) → node_value view e (numbered.App y ns) ≡ function_in view y (map (node_value view e) ns)
  value_of_App y ns = ap (function_in view y) (values_list ns)

  fits_row : {m : _} (ns : Row_of-NTerm m) → TermsFit view e ns → All (TermFits view e) (items-the_row-NTerm _ ns)
  fits_row end_of-NTerm h = All-nil (TermFits view e)
  fits_row (more_of-NTerm n ns) h = All-cons (TermFits view e) n _ h.0 (fits_row ns h.1)

  pub record AppFits (y : ℕ) (ns : List NTerm) : Type 0 where
    pub terms : All (TermFits view e) ns
    pub row : IsFunctionRow view y (map (node_value view e) ns)

  pub fits_of_App : (y : ℕ) (ns : List NTerm) → TermFits view e (numbered.App y ns) → AppFits y ns
  fits_of_App y ns h = record {
    terms = subst (All (TermFits view e)) (items_hidden-the_row-NTerm-0 ns) (fits_row (hidden-the_row-NTerm-0 ns) h.0);
    row = subst (IsFunctionRow view y) (values_list ns) h.1;
  }

pub map-map : {X Y Z : Type 0} (f : X → Y) (g : Y → Z) (xs : List X) → map g (map f xs) ≡ map (λ x. g (f x)) xs
map-map f g [] = refl
map-map f g (x ∷ xs) = ap (λ l. g (f x) ∷ l) (map-map f g xs)

-- a term among cells is no deeper than the deepest
pub argument-depth : (s : Stored) (args : List ℕ) (i : ℕ) → i < length args → term_depth (term_at s (get_or args i 0)) ≤ terms_depth (map (term_at s) args)
argument-depth s args i l =
    let d = term_at s (get_or args i 0) in
    let same : term_depth (get_or (map (term_at s) args) i d) ≡ term_depth d = ap term_depth (get_or-map (term_at s) args i 0 d l) in
    omega (arith, same, term-at (map (term_at s) args) i d (omega (arith, l, length-map args (term_at s))))

-- what is so of each term that cells stand for is so of what each cell stands for
pub each_argument : (view : StructureTables) (e : List ℕ) (s : Stored) (args : List ℕ) → All (TermFits view e) (map (term_at s) args) → All (λ n. TermFits view e (term_at s n)) args
each_argument view e s args h = All-from_get_or (λ n. TermFits view e (term_at s n)) args 0 (λ i l.
    subst (TermFits view e) (get_or-map (term_at s) args i 0 (term_at s 0) l) (h i (term_at s 0) (omega (arith, l, length-map args (term_at s)))))

-- a span that lies in the kids has as many cells as it says
pub length_span : (kids : List ℕ) (s : Span) → s.from + s.len ≤ length kids → length (span_of kids s) ≡ s.len
length_span kids s h = length-take-le s.len (drop s.from kids) (omega (arith, h, length-drop s.from kids))

-- the row that was written has the values of the arguments
pub written : (s : Stored) (value : NTerm → ℕ) (span : Span) (parts row : List ℕ) → span.from + span.len ≤ length s.kids → parts ≡ span_of s.kids span
    → take (length parts) row ≡ map (λ n. value (term_at s n)) parts → take span.len row ≡ map value (map (term_at s) (span_of s.kids span))
written s value span parts row inside same h =
    let n : span.len ≡ length parts = sym (ap length same ∙ length_span s.kids span inside) in
    ap (λ (k : ℕ). take k row) n ∙ h ∙ ap (map (λ n. value (term_at s n))) same ∙ sym (map-map (term_at s) value (span_of s.kids span))

-- a function whose number isn't 0 is a table, and so is a predicate
module _ (view : StructureTables) where
  pub function_row : (y : ℕ) (args : List ℕ) → (y ≡ 0 → ⊥) → IsFunctionRow view y args → IsRow view (y - 1) args
  function_row zero args other h = absurd (other refl)
  function_row (suc t) args other h = let e : t ≡ suc t - 1 = omega arith in subst (λ (k : ℕ). IsRow view k args) e h.1

  pub function_read : (y : ℕ) (args : List ℕ) → (y ≡ 0 → ⊥) → function_in view y args ≡ cell (table_at view.tables (y - 1)) args
  function_read zero args other = absurd (other refl)
  function_read (suc t) args other = let e : t ≡ suc t - 1 = omega arith in ap (λ (k : ℕ). cell (table_at view.tables k) args) e

  pub predicate_row : (y : ℕ) (args : List ℕ) → (y ≡ 0 → ⊥) → IsPredicateRow view y args → IsRow view (y - 1) args
  predicate_row zero args other h = absurd (other refl)
  predicate_row (suc t) args other h = let e : t ≡ suc t - 1 = omega arith in subst (λ (k : ℕ). IsRow view k args) e h.1

  pub predicate_read : (y : ℕ) (args : List ℕ) → (y ≡ 0 → ⊥) → predicate_in view y args ≡ nat_eq (cell (table_at view.tables (y - 1)) args) 1
  predicate_read zero args other = absurd (other refl)
  predicate_read (suc t) args other = let e : t ≡ suc t - 1 = omega arith in ap (λ (k : ℕ). nat_eq (cell (table_at view.tables k) args) 1) e

-- a value that some argument has is among the values
pub has_among : (v : ℕ → ℕ) (x : ℕ) (ts : List ℕ) → has nat_eq x (map v ts) ≡ list_any (λ n. nat_eq (v n) x) ts
has_among v x [] = refl
has_among v x (t ∷ ts) = ap (λ b. nat_eq (v t) x || b) (has_among v x ts)

-- values differ from a place on where the one there is none of the later ones, and those differ
pub differ_step : (v : ℕ → ℕ) (ts : List ℕ) (i : ℕ) → i < length ts
    → all_different nat_eq (map v (drop i ts)) ≡ (not (list_any (λ n. nat_eq (v n) (v (get_or ts i 0))) (drop (i + 1) ts)) && all_different nat_eq (map v (drop (i + 1) ts)))
differ_step v ts i l =
    at_drop_more (λ l. all_different nat_eq (map v l)) ts i 0 l ∙ ap (λ b. not b && all_different nat_eq (map v (drop (i + 1) ts))) (has_among v (v (get_or ts i 0)) (drop (i + 1) ts))

-- the arguments behind a place, and their depth
pub rest_is : (ts : List ℕ) (i : ℕ) → take (length ts - (i + 1)) (drop (i + 1) ts) ≡ drop (i + 1) ts
rest_is ts i = take_all (length ts - (i + 1)) (drop (i + 1) ts) (omega (arith, length-drop (i + 1) ts))

pub rest_depth : (f : ℕ → NTerm) (ts : List ℕ) (k : ℕ) → terms_depth (map f (drop k ts)) ≤ terms_depth (map f ts)
rest_depth f ts zero = omega arith
rest_depth f [] (suc k) = omega arith
rest_depth f (t ∷ ts) (suc k) = omega (arith, rest_depth f ts k)
