-- Numbered terms by their lists of arguments.
use Rattle.std.proofs.Common.{◌≡◌, ℕ, zero, suc, ◌+◌, ◌<◌, ◌≤◌, List, [], ◌∷◌, length, get_or, take, drop, refl, sym, ap, ◌∙◌, subst, arith}
use Rattle.std.specs.Prelude.{max, map}
use Rattle.std.specs.List.{All}
use Rattle.std.proofs.lemmas.List.{get_or-map, length-map, length-take-le, length-drop}
use Rattle.std.proofs.lemmas.List.Elements.{All-nil, All-cons, All-from_get_or}
use Rattle.formula_cells.specs.declared.cell.Span.{Span}
use Rattle.formula_cells.specs.Expressions.{span_of}
use Rattle.formula_cells.specs.Stored.{Stored, term_at}
use Rattle.fin_struct.specs.KripkeTables.{KripkeTables, value_in}
use Rattle.numbered_definitions.specs.declared.node.NTerm.{NTerm, Row_of-NTerm, end_of-NTerm, more_of-NTerm}
use Rattle.numbered_definitions.specs.declared.node.NTerm as numbered
use Rattle.numbered_definitions.specs.declared.node.NTerm.TheBlock.{hidden-the_row-NTerm-0, items-the_row-NTerm, items_hidden-the_row-NTerm-0}
use Rattle.kripke_evaluation_definitions.specs.NumberedMeaning.{node_value, node_values}
use Rattle.kripke_evaluation_definitions.specs.Fitting.{IsFunctionRow, TermFits, TermsFit}
use Rattle.kripke_evaluation_definitions.specs.NumberedDepth.{term_depth, row_depth, terms_depth}

depth_row : {m : _} (ns : Row_of-NTerm m) → row_depth ns ≡ terms_depth (items-the_row-NTerm _ ns)
depth_row end_of-NTerm = refl
depth_row (more_of-NTerm n ns) = ap (max (term_depth n)) (depth_row ns)

pub depth_of_App : (k : ℕ) (ns : List NTerm) → term_depth (numbered.App k ns) ≡ terms_depth ns + 1
depth_of_App k ns = ap (λ n. n + 1) (depth_row (hidden-the_row-NTerm-0 ns) ∙ ap terms_depth (items_hidden-the_row-NTerm-0 ns))

pub term-at : (ns : List NTerm) (i : ℕ) (d : NTerm) → i < length ns → term_depth (get_or ns i d) ≤ terms_depth ns
term-at [] i d l = absurd (omega arith)
term-at (n ∷ ns) zero d l = omega arith
term-at (n ∷ ns) (suc i) d l = omega (arith, term-at ns i d (omega arith))

module _ (view : KripkeTables) (w : ℕ) (e : List ℕ) where
  values_row : {m : _} (ns : Row_of-NTerm m) → node_values view w e ns ≡ map (node_value view w e) (items-the_row-NTerm _ ns)
  values_row end_of-NTerm = refl
  values_row (more_of-NTerm n ns) = ap (λ vs. node_value view w e n ∷ vs) (values_row ns)

  values_list : (ns : List NTerm) → node_values view w e (hidden-the_row-NTerm-0 ns) ≡ map (node_value view w e) ns
  values_list ns = values_row (hidden-the_row-NTerm-0 ns) ∙ ap (map (node_value view w e)) (items_hidden-the_row-NTerm-0 ns)

  pub value_of_App : (y : ℕ) (ns : List NTerm) → node_value view w e (numbered.App y ns) ≡ value_in view y w (map (node_value view w e) ns)
  value_of_App y ns = ap (value_in view y w) (values_list ns)

  fits_row : {m : _} (ns : Row_of-NTerm m) → TermsFit view w e ns → All (TermFits view w e) (items-the_row-NTerm _ ns)
  fits_row end_of-NTerm h = All-nil (TermFits view w e)
  fits_row (more_of-NTerm n ns) h = All-cons (TermFits view w e) n _ h.0 (fits_row ns h.1)

  pub record AppFits (y : ℕ) (ns : List NTerm) : Type 0 where
    pub terms : All (TermFits view w e) ns
    pub row : IsFunctionRow view y w (map (node_value view w e) ns)

  pub fits_of_App : (y : ℕ) (ns : List NTerm) → TermFits view w e (numbered.App y ns) → AppFits y ns
  fits_of_App y ns h = record {
    terms = subst (All (TermFits view w e)) (items_hidden-the_row-NTerm-0 ns) (fits_row (hidden-the_row-NTerm-0 ns) h.0);
    row = subst (IsFunctionRow view y w) (values_list ns) h.1;
  }

pub map-map : {X Y Z : Type 0} (f : X → Y) (g : Y → Z) (xs : List X) → map g (map f xs) ≡ map (λ x. g (f x)) xs
map-map f g [] = refl
map-map f g (x ∷ xs) = ap (λ l. g (f x) ∷ l) (map-map f g xs)

-- a term among cells is no deeper than the deepest
pub argument-depth : (s : Stored) (args : List ℕ) (i : ℕ) → i < length args → term_depth (term_at s (get_or args i 0)) ≤ terms_depth (map (term_at s) args)
argument-depth s args i l =
    let d = term_at s (get_or args i 0) in
    let same : term_depth (get_or (map (term_at s) args) i d) ≡ term_depth d = ap term_depth (get_or-map (term_at s) args i 0 d l) in
    omega (arith, same, term-at (map (term_at s) args) i d (omega (arith, l, length-map args (term_at s))))

-- what is so of each term that cells stand for is so of what each cell stands for
pub each_argument : (view : KripkeTables) (w : ℕ) (e : List ℕ) (s : Stored) (args : List ℕ) → All (TermFits view w e) (map (term_at s) args) → All (λ n. TermFits view w e (term_at s n)) args
each_argument view w e s args h = All-from_get_or (λ n. TermFits view w e (term_at s n)) args 0 (λ i l.
    subst (TermFits view w e) (get_or-map (term_at s) args i 0 (term_at s 0) l) (h i (term_at s 0) (omega (arith, l, length-map args (term_at s)))))

-- a span that lies in the kids has as many cells as it says
pub length_span : (kids : List ℕ) (s : Span) → s.from + s.len ≤ length kids → length (span_of kids s) ≡ s.len
length_span kids s h = length-take-le s.len (drop s.from kids) (omega (arith, h, length-drop s.from kids))

-- the row that was written has the values of the arguments
pub written : (s : Stored) (value : NTerm → ℕ) (span : Span) (parts row : List ℕ) → span.from + span.len ≤ length s.kids → parts ≡ span_of s.kids span
    → take (length parts) row ≡ map (λ n. value (term_at s n)) parts → take span.len row ≡ map value (map (term_at s) (span_of s.kids span))
written s value span parts row inside same h =
    let n : span.len ≡ length parts = sym (ap length same ∙ length_span s.kids span inside) in
    ap (λ (k : ℕ). take k row) n ∙ h ∙ ap (map (λ n. value (term_at s n))) same ∙ sym (map-map (term_at s) value (span_of s.kids span))
