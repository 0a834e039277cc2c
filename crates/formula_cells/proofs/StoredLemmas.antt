-- Cells stay in order when cells, kids and names come behind.
use Rattle.std.proofs.Common.{◌≡◌, ℕ, ◌<◌, ◌≤◌, List, [], ◌∷◌, ◌++◌, length, refl, sym, ap, ◌∙◌, subst, inl, inr, arith}
use Rattle.std.proofs.lemmas.Bool.{cases_lt}
use Rattle.std.specs.List.{All, IsDistinct}
use Rattle.std.specs.Prelude.{nat_eq}
use Rattle.std.specs.Cmp.Lexicographic.{pointwise}
use Rattle.std.proofs.lemmas.List.{append-nil, length_push, length-append, get_or_push, get_or_append_left}
use Rattle.std.proofs.lemmas.List.Elements.{All-weaker}
use Rattle.formula_cells.specs.declared.cell.Span.{Span}
use Rattle.formula_cells.specs.declared.cell.Cell.{Cell}
use Rattle.formula_cells.specs.declared.cell.Cell.TheVariants.{True, False, Atom, Same, Differ, Not, And, Or, Pair, Quant, Modal, Bound, App}
use Rattle.formula_cells.specs.declared.root.Root.{Root}
use Rattle.formula_cells.specs.Expressions.{span_of}
use Rattle.formula_cells.specs.Stored.{Stored, cell_in, is_term, IsPart, IsArgument, AreParts, AreArguments, IsCell, IsFormula, IsStored}
use Rattle.formula_cells.proofs.ExpressionLemmas.{span_more}

module _ (cells : List Cell) (kids : List ℕ) (names : List (List ℕ)) (cs : List Cell) (ks : List ℕ) (ns : List (List ℕ)) (at : ℕ) (within : at ≤ length cells) where
  part_more : (n : ℕ) → IsPart cells at n → IsPart (cells ++ cs) at n
  part_more n p = record { below = p.below; formula = ap is_term (get_or_append_left cells cs True n (omega (arith, p.below))) ∙ p.formula }

  argument_more : (n : ℕ) → IsArgument cells at n → IsArgument (cells ++ cs) at n
  argument_more n p = record { below = p.below; term = ap is_term (get_or_append_left cells cs True n (omega (arith, p.below))) ∙ p.term }

  parts_more : (s : Span) → AreParts cells kids at s → AreParts (cells ++ cs) (kids ++ ks) at s
  parts_more s h = record {
    inside = omega (arith, h.inside, length-append kids ks);
    all = subst (All (IsPart (cells ++ cs) at)) (sym (span_more kids ks s h.inside)) (All-weaker (IsPart cells at) (IsPart (cells ++ cs) at) part_more (span_of kids s) h.all);
  }

  arguments_more : (s : Span) → AreArguments cells kids at s → AreArguments (cells ++ cs) (kids ++ ks) at s
  arguments_more s h = record {
    inside = omega (arith, h.inside, length-append kids ks);
    all = subst (All (IsArgument (cells ++ cs) at)) (sym (span_more kids ks s h.inside)) (All-weaker (IsArgument cells at) (IsArgument (cells ++ cs) at) argument_more (span_of kids s) h.all);
  }

  -- what a cell names is still there
  pub cell_more : (c : Cell) → IsCell cells kids names at c → IsCell (cells ++ cs) (kids ++ ks) (names ++ ns) at c
  cell_more True h = tt
  cell_more False h = tt
  cell_more (Atom p s) h = arguments_more s h
  cell_more (Same a b) h = (argument_more a h.0, argument_more b h.1)
  cell_more (Differ a b) h = (argument_more a h.0, argument_more b h.1)
  cell_more (Not n) h = part_more n h
  cell_more (And s) h = parts_more s h
  cell_more (Or s) h = parts_more s h
  cell_more (Pair op a b) h = (part_more a h.0, part_more b h.1)
  cell_more (Quant q s x n) h = (omega (arith, h.0, length-append names ns), part_more n h.1)
  cell_more (Modal m i n) h = part_more n h
  cell_more (Bound k) h = tt
  cell_more (App f s) h = arguments_more s h

-- the same where only cells come
cell_kept : (cells : List Cell) (kids : List ℕ) (names : List (List ℕ)) (cs : List Cell) (at : ℕ) → at ≤ length cells → (c : Cell) → IsCell cells kids names at c → IsCell (cells ++ cs) kids names at c
cell_kept cells kids names cs at within c h =
    subst (λ (ks : List ℕ). IsCell (cells ++ cs) ks names at c) (append-nil kids)
    (subst (λ (ns : List (List ℕ)). IsCell (cells ++ cs) (kids ++ []) ns at c) (append-nil names) (cell_more cells kids names cs [] [] at within c h))

-- one more cell, with its kids and names behind those that were there
module _ (s : Stored) (c : Cell) (ks : List ℕ) (ns : List (List ℕ)) where
  abbrev pub with_cell : Stored
  with_cell = record { cells = s.cells ++ c ∷ []; kids = s.kids ++ ks; names = s.names ++ ns; roots = s.roots }

  pub formula_pushed : (n : ℕ) → IsFormula s n → IsFormula with_cell n
  formula_pushed n p = record {
    below = omega (arith, p.below, length_push s.cells c);
    formula = ap is_term (get_or_append_left s.cells (c ∷ []) True n p.below) ∙ p.formula;
  }

  each_pushed : IsStored s → IsCell s.cells (s.kids ++ ks) (s.names ++ ns) (length s.cells) c → (k : ℕ) → k < length (s.cells ++ c ∷ []) → IsCell (s.cells ++ c ∷ []) (s.kids ++ ks) (s.names ++ ns) k (cell_in (s.cells ++ c ∷ []) k)
  each_pushed h good k l =
      elim (cases_lt k (length s.cells)) [
        | inl b ↦
            subst (IsCell (s.cells ++ c ∷ []) (s.kids ++ ks) (s.names ++ ns) k) (sym (get_or_append_left s.cells (c ∷ []) True k b))
            (cell_more s.cells s.kids s.names (c ∷ []) ks ns k (omega arith) (cell_in s.cells k) (h.each k b))
        | inr b ↦
            let e : length s.cells ≡ k = omega (arith, length_push s.cells c) in
            subst (λ (i : ℕ). IsCell (s.cells ++ c ∷ []) (s.kids ++ ks) (s.names ++ ns) i (cell_in (s.cells ++ c ∷ []) i)) e
            (subst (IsCell (s.cells ++ c ∷ []) (s.kids ++ ks) (s.names ++ ns) (length s.cells)) (sym (get_or_push s.cells c True (length s.cells) refl))
            (cell_kept s.cells (s.kids ++ ks) (s.names ++ ns) (c ∷ []) (length s.cells) (omega arith) c good))
      ]

  pub stored_pushed : IsStored s → IsDistinct (pointwise nat_eq) (s.names ++ ns) → IsCell s.cells (s.kids ++ ks) (s.names ++ ns) (length s.cells) c → IsStored with_cell
  stored_pushed h differ good = record {
    each = each_pushed h good;
    differ = differ;
    roots = All-weaker (λ (r : Root). IsFormula s r.cell) (λ (r : Root). IsFormula with_cell r.cell) (λ r. formula_pushed r.cell) s.roots h.roots;
  }
