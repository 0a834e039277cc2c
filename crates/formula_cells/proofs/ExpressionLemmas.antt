-- What cells stand for when cells, kids and names come behind them.
use Rattle.std.proofs.Common.{◌≡◌, ℕ, zero, suc, ◌+◌, ◌<◌, ◌≤◌, List, [], ◌∷◌, ◌++◌, length, get_or, take, drop, map, fold, refl, sym, ap, ap₂, ◌∙◌, arith}
use Rattle.std.specs.List.{All}
use Rattle.std.proofs.lemmas.List.{take_at, take_more, take_all, take-take, take-append-le, drop-append-le, length_push, get_or_push, get_or_append_left, take-append-drop, length-take-le, get_or-take, length-drop}
use Rattle.std.proofs.lemmas.List.Sums.{fold-append}
use Rattle.std.proofs.lemmas.List.Elements.{All-head, All-tail}
use Rattle.numbered_definitions.specs.declared.node.NTerm as term
use Rattle.numbered_definitions.specs.declared.node.Node as node
use Rattle.numbered_definitions.specs.NamedForm.{NodeNot, NodePair, NodeQuant, NodeModal}
use Rattle.formula_cells.specs.declared.cell.Span.{Span}
use Rattle.formula_cells.specs.declared.cell.Cell.{Cell}
use Rattle.formula_cells.specs.declared.cell.Cell.TheVariants.{True, False, Atom, Same, Differ, Not, And, Or, Pair, Quant, Modal, Bound, App}
use Rattle.formula_cells.specs.Expressions.{Expression, OfFormula, OfTerm, as_node, as_term, expression, and_cell, expressions, node_in, term_in, name_in, span_of}
use Rattle.formula_cells.specs.Stored.{cell_in, IsPart, IsArgument, AreParts, AreArguments, IsCell}

module _ (kids : List ℕ) (names : List (List ℕ)) where
  length-fold : (before : List Expression) (cs : List Cell) → length (fold (and_cell kids names) before cs) ≡ length before + length cs
  length-fold before [] = omega arith
  length-fold before (c ∷ cs) = omega (arith, length-fold (and_cell kids names before c) cs, length_push before (expression kids names before c))

  -- each cell stands for one
  pub length-expressions : (cells : List Cell) → length (expressions kids names cells) ≡ length cells
  unfolding expressions
  length-expressions cells = omega (arith, length-fold [] cells)

  pub expressions_none : expressions kids names [] ≡ []
  unfolding expressions
  expressions_none = refl

  -- one more cell is read through those before it
  pub expressions_push : (cells : List Cell) (c : Cell) → expressions kids names (cells ++ c ∷ []) ≡ expressions kids names cells ++ expression kids names (expressions kids names cells) c ∷ []
  unfolding expressions
  expressions_push cells c = fold-append (and_cell kids names) [] cells (c ∷ [])

  front-fold : (before : List Expression) (cs : List Cell) → take (length before) (fold (and_cell kids names) before cs) ≡ before
  front-fold before [] = take_all _ _ (omega arith)
  front-fold before (c ∷ cs) =
      let more = and_cell kids names before c in
      let whole = fold (and_cell kids names) more cs in
      let n : length more ≡ length before + 1 = length_push before (expression kids names before c) in
      sym (take-take (length before) (length more) whole (omega arith)) ∙ ap (take (length before)) (front-fold more cs) ∙ take_at before _ (length before) refl

  pub take-expressions : (cells : List Cell) (k : ℕ) → k ≤ length cells → take k (expressions kids names cells) ≡ expressions kids names (take k cells)
  unfolding expressions
  take-expressions cells k h =
      let front = fold (and_cell kids names) [] (take k cells) in
      let n : length front ≡ k = omega (arith, length-fold [] (take k cells), length-take-le k cells h) in
      let whole = ap (fold (and_cell kids names) []) (sym (take-append-drop k cells)) ∙ fold-append (and_cell kids names) [] (take k cells) (drop k cells) in
      ap (take k) whole ∙ ap (λ i. take i (fold (and_cell kids names) front (drop k cells))) (sym n) ∙ front-fold front (drop k cells)

  -- each is read through those before it
  pub expressions_at : (cells : List Cell) (k : ℕ) (d : Expression) → k < length cells → get_or (expressions kids names cells) k d ≡ expression kids names (take k (expressions kids names cells)) (cell_in cells k)
  expressions_at cells k d h =
      let es = expressions kids names cells in
      let c = cell_in cells k in
      let front = expressions kids names (take k cells) in
      let more : take (k + 1) es ≡ front ++ expression kids names front c ∷ [] =
      take-expressions cells (k + 1) (omega arith) ∙ ap (expressions kids names) (take_more cells k True h) ∙ expressions_push (take k cells) c in
      let n : length front ≡ k = length-expressions (take k cells) ∙ length-take-le k cells (omega arith) in
      sym (get_or-take (k + 1) es k d (omega arith)) ∙ ap (λ xs. get_or xs k d) more ∙ get_or_push front _ d k n ∙ ap (λ xs. expression kids names xs c) (sym (take-expressions cells k (omega arith)))

-- maps that agree on each member give the same list
pub map_same : {X Y : Type 0} (f g : X → Y) (P : X → Type 0) → ((x : X) → P x → f x ≡ g x) → (xs : List X) → All P xs → map f xs ≡ map g xs
map_same f g P same [] h = refl
map_same f g P same (x ∷ xs) h = ap₂ (λ y ys. y ∷ ys) (same x (All-head P x xs h)) (map_same f g P same xs (All-tail P x xs h))

-- a cell stands for the same where those before it do
module _ (cells : List Cell) (kids : List ℕ) (names : List (List ℕ)) (at : ℕ) (before other : List Expression) (same : (k : ℕ) (d : Expression) → k < at → get_or before k d ≡ get_or other k d) where
  part_agrees : (k : ℕ) → IsPart cells at k → node_in before k ≡ node_in other k
  part_agrees k p = ap as_node (same k (OfFormula node.True) p.below)

  argument_agrees : (k : ℕ) → IsArgument cells at k → term_in before k ≡ term_in other k
  argument_agrees k p = ap as_term (same k (OfFormula node.True) p.below)

  parts_agree : (s : Span) → AreParts cells kids at s → map (node_in before) (span_of kids s) ≡ map (node_in other) (span_of kids s)
  parts_agree s h = map_same _ _ (IsPart cells at) part_agrees (span_of kids s) h.all

  arguments_agree : (s : Span) → AreArguments cells kids at s → map (term_in before) (span_of kids s) ≡ map (term_in other) (span_of kids s)
  arguments_agree s h = map_same _ _ (IsArgument cells at) argument_agrees (span_of kids s) h.all

  pub expression_agrees : (c : Cell) → IsCell cells kids names at c → expression kids names before c ≡ expression kids names other c
  expression_agrees True h = refl
  expression_agrees False h = refl
  expression_agrees (Atom p s) h = ap (λ ts. OfFormula (node.Atom p ts)) (arguments_agree s h)
  expression_agrees (Same a b) h = ap₂ (λ t u. OfFormula (node.Same t u)) (argument_agrees a h.0) (argument_agrees b h.1)
  expression_agrees (Differ a b) h = ap₂ (λ t u. OfFormula (node.Differ t u)) (argument_agrees a h.0) (argument_agrees b h.1)
  expression_agrees (Not n) h = ap (λ f. OfFormula (NodeNot f)) (part_agrees n h)
  expression_agrees (And s) h = ap (λ fs. OfFormula (node.And fs)) (parts_agree s h)
  expression_agrees (Or s) h = ap (λ fs. OfFormula (node.Or fs)) (parts_agree s h)
  expression_agrees (Pair op a b) h = ap₂ (λ f g. OfFormula (NodePair op f g)) (part_agrees a h.0) (part_agrees b h.1)
  expression_agrees (Quant q s x n) h = ap (λ f. OfFormula (NodeQuant q s (name_in names x) f)) (part_agrees n h.1)
  expression_agrees (Modal m i n) h = ap (λ f. OfFormula (NodeModal m i f)) (part_agrees n h)
  expression_agrees (Bound k) h = refl
  expression_agrees (App f s) h = ap (λ ts. OfTerm (term.App f ts)) (arguments_agree s h)

-- a stretch of the kids is as it was when more kids come behind them
pub span_more : (kids more : List ℕ) (s : Span) → s.from + s.len ≤ length kids → span_of (kids ++ more) s ≡ span_of kids s
span_more kids more s h =
    let n : s.len ≤ length (drop s.from kids) = omega (arith, length-drop s.from kids) in
    ap (take s.len) (drop-append-le s.from kids more (omega arith)) ∙ take-append-le s.len (drop s.from kids) more n

-- a cell stands for the same where kids and names come behind those that it knows
module _ (cells : List Cell) (kids : List ℕ) (names : List (List ℕ)) (at : ℕ) (ks : List ℕ) (ns : List (List ℕ)) where
  pub expression_more : (before : List Expression) (c : Cell) → IsCell cells kids names at c → expression (kids ++ ks) (names ++ ns) before c ≡ expression kids names before c
  expression_more before True h = refl
  expression_more before False h = refl
  expression_more before (Atom p s) h = ap (λ l. OfFormula (node.Atom p (map (term_in before) l))) (span_more kids ks s h.inside)
  expression_more before (Same a b) h = refl
  expression_more before (Differ a b) h = refl
  expression_more before (Not n) h = refl
  expression_more before (And s) h = ap (λ l. OfFormula (node.And (map (node_in before) l))) (span_more kids ks s h.inside)
  expression_more before (Or s) h = ap (λ l. OfFormula (node.Or (map (node_in before) l))) (span_more kids ks s h.inside)
  expression_more before (Pair op a b) h = refl
  expression_more before (Quant q s x n) h = ap (λ y. OfFormula (NodeQuant q s y (node_in before n))) (get_or_append_left names ns [] x h.0)
  expression_more before (Modal m i n) h = refl
  expression_more before (Bound k) h = refl
  expression_more before (App f s) h = ap (λ l. OfTerm (term.App f (map (term_in before) l))) (span_more kids ks s h.inside)

-- cells of which each names what is there
module _ (cells : List Cell) (kids : List ℕ) (names : List (List ℕ)) (each : (k : ℕ) → k < length cells → IsCell cells kids names k (cell_in cells k)) where
  -- each is read through all of them
  pub expressions_read : (k : ℕ) (d : Expression) → k < length cells → get_or (expressions kids names cells) k d ≡ expression kids names (expressions kids names cells) (cell_in cells k)
  expressions_read k d h =
      expressions_at kids names cells k d h ∙ expression_agrees cells kids names k _ (expressions kids names cells) (λ j e l. get_or-take k (expressions kids names cells) j e l) (cell_in cells k) (each k h)

  module _ (ks : List ℕ) (ns : List (List ℕ)) where
    front_more : (k : ℕ) → k ≤ length cells → expressions (kids ++ ks) (names ++ ns) (take k cells) ≡ expressions kids names (take k cells)
    front_more zero h = expressions_none (kids ++ ks) (names ++ ns) ∙ sym (expressions_none kids names)
    front_more (suc k) h =
        let c = cell_in cells k in
        let l : k < length cells = omega arith in
        let more : take (suc k) cells ≡ take k cells ++ c ∷ [] = let e : suc k ≡ k + 1 = omega arith in ap (λ n. take n cells) e ∙ take_more cells k True l in
        let ih = front_more k (omega arith) in
        ap (expressions (kids ++ ks) (names ++ ns)) more ∙ expressions_push (kids ++ ks) (names ++ ns) (take k cells) c
        ∙ ap₂ (λ a t. a ++ t ∷ []) ih (ap (λ a. expression (kids ++ ks) (names ++ ns) a c) ih ∙ expression_more cells kids names k ks ns (expressions kids names (take k cells)) c (each k l))
        ∙ sym (ap (expressions kids names) more ∙ expressions_push kids names (take k cells) c)

    -- all stay where kids and names come behind
    pub expressions_more : expressions (kids ++ ks) (names ++ ns) cells ≡ expressions kids names cells
    expressions_more =
        let all = take_all (length cells) cells (omega arith) in
        ap (expressions (kids ++ ks) (names ++ ns)) (sym all) ∙ front_more (length cells) (omega arith) ∙ ap (expressions kids names) all
