-- What a store is after a cell came behind its others.
use Rattle.std.proofs.Common.{◌≡◌, ℕ, ◌<◌, ◌≤◌, List, [], ◌∷◌, ◌++◌, append_assoc, map, length, get_or, refl, sym, ap, ◌∙◌, subst, arith}
use Rattle.std.specs.Prelude.{nat_eq}
use Rattle.std.specs.List.{All, IsDistinct}
use Rattle.std.specs.Cmp.Lexicographic.{pointwise}
use Rattle.std.proofs.lemmas.List.{append-nil, length_push, length-append, get_or_push, get_or_append_left}
use Rattle.std.proofs.lemmas.List.Elements.{All-push}
use Rattle.numbered_definitions.specs.declared.node.Node.{Node}
use Rattle.numbered_definitions.specs.declared.node.Node as node
use Rattle.numbered_definitions.specs.declared.node.Numbered.{Numbered}
use Rattle.numbered_definitions.specs.NamedForm.{NodeQuant}
use Rattle.nxf_tree.specs.declared.tree.Quantifier.{Quantifier}
use Rattle.formula_cells.specs.declared.cell.Cell.{Cell}
use Rattle.formula_cells.specs.declared.cell.Cell.TheVariants.{True, Quant}
use Rattle.formula_cells.specs.declared.root.Root.{Root}
use Rattle.formula_cells.specs.Expressions.{Expression, OfFormula, as_node, as_term, expression}
use Rattle.formula_cells.specs.Stored.{Stored, cell_in, is_term, IsCell, IsFormula, IsTerm, IsStored, expressions_of, expression_at, node_at, term_at, formula_of, formulas_in}
use Rattle.formula_cells.specs.Putting.{Grows, AddsCell, AddsNode, IsNumber}
use Rattle.formula_cells.proofs.ExpressionLemmas.{length-expressions, expressions_push, expressions_more, map_same}
use Rattle.formula_cells.proofs.StoredLemmas.{with_cell, stored_pushed}

-- the first expressions stay where others come behind
pub expression_kept : (old new : Stored) (more : List Expression) → expressions_of new ≡ expressions_of old ++ more → (k : ℕ) (d : Expression) → k < length old.cells → get_or (expressions_of new) k d ≡ get_or (expressions_of old) k d
expression_kept old new more e k d l =
    ap (λ es. get_or es k d) e ∙ get_or_append_left (expressions_of old) more d k (omega (arith, l, length-expressions old.kids old.names old.cells))

-- one more cell: the store after it, and what the cell stands for
pub record Pushed (s : Stored) (c : Cell) (kids : List ℕ) (names : List (List ℕ)) : Type 0 where
  pub grows : Grows s (record { cells = s.cells ++ c ∷ []; kids = kids; names = names; roots = s.roots })
  pub stands : expression_at (record { cells = s.cells ++ c ∷ []; kids = kids; names = names; roots = s.roots }) (length s.cells) ≡ expression kids names (expressions_of s) c

module _ (s : Stored) (c : Cell) (h : IsStored s) where
  expressions_pushed : (ks : List ℕ) (ns : List (List ℕ)) → expressions_of (with_cell s c ks ns) ≡ expressions_of s ++ expression (s.kids ++ ks) (s.names ++ ns) (expressions_of s) c ∷ []
  expressions_pushed ks ns =
      expressions_push (s.kids ++ ks) (s.names ++ ns) s.cells c
      ∙ ap (λ es. es ++ expression (s.kids ++ ks) (s.names ++ ns) es c ∷ []) (expressions_more s.cells s.kids s.names h.each ks ns)

  formulas_kept : (new : Stored) (more : List Expression) → expressions_of new ≡ expressions_of s ++ more → map (formula_of (expressions_of new)) s.roots ≡ formulas_in s
  formulas_kept new more e =
      map_same (formula_of (expressions_of new)) (formula_of (expressions_of s)) (λ (r : Root). IsFormula s r.cell)
      (λ r p. ap (λ (n : Node). let made : Numbered = record { place = r.place; name = r.label; node = n } in made) (ap as_node (expression_kept s new more e r.cell (OfFormula node.True) p.below))) s.roots h.roots

  pushed : (ks : List ℕ) (ns : List (List ℕ)) → Pushed s c (s.kids ++ ks) (s.names ++ ns)
  pushed ks ns =
      let x = expression (s.kids ++ ks) (s.names ++ ns) (expressions_of s) c in
      let es = expressions_pushed ks ns in
      record {
        grows = record {
          cells = (c ∷ [], refl);
          kids = (ks, refl);
          names = (ns, refl);
          expressions = (x ∷ [], es);
          roots = refl;
          formulas = formulas_kept (with_cell s c ks ns) (x ∷ []) es;
        };
        stands = ap (λ l. get_or l (length s.cells) (OfFormula node.True)) es ∙ get_or_push (expressions_of s) x (OfFormula node.True) (length s.cells) (length-expressions s.kids s.names s.cells);
      }

  pub pushed_parts : (ks : List ℕ) → Pushed s c (s.kids ++ ks) s.names
  pushed_parts ks = subst (λ (ns : List (List ℕ)). Pushed s c (s.kids ++ ks) ns) (append-nil s.names) (pushed ks [])

  pub pushed_names : (names more : List (List ℕ)) → names ≡ s.names ++ more → Pushed s c s.kids names
  pushed_names names more e = subst (λ (ks : List ℕ). Pushed s c ks names) (append-nil s.kids) (subst (λ (ns : List (List ℕ)). Pushed s c (s.kids ++ []) ns) (sym e) (pushed [] more))

  pub stored_parts : (ks : List ℕ) → IsCell s.cells (s.kids ++ ks) s.names (length s.cells) c → IsStored (record { cells = s.cells ++ c ∷ []; kids = s.kids ++ ks; names = s.names; roots = s.roots })
  stored_parts ks good =
      let same = sym (append-nil s.names) in
      subst (λ (ns : List (List ℕ)). IsStored (record { cells = s.cells ++ c ∷ []; kids = s.kids ++ ks; names = ns; roots = s.roots })) (append-nil s.names)
      (stored_pushed s c ks [] h (subst (IsDistinct (pointwise nat_eq)) same h.differ) (subst (λ (ns : List (List ℕ)). IsCell s.cells (s.kids ++ ks) ns (length s.cells) c) same good))

  pub stored_names : (names more : List (List ℕ)) → names ≡ s.names ++ more → IsDistinct (pointwise nat_eq) names → IsCell s.cells s.kids names (length s.cells) c → IsStored (record { cells = s.cells ++ c ∷ []; kids = s.kids; names = names; roots = s.roots })
  stored_names names more e differ good =
      let nil = append-nil s.kids in
      let named : IsCell s.cells s.kids (s.names ++ more) (length s.cells) c = subst (λ (ns : List (List ℕ)). IsCell s.cells s.kids ns (length s.cells) c) e good in
      subst (λ (ns : List (List ℕ)). IsStored (record { cells = s.cells ++ c ∷ []; kids = s.kids; names = ns; roots = s.roots })) (sym e)
      (subst (λ (ks : List ℕ). IsStored (record { cells = s.cells ++ c ∷ []; kids = ks; names = s.names ++ more; roots = s.roots })) nil
      (stored_pushed s c [] more h (subst (IsDistinct (pointwise nat_eq)) e differ) (subst (λ (ks : List ℕ). IsCell s.cells ks (s.names ++ more) (length s.cells) c) (sym nil) named)))

  -- a cell with its parts
  pub adds_cell : (ks : List ℕ) → AddsCell s (record { cells = s.cells ++ c ∷ []; kids = s.kids ++ ks; names = s.names; roots = s.roots }) (length s.cells) (s.kids ++ ks) c
  adds_cell ks =
      let p = pushed_parts ks in
      record {
        grows = p.grows;
        last = refl;
        one_more = length_push s.cells c;
        cell = get_or_push s.cells c True (length s.cells) refl;
        stands = p.stands;
      }

-- a quantifier with its name
pub adds_quant : (s : Stored) → IsStored s → (names more : List (List ℕ)) → names ≡ s.names ++ more → (q : Quantifier) (k x n : ℕ) (name : List ℕ) → IsNumber names x name → AddsNode s (record { cells = s.cells ++ Quant q k x n ∷ []; kids = s.kids; names = names; roots = s.roots }) (length s.cells) (NodeQuant q k name (node_at s n))
adds_quant s h names more e q k x n name number =
    let c = Quant q k x n in
    let p = pushed_names s c h names more e in
    record {
      grows = p.grows;
      last = refl;
      one_more = length_push s.cells c;
      formula = record { below = omega (arith, length_push s.cells c); formula = ap is_term (get_or_push s.cells c True (length s.cells) refl) };
      node = ap as_node p.stands ∙ ap (λ y. NodeQuant q k y (node_at s n)) number.is;
    }

-- one more formula of the file
pub stored_added : (s : Stored) → IsStored s → (r : Root) → IsFormula s r.cell → IsStored (record { cells = s.cells; kids = s.kids; names = s.names; roots = s.roots ++ r ∷ [] })
stored_added s h r p = record { each = h.each; differ = h.differ; roots = All-push (λ (x : Root). IsFormula s x.cell) s.roots r h.roots p }

-- growing
pub grows_same : (s : Stored) → Grows s s
grows_same s = record {
  cells = ([], sym (append-nil s.cells));
  kids = ([], sym (append-nil s.kids));
  names = ([], sym (append-nil s.names));
  expressions = ([], sym (append-nil (expressions_of s)));
  roots = refl;
  formulas = refl;
}

behind_twice : {X : Type 0} (a b c xs ys : List X) → b ≡ a ++ xs → c ≡ b ++ ys → (more : List X) × (c ≡ a ++ more)
behind_twice a b c xs ys e f = (xs ++ ys, f ∙ ap (λ l. l ++ ys) e ∙ append_assoc a xs ys)

pub grows_twice : (a b c : Stored) → Grows a b → Grows b c → Grows a c
grows_twice a b c g h = record {
  cells = behind_twice _ _ _ _ _ g.cells.1 h.cells.1;
  kids = behind_twice _ _ _ _ _ g.kids.1 h.kids.1;
  names = behind_twice _ _ _ _ _ g.names.1 h.names.1;
  expressions = behind_twice _ _ _ _ _ g.expressions.1 h.expressions.1;
  roots = h.roots ∙ g.roots;
  formulas = h.formulas ∙ g.formulas;
}

-- what was there is there, and stands for the same
module _ (old new : Stored) (g : Grows old new) where
  pub cells_grow : length old.cells ≤ length new.cells
  cells_grow = let n = ap length g.cells.1 in omega (arith, n, length-append old.cells g.cells.0)

  kind_kept : (k : ℕ) → k < length old.cells → is_term (cell_in new.cells k) ≡ is_term (cell_in old.cells k)
  kind_kept k l = ap is_term (ap (λ cs. cell_in cs k) g.cells.1 ∙ get_or_append_left old.cells g.cells.0 True k l)

  pub formula_kept : (k : ℕ) → IsFormula old k → IsFormula new k
  formula_kept k p = record { below = omega (arith, p.below, cells_grow); formula = kind_kept k p.below ∙ p.formula }

  pub term_kept : (k : ℕ) → IsTerm old k → IsTerm new k
  term_kept k p = record { below = omega (arith, p.below, cells_grow); term = kind_kept k p.below ∙ p.term }

  pub node_kept : (k : ℕ) → IsFormula old k → node_at new k ≡ node_at old k
  node_kept k p = ap as_node (expression_kept old new g.expressions.0 g.expressions.1 k (OfFormula node.True) p.below)

  pub term_at_kept : (k : ℕ) → IsTerm old k → term_at new k ≡ term_at old k
  term_at_kept k p = ap as_term (expression_kept old new g.expressions.0 g.expressions.1 k (OfFormula node.True) p.below)

  pub nodes_kept : (parts : List ℕ) → All (IsFormula old) parts → map (node_at new) parts ≡ map (node_at old) parts
  nodes_kept parts h = map_same (node_at new) (node_at old) (IsFormula old) node_kept parts h

  pub terms_kept : (args : List ℕ) → All (IsTerm old) args → map (term_at new) args ≡ map (term_at old) args
  terms_kept args h = map_same (term_at new) (term_at old) (IsTerm old) term_at_kept args h
