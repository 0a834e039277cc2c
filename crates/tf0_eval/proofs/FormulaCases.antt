-- Numbered formulas by their lists of parts, and quantifiers as searches for one element.
use Rattle.std.proofs.Common.{◌≡◌, ℕ, zero, suc, ◌+◌, ◌<◌, ◌≤◌, Bool, true, false, List, [], ◌∷◌, ◌++◌, length, get_or, map, take, set, refl, sym, ap, ap₂, ◌∙◌, subst, inl, inr, arith}
use mathlib.Core.Bool.{beq}
use Rattle.std.specs.Prelude.{◌&&◌, ◌||◌, not, max}
use Rattle.std.specs.List.{All as Each, list_any}
use Rattle.std.proofs.lemmas.Bool.{cases_lt}
use Rattle.std.proofs.lemmas.List.{get_or-map, length-map, take_more_set, take-take, take-set}
use Rattle.std.proofs.lemmas.List.Elements.{All-nil, All-cons, All-from_get_or}
use Rattle.nxf_tree.specs.Counting.{all_below, any_below, same_truth}
use Rattle.fin_struct.specs.StructureTables.{StructureTables}
use Rattle.numbered_definitions.specs.declared.node.Node.{Node, Row_of-Node, end_of-Node, more_of-Node}
use Rattle.numbered_definitions.specs.declared.node.Node as node
use Rattle.numbered_definitions.specs.declared.node.Node.TheBlock.{hidden-the_row-Node-1, items-the_row-Node, items_hidden-the_row-Node-1}
use Rattle.formula_cells.specs.Stored.{Stored, node_at}
use Rattle.classical_evaluation_definitions.specs.ClassicalMeaning.{node_sat, all_nodes, some_node}
use Rattle.classical_evaluation_definitions.specs.ClassicalFitting.{Fits, AllFit}
use Rattle.kripke_evaluation_definitions.specs.NumberedDepth.{node_depth, node_row_depth, nodes_depth}

depth_row : {m : _} (ns : Row_of-Node m) → node_row_depth ns ≡ nodes_depth (items-the_row-Node _ ns)
depth_row end_of-Node = refl
depth_row (more_of-Node n ns) = ap (max (node_depth n)) (depth_row ns)

pub depth_of_And : (ns : List Node) → node_depth (node.And ns) ≡ nodes_depth ns + 1
depth_of_And ns = ap (λ n. n + 1) (depth_row (hidden-the_row-Node-1 ns) ∙ ap nodes_depth (items_hidden-the_row-Node-1 ns))

pub depth_of_Or : (ns : List Node) → node_depth (node.Or ns) ≡ nodes_depth ns + 1
depth_of_Or ns = ap (λ n. n + 1) (depth_row (hidden-the_row-Node-1 ns) ∙ ap nodes_depth (items_hidden-the_row-Node-1 ns))

pub node-at : (ns : List Node) (i : ℕ) (d : Node) → i < length ns → node_depth (get_or ns i d) ≤ nodes_depth ns
node-at [] i d l = absurd (omega arith)
node-at (n ∷ ns) zero d l = omega arith
node-at (n ∷ ns) (suc i) d l = omega (arith, node-at ns i d (omega arith))

-- a part among cells is no deeper than the deepest
pub part-depth : (s : Stored) (parts : List ℕ) (i : ℕ) → i < length parts → node_depth (node_at s (get_or parts i 0)) ≤ nodes_depth (map (node_at s) parts)
part-depth s parts i l =
    let d = node_at s (get_or parts i 0) in
    let same : node_depth (get_or (map (node_at s) parts) i d) ≡ node_depth d = ap node_depth (get_or-map (node_at s) parts i 0 d l) in
    omega (arith, same, node-at (map (node_at s) parts) i d (omega (arith, l, length-map parts (node_at s))))

all_step : (b r a : Bool) → r ≡ not a → (b && r) ≡ not (not b || a)
all_step true r a h = h
all_step false r a h = refl

module _ (view : StructureTables) (e : List ℕ) where
  all_row : {m : _} (ns : Row_of-Node m) → all_nodes view e ns ≡ not (list_any (λ n. not (node_sat view e n)) (items-the_row-Node _ ns))
  all_row end_of-Node = refl
  all_row (more_of-Node n ns) = all_step (node_sat view e n) _ _ (all_row ns)

  pub sat_of_And : (ns : List Node) → node_sat view e (node.And ns) ≡ not (list_any (λ n. not (node_sat view e n)) ns)
  sat_of_And ns = all_row (hidden-the_row-Node-1 ns) ∙ ap (λ l. not (list_any (λ n. not (node_sat view e n)) l)) (items_hidden-the_row-Node-1 ns)

  some_row : {m : _} (ns : Row_of-Node m) → some_node view e ns ≡ list_any (node_sat view e) (items-the_row-Node _ ns)
  some_row end_of-Node = refl
  some_row (more_of-Node n ns) = ap (λ b. node_sat view e n || b) (some_row ns)

  pub sat_of_Or : (ns : List Node) → node_sat view e (node.Or ns) ≡ list_any (node_sat view e) ns
  sat_of_Or ns = some_row (hidden-the_row-Node-1 ns) ∙ ap (list_any (node_sat view e)) (items_hidden-the_row-Node-1 ns)

  fits_row : {m : _} (ns : Row_of-Node m) → AllFit view e ns → Each (Fits view e) (items-the_row-Node _ ns)
  fits_row end_of-Node h = All-nil (Fits view e)
  fits_row (more_of-Node n ns) h = All-cons (Fits view e) n _ h.0 (fits_row ns h.1)

  pub fits_of_And : (ns : List Node) → Fits view e (node.And ns) → Each (Fits view e) ns
  fits_of_And ns h = subst (Each (Fits view e)) (items_hidden-the_row-Node-1 ns) (fits_row (hidden-the_row-Node-1 ns) h)

  pub fits_of_Or : (ns : List Node) → Fits view e (node.Or ns) → Each (Fits view e) ns
  fits_of_Or ns h = subst (Each (Fits view e)) (items_hidden-the_row-Node-1 ns) (fits_row (hidden-the_row-Node-1 ns) h)

  -- what is so of each formula that cells stand for is so of what each cell stands for
  pub each_part : (s : Stored) (parts : List ℕ) → Each (Fits view e) (map (node_at s) parts) → Each (λ n. Fits view e (node_at s n)) parts
  each_part s parts h = All-from_get_or (λ n. Fits view e (node_at s n)) parts 0 (λ i l.
      subst (Fits view e) (get_or-map (node_at s) parts i 0 (node_at s 0) l) (h i (node_at s 0) (omega (arith, l, length-map parts (node_at s)))))

pub any-map : {X Y : Type 0} (p : Y → Bool) (f : X → Y) (xs : List X) → list_any p (map f xs) ≡ list_any (λ x. p (f x)) xs
any-map p f [] = refl
any-map p f (x ∷ xs) = ap (λ b. p (f x) || b) (any-map p f xs)

-- all pass exactly where none of them fails
pub all_is : (n : ℕ) (p : ℕ → Bool) → all_below n p ≡ not (any_below n (λ a. not (p a)))
all_is zero p = refl
all_is (suc n) p = ap (λ b. b && p n) (all_is n p) ∙ by (any_below n (λ a. not (p a))) (p n)
  where
    by : (a b : Bool) → (not a && b) ≡ not (a || not b)
    by true b = refl
    by false true = refl
    by false false = refl

or_true : (a : Bool) → (a || true) ≡ true
or_true true = refl
or_true false = refl

pub any_below_there : (n v : ℕ) (p : ℕ → Bool) → v < n → p v ≡ true → any_below n p ≡ true
any_below_there zero v p l h = absurd (omega arith)
any_below_there (suc n) v p l h = elim (cases_lt v n) [
  | inl b ↦ ap (λ x. x || p n) (any_below_there n v p b h)
  | inr b ↦ let e : v ≡ n = omega arith in ap (λ x. any_below n p || x) (subst (λ m. p m ≡ true) e h) ∙ or_true (any_below n p)
]

pub any_below_more : (n : ℕ) (p : ℕ → Bool) → any_below n p ≡ false → p n ≡ false → any_below (n + 1) p ≡ false
any_below_more n p h l =
    let e : n + 1 ≡ suc n = omega arith in
    ap (λ m. any_below m p) e ∙ ap₂ (λ a b. a || b) h l

-- the same of the members of a list
pub list_any_there : {X : Type 0} (p : X → Bool) (xs : List X) (i : ℕ) (d : X) → i < length xs → p (get_or xs i d) ≡ true → list_any p xs ≡ true
list_any_there p [] i d l h = absurd (omega (arith, l))
list_any_there p (x ∷ xs) zero d l h = ap (λ b. b || list_any p xs) h
list_any_there p (x ∷ xs) (suc i) d l h = ap (λ b. p x || b) (list_any_there p xs i d (omega (arith, l)) h) ∙ or_true (p x)

-- a comparison of two truths
pub beq_is : (r t : Bool) → beq r t ≡ same_truth t r
beq_is true true = refl
beq_is true false = refl
beq_is false true = refl
beq_is false false = refl

-- the values of the enclosing quantifiers, and one more
pub pushed : (top a : ℕ) (stack first : List ℕ) → top < length stack → take top stack ≡ take top first → take (top + 1) (set stack top a) ≡ take top first ++ a ∷ []
pushed top a stack first l kept = take_more_set stack top a l ∙ ap (λ e. e ++ a ∷ []) kept

-- what keeps the front with one more value keeps the front
pub front_kept : (top a : ℕ) (new stack first : List ℕ) → take (top + 1) new ≡ take (top + 1) (set stack top a) → take top stack ≡ take top first → take top new ≡ take top first
front_kept top a new stack first same kept =
    sym (take-take top (top + 1) new (omega arith)) ∙ ap (take top) same ∙ take-take top (top + 1) (set stack top a) (omega arith) ∙ take-set stack top a ∙ kept
