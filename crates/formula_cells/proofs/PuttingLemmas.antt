-- What is put stands where its call says.
use Rattle.std.proofs.Common.{◌≡◌, ℕ, ◌+◌, ◌≤◌, List, [], ◌∷◌, ◌++◌, map, take, length, Result, Ok, Err, sym, ap, ◌∙◌, subst, arith}
use Rattle.std.specs.Prelude.{IfOk, false, true}
use Rattle.std.specs.List.{All}
use Rattle.std.proofs.lemmas.List.{drop_at, take_all, length-append, map_push}
use Rattle.std.proofs.lemmas.List.Elements.{All-nil, All-weaker, All-push}
use Rattle.nxf_base.specs.declared.memory.Memory.{Memory}
use Rattle.numbered_definitions.specs.declared.node.NTerm.{NTerm}
use Rattle.numbered_definitions.specs.declared.node.Node.{Node}
use Rattle.formula_cells.specs.declared.cell.Span.{Span}
use Rattle.formula_cells.specs.declared.cell.Cell.{Cell}
use Rattle.formula_cells.specs.Expressions.{as_node, as_term, expression, span_of}
use Rattle.formula_cells.specs.Stored.{Stored, is_term, IsPart, IsArgument, AreParts, AreArguments, IsFormula, IsTerm, expressions_of, node_at, term_at}
use Rattle.formula_cells.specs.Putting.{Grows, AddsCell, AddsNode, AddsTerm, Puts, PutsTerm, PutsAll, PutsTerms}
use Rattle.formula_cells.proofs.GrowingLemmas.{grows_same, grows_twice, formula_kept, term_kept, node_kept, term_at_kept, nodes_kept, terms_kept}

-- parts that come behind the kids are the cells of their span
module _ (kids parts : List ℕ) (s : Span) (is : s ≡ record { from = length kids; len = length parts }) where
  pub span_behind : span_of (kids ++ parts) s ≡ parts
  span_behind =
      let from : s.from ≡ length kids = ap (λ (t : Span). t.from) is in
      let len : s.len ≡ length parts = ap (λ (t : Span). t.len) is in
      ap (take s.len) (drop_at kids parts s.from (sym from)) ∙ take_all s.len parts (omega (arith, len))

  inside_behind : s.from + s.len ≤ length (kids ++ parts)
  inside_behind =
      let from : s.from ≡ length kids = ap (λ (t : Span). t.from) is in
      let len : s.len ≡ length parts = ap (λ (t : Span). t.len) is in
      omega (arith, from, len, length-append kids parts)

  pub parts_behind : (cells : List Cell) (at : ℕ) → All (IsPart cells at) parts → AreParts cells (kids ++ parts) at s
  parts_behind cells at h = record { inside = inside_behind; all = subst (All (IsPart cells at)) (sym span_behind) h }

  pub arguments_behind : (cells : List Cell) (at : ℕ) → All (IsArgument cells at) parts → AreArguments cells (kids ++ parts) at s
  arguments_behind cells at h = record { inside = inside_behind; all = subst (All (IsArgument cells at)) (sym span_behind) h }

-- a cell of a formula, or of a term, stands for one
module _ (old new : Stored) (kids : List ℕ) (c : Cell) where
  pub adds_node : is_term c ≡ false → (r : Result ℕ Memory) → IfOk r (λ at. AddsCell old new at kids c) → IfOk r (λ at. AddsNode old new at (as_node (expression kids old.names (expressions_of old) c)))
  adds_node kind (Ok at) h = record {
    grows = h.grows;
    last = h.last;
    one_more = h.one_more;
    formula = record { below = omega (arith, h.last, h.one_more); formula = ap is_term h.cell ∙ kind };
    node = ap as_node h.stands;
  }
  adds_node kind (Err e) h = h

  pub adds_term : is_term c ≡ true → (r : Result ℕ Memory) → IfOk r (λ at. AddsCell old new at kids c) → IfOk r (λ at. AddsTerm old new at (as_term (expression kids old.names (expressions_of old) c)))
  adds_term kind (Ok at) h = record {
    grows = h.grows;
    last = h.last;
    one_more = h.one_more;
    is_term = record { below = omega (arith, h.last, h.one_more); term = ap is_term h.cell ∙ kind };
    term = ap as_term h.stands;
  }
  adds_term kind (Err e) h = h

-- the same formula, or term, under an equal name
pub node_is : (old new : Stored) (n m : Node) → n ≡ m → (r : Result ℕ Memory) → IfOk r (λ at. AddsNode old new at n) → IfOk r (λ at. AddsNode old new at m)
node_is old new n m e r h = subst (λ (x : Node). IfOk r (λ at. AddsNode old new at x)) e h

pub term_is : (old new : Stored) (t u : NTerm) → t ≡ u → (r : Result ℕ Memory) → IfOk r (λ at. AddsTerm old new at t) → IfOk r (λ at. AddsTerm old new at u)
term_is old new t u e r h = subst (λ (x : NTerm). IfOk r (λ at. AddsTerm old new at x)) e h

-- what one call puts
pub puts_here : (P : Node → Type 0) (old new : Stored) (at : ℕ) (n : Node) → AddsNode old new at n → P n → Puts P old new at
puts_here P old new at n h p = record { grows = h.grows; formula = h.formula; holds = subst P (sym h.node) p }

pub puts_term_here : (P : NTerm → Type 0) (old new : Stored) (at : ℕ) (t : NTerm) → AddsTerm old new at t → P t → PutsTerm P old new at
puts_term_here P old new at t h p = record { grows = h.grows; is_term = h.is_term; holds = subst P (sym h.term) p }

-- what is put after more is put after all of it
pub puts_more : (P : Node → Type 0) (old mid new : Stored) (at : ℕ) (n : Node) → Grows old mid → AddsNode mid new at n → P n → Puts P old new at
puts_more P old mid new at n g h p = record { grows = grows_twice old mid new g h.grows; formula = h.formula; holds = subst P (sym h.node) p }

pub puts_term_more : (P : NTerm → Type 0) (old mid new : Stored) (at : ℕ) (t : NTerm) → Grows old mid → AddsTerm mid new at t → P t → PutsTerm P old new at
puts_term_more P old mid new at t g h p = record { grows = grows_twice old mid new g h.grows; is_term = h.is_term; holds = subst P (sym h.term) p }

-- what was put is there when more comes
pub puts_kept : (P : Node → Type 0) (old mid new : Stored) (at : ℕ) → Puts P old mid at → Grows mid new → Puts P old new at
puts_kept P old mid new at h g = record { grows = grows_twice old mid new h.grows g; formula = formula_kept mid new g at h.formula; holds = subst P (sym (node_kept mid new g at h.formula)) h.holds }

pub puts_term_kept : (P : NTerm → Type 0) (old mid new : Stored) (at : ℕ) → PutsTerm P old mid at → Grows mid new → PutsTerm P old new at
puts_term_kept P old mid new at h g = record { grows = grows_twice old mid new h.grows g; is_term = term_kept mid new g at h.is_term; holds = subst P (sym (term_at_kept mid new g at h.is_term)) h.holds }

-- what is so of it says less
pub puts_weaker : (P Q : Node → Type 0) → ((n : Node) → P n → Q n) → (old new : Stored) (at : ℕ) → Puts P old new at → Puts Q old new at
puts_weaker P Q w old new at h = record { grows = h.grows; formula = h.formula; holds = w (node_at new at) h.holds }

pub puts_term_weaker : (P Q : NTerm → Type 0) → ((t : NTerm) → P t → Q t) → (old new : Stored) (at : ℕ) → PutsTerm P old new at → PutsTerm Q old new at
puts_term_weaker P Q w old new at h = record { grows = h.grows; is_term = h.is_term; holds = w (term_at new at) h.holds }

pub puts_all_weaker : (P Q : List Node → Type 0) → ((ns : List Node) → P ns → Q ns) → (old new : Stored) (parts : List ℕ) → PutsAll P old new parts → PutsAll Q old new parts
puts_all_weaker P Q w old new parts h = record { grows = h.grows; formulas = h.formulas; holds = w (map (node_at new) parts) h.holds }

pub puts_terms_weaker : (P Q : List NTerm → Type 0) → ((ts : List NTerm) → P ts → Q ts) → (old new : Stored) (args : List ℕ) → PutsTerms P old new args → PutsTerms Q old new args
puts_terms_weaker P Q w old new args h = record { grows = h.grows; are_terms = h.are_terms; holds = w (map (term_at new) args) h.holds }

-- none, and one more
pub puts_none : (P : List Node → Type 0) (s : Stored) → P [] → PutsAll P s s []
puts_none P s p = record { grows = grows_same s; formulas = All-nil (IsFormula s); holds = p }

pub puts_no_terms : (P : List NTerm → Type 0) (s : Stored) → P [] → PutsTerms P s s []
puts_no_terms P s p = record { grows = grows_same s; are_terms = All-nil (IsTerm s); holds = p }

pub puts_push : (P R : List Node → Type 0) (Q : Node → Type 0) → ((ns : List Node) (n : Node) → P ns → Q n → R (ns ++ n ∷ [])) → (first old new : Stored) (parts : List ℕ) (at : ℕ) → PutsAll P first old parts → Puts Q old new at → PutsAll R first new (parts ++ at ∷ [])
puts_push P R Q step first old new parts at h p = record {
  grows = grows_twice first old new h.grows p.grows;
  formulas = All-push (IsFormula new) parts at (All-weaker (IsFormula old) (IsFormula new) (formula_kept old new p.grows) parts h.formulas) p.formula;
  holds = subst R (sym (map_push (node_at new) parts at ∙ ap (λ ns. ns ++ node_at new at ∷ []) (nodes_kept old new p.grows parts h.formulas))) (step (map (node_at old) parts) (node_at new at) h.holds p.holds);
}

pub puts_term_push : (P R : List NTerm → Type 0) (Q : NTerm → Type 0) → ((ts : List NTerm) (t : NTerm) → P ts → Q t → R (ts ++ t ∷ [])) → (first old new : Stored) (args : List ℕ) (at : ℕ) → PutsTerms P first old args → PutsTerm Q old new at → PutsTerms R first new (args ++ at ∷ [])
puts_term_push P R Q step first old new args at h p = record {
  grows = grows_twice first old new h.grows p.grows;
  are_terms = All-push (IsTerm new) args at (All-weaker (IsTerm old) (IsTerm new) (term_kept old new p.grows) args h.are_terms) p.is_term;
  holds = subst R (sym (map_push (term_at new) args at ∙ ap (λ ts. ts ++ term_at new at ∷ []) (terms_kept old new p.grows args h.are_terms))) (step (map (term_at old) args) (term_at new at) h.holds p.holds);
}
