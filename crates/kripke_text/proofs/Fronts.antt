-- Fronts of literals.
use Rattle.std.proofs.Common.{◌≡◌, ℕ, zero, suc, ◌<◌, Bool, true, false, cond, List, [], ◌∷◌, ◌++◌, length, get_or, Option, sym, ap, ◌∙◌, arith}
use Rattle.std.proofs.lemmas.Bool.{and_parts}
use Rattle.std.specs.List.{fold, list_all}
use Rattle.nxf_tree.specs.declared.tree.SortName.{SortName}
use Rattle.nxf_tree.specs.declared.tree.Signature.{Signature}
use Rattle.nxf_tree.specs.declared.tree.SymbolEntry.{SymbolEntry}
use Rattle.nxf_tree.specs.WellFormed.{has_sorts_in_range}
use Rattle.plain_tokens.specs.Marks.{Mark}
use Rattle.kripke_text_definitions.specs.KripkeText as text
use Rattle.kripke_text_laws.specs.steps.Labels.{row_length}
use Rattle.kripke_text.specs.steps.Taking.{place_marks}
use Rattle.kripke_text.proofs.Folds.{fold_more}

-- a symbol's front, with or without a world
pub symbol_front : (name : List ℕ) (b : Bool) (sorts : List SortName) (gives : Option SortName) (row args : List ℕ) (w : ℕ) → row ≡ cond b (w ∷ args) args → text.front (text.Symbol name b sorts gives) row ≡ place_marks b w ++ text.application name sorts args
symbol_front name true sorts gives row args w e = ap (text.application_at name sorts) e
symbol_front name false sorts gives row args w e = ap (text.application name sorts) e

-- how long the arguments are
pub symbol_length : (name : List ℕ) (b : Bool) (sorts : List SortName) (gives : Option SortName) (row args : List ℕ) (w : ℕ) → row ≡ cond b (w ∷ args) args → length row ≡ row_length (text.Symbol name b sorts gives) → length args ≡ length sorts
symbol_length name true sorts gives row args w e h = let l = ap length e in omega (arith, l, h)
symbol_length name false sorts gives row args w e h = sym (ap length e) ∙ h

pub world_there : (name : List ℕ) (b : Bool) (sorts : List SortName) (gives : Option SortName) (row : List ℕ) → length row ≡ row_length (text.Symbol name b sorts gives) → b ≡ true → 0 < length row
world_there name true sorts gives row h e = omega (arith, h)
world_there name false sorts gives row h e = absurd cc

pub front_put : {S : Type 0} → (takes : S → Mark → S) → (s t u : S) → (name : List ℕ) (b : Bool) (sorts : List SortName) (gives : Option SortName) (row args : List ℕ) (w : ℕ) → row ≡ cond b (w ∷ args) args → t ≡ fold takes s (place_marks b w) → u ≡ fold takes t (text.application name sorts args) → u ≡ fold takes s (text.front (text.Symbol name b sorts gives) row)
front_put takes s t u name b sorts gives row args w e p q =
    q
    ∙ ap (λ (v : _). fold takes v (text.application name sorts args)) p
    ∙ sym (fold_more takes s (place_marks b w) (text.application name sorts args))
    ∙ ap (fold takes s) (sym (symbol_front name b sorts gives row args w e))

-- a symbol of a well-formed signature has its sorts in range
pub symbol_in : (sig : Signature) (entries : List SymbolEntry) (y : ℕ) (d : SymbolEntry) → y < length entries → list_all (has_sorts_in_range sig) entries ≡ true → has_sorts_in_range sig (get_or entries y d) ≡ true
symbol_in sig [] y d h e = absurd (omega arith)
symbol_in sig (x ∷ entries) zero d h e = (and_parts (has_sorts_in_range sig x) (list_all (has_sorts_in_range sig) entries) e).0
symbol_in sig (x ∷ entries) (suc y) d h e = symbol_in sig entries y d (omega arith) (and_parts (has_sorts_in_range sig x) (list_all (has_sorts_in_range sig) entries) e).1
