-- Literals of one table tell their rows and values, whatever follows them.
use Rattle.std.proofs.Common.{◌≡◌, ℕ, suc, true, false, List, [], ◌∷◌, ◌++◌, length, None, Some, refl, sym, ap, ◌∙◌, append_assoc, arith}
use Rattle.std.specs.Prelude.{codes}
use Rattle.std.proofs.lemmas.List.{append_cancel_left}
use Rattle.std.proofs.lemmas.Grind.{flat_map-append}
use Rattle.nxf_tree.specs.declared.tree.IndexName.TheVariants as index
use Rattle.nxf_tree.specs.declared.tree.SortName.{SortName}
use Rattle.nxf_tree.specs.Names.{numeral}
use Rattle.name_laws.proofs.Spelling.{numeral-injective}
use Rattle.plain_tokens.specs.PlainTokens.{Plain}
use Rattle.plain_tokens.specs.Marks.{Mark, Sign, Object, plains, mark_plains}
use Rattle.kripke_text_definitions.specs.KripkeText as text
use Rattle.kripke_text_definitions.specs.KripkeText.{Label, Access, Exists, Symbol}
use Rattle.kripke_text_laws.specs.steps.Labels.{row_length, has_values}

pub heads : (p q : Plain) (ps qs : List Plain) → p ∷ ps ≡ q ∷ qs → (p ≡ q) × (ps ≡ qs)
heads p q ps qs e = (cc, cc)

pub tails : (p q : Plain) (ps qs : List Plain) → p ∷ ps ≡ q ∷ qs → ps ≡ qs
tails p q ps qs e = cc

-- numbered objects with the same front
pub object_apart : (front : List ℕ) (m n : ℕ) (ps qs : List Plain) → plains (Object (front ++ numeral m) ∷ []) ++ ps ≡ plains (Object (front ++ numeral n) ∷ []) ++ qs → (m ≡ n) × (ps ≡ qs)
object_apart front m n ps qs e =
    let t = heads _ _ ps qs e in
    (numeral-injective m n (append_cancel_left front (numeral m) (numeral n) (ap (λ (p : Plain). p.text) t.0)), t.1)

more_apart : (args : List SortName) (row other : List ℕ) (ps qs : List Plain) → length row ≡ length args → length other ≡ length args → plains (text.more_elements args row) ++ ps ≡ plains (text.more_elements args other) ++ qs → (row ≡ other) × (ps ≡ qs)
more_apart [] [] [] ps qs h k e = (refl, e)
more_apart [] [] (y ∷ other) ps qs h k e = absurd (omega arith)
more_apart [] (x ∷ row) other ps qs h k e = absurd (omega arith)
more_apart (s ∷ args) [] other ps qs h k e = absurd (omega arith)
more_apart (s ∷ args) (x ∷ row) [] ps qs h k e = absurd (omega arith)
more_apart (s ∷ args) (x ∷ row) (y ∷ other) ps qs h k e =
    let t = object_apart (text.prefix s) x y (plains (text.more_elements args row) ++ ps) (plains (text.more_elements args other) ++ qs) (tails _ _ _ _ e) in
    let u = more_apart args row other ps qs (omega arith) (omega arith) t.1 in
    let a = t.0 in
    let b = u.0 in
    (cc, u.1)

elements_apart : (args : List SortName) (row other : List ℕ) (ps qs : List Plain) → length row ≡ length args → length other ≡ length args → plains (text.elements args row) ++ ps ≡ plains (text.elements args other) ++ qs → (row ≡ other) × (ps ≡ qs)
elements_apart [] [] [] ps qs h k e = (refl, e)
elements_apart [] [] (y ∷ other) ps qs h k e = absurd (omega arith)
elements_apart [] (x ∷ row) other ps qs h k e = absurd (omega arith)
elements_apart (s ∷ args) [] other ps qs h k e = absurd (omega arith)
elements_apart (s ∷ args) (x ∷ row) [] ps qs h k e = absurd (omega arith)
elements_apart (s ∷ args) (x ∷ row) (y ∷ other) ps qs h k e =
    let t = object_apart (text.prefix s) x y (plains (text.more_elements args row) ++ ps) (plains (text.more_elements args other) ++ qs) e in
    let u = more_apart args row other ps qs (omega arith) (omega arith) t.1 in
    let a = t.0 in
    let b = u.0 in
    (cc, u.1)

-- the plains of joined marks before others
pub plains_then : (ms ns : List Mark) (ps : List Plain) → plains (ms ++ ns) ++ ps ≡ plains ms ++ (plains ns ++ ps)
plains_then ms ns ps = ap (λ (r : List Plain). r ++ ps) (flat_map-append mark_plains ms ns) ∙ append_assoc (plains ms) (plains ns) ps

application_apart : (name : List ℕ) (args : List SortName) (row other : List ℕ) (ps qs : List Plain) → length row ≡ length args → length other ≡ length args → plains (text.application name args row) ++ ps ≡ plains (text.application name args other) ++ qs → (row ≡ other) × (ps ≡ qs)
application_apart name args [] [] ps qs h k e = (refl, tails _ _ _ _ e)
application_apart name args [] (y ∷ other) ps qs h k e = absurd (omega arith)
application_apart name args (x ∷ row) [] ps qs h k e = absurd (omega arith)
application_apart name args (x ∷ row) (y ∷ other) ps qs h k e =
    let close : List Mark = Sign (codes ")") ∷ [] in
    let inner = tails _ _ _ _ (tails _ _ _ _ e) in
    let split = sym (plains_then (text.elements args (x ∷ row)) close ps) ∙ inner ∙ plains_then (text.elements args (y ∷ other)) close qs in
    let t = elements_apart args (x ∷ row) (y ∷ other) (plains close ++ ps) (plains close ++ qs) h k split in
    (t.0, tails _ _ _ _ t.1)

application_at_apart : (name : List ℕ) (args : List SortName) (row other : List ℕ) (ps qs : List Plain) → length row ≡ suc (length args) → length other ≡ suc (length args) → plains (text.application_at name args row) ++ ps ≡ plains (text.application_at name args other) ++ qs → (row ≡ other) × (ps ≡ qs)
application_at_apart name args [] other ps qs h k e = absurd (omega arith)
application_at_apart name args (w ∷ row) [] ps qs h k e = absurd (omega arith)
application_at_apart name args (w ∷ row) (v ∷ other) ps qs h k e =
    let t = object_apart (codes "w") w v _ _ (tails _ _ _ _ (tails _ _ _ _ e)) in
    let u = application_apart name args row other ps qs (omega arith) (omega arith) (tails _ _ _ _ t.1) in
    let a = t.0 in
    let b = u.0 in
    (cc, u.1)

pair_apart : (first second : List ℕ) (row other : List ℕ) (ps qs : List Plain) → length row ≡ 2 → length other ≡ 2 → plains (text.pair (λ n. Object (second ++ numeral n)) row) ++ ps ≡ plains (text.pair (λ n. Object (second ++ numeral n)) other) ++ qs → (row ≡ other) × (ps ≡ qs)
pair_apart first second [] other ps qs h k e = absurd (omega arith)
pair_apart first second (w ∷ []) other ps qs h k e = absurd (omega arith)
pair_apart first second (w ∷ x ∷ z ∷ row) other ps qs h k e = absurd (omega arith)
pair_apart first second (w ∷ x ∷ []) [] ps qs h k e = absurd (omega arith)
pair_apart first second (w ∷ x ∷ []) (v ∷ []) ps qs h k e = absurd (omega arith)
pair_apart first second (w ∷ x ∷ []) (v ∷ y ∷ z ∷ other) ps qs h k e = absurd (omega arith)
pair_apart first second (w ∷ x ∷ []) (v ∷ y ∷ []) ps qs h k e =
    let t = object_apart (codes "w") w v _ _ e in
    let u = object_apart second x y ps qs (tails _ _ _ _ t.1) in
    let a = t.0 in
    let b = u.0 in
    (cc, u.1)

pub front_apart : (label : Label) (row other : List ℕ) (ps qs : List Plain) → length row ≡ row_length label → length other ≡ row_length label → plains (text.front label row) ++ ps ≡ plains (text.front label other) ++ qs → (row ≡ other) × (ps ≡ qs)
front_apart (Access index.Plain) row other ps qs h k e = pair_apart (codes "w") (codes "w") row other ps qs h k (tails _ _ _ _ (tails _ _ _ _ e))
front_apart (Access (index.Named a)) row other ps qs h k e = pair_apart (codes "w") (codes "w") row other ps qs h k (tails _ _ _ _ (tails _ _ _ _ (tails _ _ _ _ (tails _ _ _ _ (tails _ _ _ _ e)))))
front_apart (Exists s) row other ps qs h k e = pair_apart (codes "w") (text.prefix s) row other ps qs h k (tails _ _ _ _ (tails _ _ _ _ e))
front_apart (Symbol name true args gives) row other ps qs h k e = application_at_apart name args row other ps qs h k e
front_apart (Symbol name false args gives) row other ps qs h k e = application_apart name args row other ps qs h k e

pub value_apart : (label : Label) (u v : ℕ) (ps qs : List Plain) → has_values label ≡ true → plains (text.label_value label u) ++ ps ≡ plains (text.label_value label v) ++ qs → (u ≡ v) × (ps ≡ qs)
value_apart (Access i) u v ps qs h e = absurd cc
value_apart (Exists s) u v ps qs h e = absurd cc
value_apart (Symbol name with_world args None) u v ps qs h e = absurd cc
value_apart (Symbol name with_world args (Some s)) u v ps qs h e = object_apart (text.prefix s) u v ps qs (tails _ _ _ _ e)

no_value : (label : Label) (u : ℕ) → has_values label ≡ false → plains (text.label_value label u) ≡ []
no_value (Access i) u h = refl
no_value (Exists s) u h = refl
no_value (Symbol name with_world args None) u h = refl
no_value (Symbol name with_world args (Some s)) u h = absurd cc

pub literal_parts : (label : Label) (row : List ℕ) (v : ℕ) (ps : List Plain) → plains (text.literal label row v) ++ ps ≡ plains (text.front label row) ++ (plains (text.label_value label v) ++ (plains (text.back label) ++ ps))
literal_parts label row v ps =
    plains_then (text.front label row) (text.label_value label v ++ text.back label) ps
    ∙ ap (λ (r : List Plain). plains (text.front label row) ++ r) (plains_then (text.label_value label v) (text.back label) ps)

-- a predicate's literals
pub row_apart : (label : Label) (row other : List ℕ) (ps qs : List Plain) → has_values label ≡ false → length row ≡ row_length label → length other ≡ row_length label → plains (text.literal label row 0) ++ ps ≡ plains (text.literal label other 0) ++ qs → (row ≡ other) × (ps ≡ qs)
row_apart label row other ps qs p h k e =
    let t = front_apart label row other _ _ h k (sym (literal_parts label row 0 ps) ∙ e ∙ literal_parts label other 0 qs) in
    let u = append_cancel_left (plains (text.label_value label 0)) _ _ t.1 in
    (t.0, append_cancel_left (plains (text.back label)) ps qs u)

-- a function's literals
pub line_apart : (label : Label) (row other : List ℕ) (u v : ℕ) (ps qs : List Plain) → has_values label ≡ true → length row ≡ row_length label → length other ≡ row_length label → plains (text.literal label row u) ++ ps ≡ plains (text.literal label other v) ++ qs → (row ≡ other) × (u ≡ v) × (ps ≡ qs)
line_apart label row other u v ps qs p h k e =
    let t = front_apart label row other _ _ h k (sym (literal_parts label row u ps) ∙ e ∙ literal_parts label other v qs) in
    let w = value_apart label u v _ _ p t.1 in
    (t.0, w.0, append_cancel_left (plains (text.back label)) ps qs w.1)
