-- Reading the lines of a table: the literal that comes next is taken exactly where it is this row's.
use Rattle.std.proofs.Common.{◌≡◌, ℕ, zero, suc, ◌<◌, Bool, true, false, cond, List, [], ◌∷◌, ◌++◌, length, get_or, Option, None, Some, refl, sym, ap, ◌∙◌, arith}
use Rattle.std.specs.Prelude.{codes, nat_eq}
use Rattle.std.proofs.lemmas.List.{append_cancel_left}
use Rattle.tptp_lex.specs.declared.token.Kind.TheVariants as kind
use Rattle.nxf_tree.specs.declared.tree.IndexName.TheVariants as index
use Rattle.nxf_tree.specs.declared.tree.SortName.{SortName}
use Rattle.plain_tokens.specs.PlainTokens.{Plain}
use Rattle.plain_tokens.specs.Marks.{Mark, plains}
use Rattle.kripke_text_definitions.specs.KripkeText as text
use Rattle.kripke_text_definitions.specs.KripkeText.{Label, Access, Exists, Symbol}
use Rattle.kripke_text_laws.specs.steps.Labels.{row_length, has_values}
use Rattle.kripke_text_laws.proofs.Apart.{heads, row_apart, line_apart, literal_parts, plains_then}
use Rattle.kripke_text_laws.proofs.Tables.{no_true}
use Rattle.kripke_text_laws.proofs.Fits.{HaveLength}
use Rattle.kripke_text.specs.steps.Taking.{lead_marks, truth_marks, closing_marks}
use Rattle.kripke_text.specs.steps.Lines.{shown, line_marks, none_after, lines, none_of}
use Rattle.kripke_text.specs.steps.Reading.{Bounded, cell_of}
use Rattle.kripke_text.specs.steps.Reading.{TakesLine}
use Rattle.kripke_text.proofs.Matching.{same_some}

-- whether the label is of a table with such values
abbrev pub Suits : Label → Option ℕ → Type 0
Suits label None = has_values label ≡ false
Suits label (Some size) = has_values label ≡ true

-- ---- literals tell their rows and values

bounded_same : (label : Label) (values : Option ℕ) (row : List ℕ) (u v : ℕ) (ps qs : List Plain) → Suits label values → length row ≡ row_length label → Bounded values u → Bounded values v → plains (text.literal label row u) ++ ps ≡ plains (text.literal label row v) ++ qs → (u ≡ v) × (ps ≡ qs)
bounded_same label None row u v ps qs suits len a b e =
    let t = row_apart label row row ps qs suits len len (ap (λ (n : ℕ). plains (text.literal label row n) ++ ps) (sym a) ∙ e ∙ ap (λ (n : ℕ). plains (text.literal label row n) ++ qs) b) in
    (a ∙ sym b, t.1)
bounded_same label (Some size) row u v ps qs suits len a b e =
    let t = line_apart label row row u v ps qs suits len len e in
    (t.1, t.2)

-- a line is its literal behind what stands before it
line_parts : (label : Label) (none : Bool) (row : List ℕ) (v : ℕ) (ps : List Plain) → plains (line_marks label none row (Some v)) ++ ps ≡ plains (lead_marks none) ++ (plains (text.literal label row v) ++ ps)
line_parts label none row v ps = plains_then (lead_marks none) (text.literal label row v) ps

-- ---- what comes next where this row isn't printed

application_first : (name : List ℕ) (args : List SortName) (row : List ℕ) (s : List ℕ) (ps qs : List Plain) → plains (text.application name args row) ++ ps ≡ record { kind = kind.Punct; text = s } ∷ qs → ⊥
application_first name args [] s ps qs e = let k = ap (λ (p : Plain). p.kind) (heads _ _ _ _ e).0 in cc
application_first name args (x ∷ row) s ps qs e = let k = ap (λ (p : Plain). p.kind) (heads _ _ _ _ e).0 in cc

-- a literal doesn't begin with punctuation
no_punct : (label : Label) (row : List ℕ) (v : ℕ) (s : List ℕ) (ps qs : List Plain) → length row ≡ row_length label → plains (text.literal label row v) ++ ps ≡ record { kind = kind.Punct; text = s } ∷ qs → ⊥
no_punct (Access index.Plain) row v s ps qs h e = let k = ap (λ (p : Plain). p.kind) (heads _ _ _ _ e).0 in cc
no_punct (Access (index.Named a)) row v s ps qs h e = let k = ap (λ (p : Plain). p.kind) (heads _ _ _ _ e).0 in cc
no_punct (Exists sort) row v s ps qs h e = let k = ap (λ (p : Plain). p.kind) (heads _ _ _ _ e).0 in cc
no_punct (Symbol name true args gives) [] v s ps qs h e = absurd (omega arith)
no_punct (Symbol name true args gives) (w ∷ row) v s ps qs h e = let k = ap (λ (p : Plain). p.kind) (heads _ _ _ _ e).0 in cc
no_punct (Symbol name false args gives) row v s ps qs h e = application_first name args row s _ qs (sym (literal_parts (Symbol name false args gives) row v ps) ∙ e)

paren_and : codes ")" ≡ codes "&" → ⊥
paren_and e = let k = ap (λ (t : List ℕ). get_or t 0 0) e in absurd (omega (arith, k))

-- what stands behind the lines of a table
abbrev pub end_of : Bool → List Plain
end_of none = plains (truth_marks none) ++ plains closing_marks

ends_no_line : (label : Label) (none : Bool) (row : List ℕ) (v : ℕ) (rest : List Plain) → length row ≡ row_length label → end_of none ≡ plains (line_marks label none row (Some v)) ++ rest → ⊥
ends_no_line label true row v rest h e = no_true label row v rest (plains closing_marks) h (sym (e ∙ line_parts label true row v rest))
ends_no_line label false row v rest h e = paren_and (ap (λ (p : Plain). p.text) (heads _ _ _ _ (e ∙ line_parts label false row v rest)).0)

-- the row stands nowhere in the list
abbrev pub NotIn : List ℕ → List (List ℕ) → Type 0
NotIn row [] = Unit {0}
NotIn row (r ∷ rows) = (row ≡ r → ⊥) × NotIn row rows

-- no row stands twice
abbrev pub AllApart : List (List ℕ) → Type 0
AllApart [] = Unit {0}
AllApart (row ∷ rows) = NotIn row rows × AllApart rows

lines_then : (label : Label) (ms ns : List Mark) (ps : List Plain) → plains (ms ++ ns) ++ ps ≡ plains ms ++ (plains ns ++ ps)
lines_then label ms ns ps = plains_then ms ns ps

-- where a predicate's other rows come next, this one doesn't
no_line_by : (label : Label) (row r : List ℕ) (rows : List (List ℕ)) (cells : List ℕ) (none b : Bool) (rest : List Plain) → has_values label ≡ false → length row ≡ row_length label → length r ≡ row_length label → (row ≡ r → ⊥)
    → ((n : Bool) (more : List Plain) → plains (lines label None n rows cells) ++ end_of (none_of None n rows cells) ≡ plains (line_marks label n row (Some 0)) ++ more → ⊥)
    → plains (line_marks label none r (cond b (Some 0) None) ++ lines label None (none_after none (cond b (Some 0) None)) rows cells) ++ end_of (none_of None (none_after none (cond b (Some 0) None)) rows cells) ≡ plains (line_marks label none row (Some 0)) ++ rest → ⊥
no_line_by label row r rows cells none true rest p h k out ih e =
    let behind = plains (lines label None false rows cells) ++ end_of (none_of None false rows cells) in
    let both = append_cancel_left (plains (lead_marks none)) _ _
    (sym (line_parts label none r 0 behind) ∙ sym (plains_then (line_marks label none r (Some 0)) (lines label None false rows cells) (end_of (none_of None false rows cells))) ∙ e ∙ line_parts label none row 0 rest) in
    out (sym (row_apart label r row behind rest p k h both).0)
no_line_by label row r rows cells none false rest p h k out ih e = ih none rest e

no_line : (label : Label) (row : List ℕ) (rows : List (List ℕ)) (cells : List ℕ) (none : Bool) (rest : List Plain) → has_values label ≡ false → length row ≡ row_length label → HaveLength (row_length label) rows → NotIn row rows → length cells ≡ length rows → plains (lines label None none rows cells) ++ end_of (none_of None none rows cells) ≡ plains (line_marks label none row (Some 0)) ++ rest → ⊥
no_line label row [] cells none rest p h k out len e = ends_no_line label none row 0 rest h e
no_line label row (r ∷ rows) [] none rest p h k out len e = absurd (omega arith)
no_line label row (r ∷ rows) (c ∷ cells) none rest p h k out len e =
    no_line_by label row r rows cells none (nat_eq c 1) rest p h k.0 out.0 (λ n more f. no_line label row rows cells n more p h k.1 out.1 (omega arith) f) e

-- ---- one row

-- the tokens are the lines from here on, and the end of the statement
abbrev pub body_from : Label → Option ℕ → Bool → List (List ℕ) → List ℕ → List Plain
body_from label values none rows cells = plains (lines label values none rows cells) ++ end_of (none_of values none rows cells)

body_first : (label : Label) (values : Option ℕ) (none : Bool) (row : List ℕ) (rows : List (List ℕ)) (c : ℕ) (cells : List ℕ) → body_from label values none (row ∷ rows) (c ∷ cells) ≡ plains (line_marks label none row (shown values c)) ++ body_from label values (none_after none (shown values c)) rows cells
body_first label values none row rows c cells =
    plains_then (line_marks label none row (shown values c)) (lines label values (none_after none (shown values c)) rows cells) (end_of (none_of values (none_after none (shown values c)) rows cells))

-- what is found is what the cell says
pub record Found (label : Label) (values : Option ℕ) (none : Bool) (rows : List (List ℕ)) (c : ℕ) (cells : List ℕ) (found : Option ℕ) (new : Option (List Plain)) : Type 0 where
  pub is : found ≡ shown values c
  pub left : new ≡ Some (body_from label values (none_after none found) rows cells)

found_value : (label : Label) (values : Option ℕ) (none : Bool) (row : List ℕ) (rows : List (List ℕ)) (c v : ℕ) (cells : List ℕ) (old new : Option (List Plain)) (found : Option ℕ) → Suits label values → length row ≡ row_length label → Bounded values v → shown values c ≡ Some v → old ≡ Some (plains (line_marks label none row (Some v)) ++ body_from label values false rows cells) → TakesLine label values none row old new found → Found label values none rows c cells found new
found_value label values none row rows c v cells old new None suits len small is e takes = absurd (takes.1 v (body_from label values false rows cells) small e)
found_value label values none row rows c v cells old new (Some u) suits len small is e takes =
    let both = append_cancel_left (plains (lead_marks none)) _ _
    (sym (line_parts label none row u takes.0) ∙ same_some _ _ (sym takes.2 ∙ e) ∙ line_parts label none row v (body_from label values false rows cells)) in
    let t = bounded_same label values row u v takes.0 (body_from label values false rows cells) suits len takes.1 small both in
    record { is = ap Some t.0 ∙ sym is; left = takes.3 ∙ ap Some t.1 }

found_none : (label : Label) (none : Bool) (row : List ℕ) (rows : List (List ℕ)) (c : ℕ) (cells : List ℕ) (old new : Option (List Plain)) (found : Option ℕ) → has_values label ≡ false → length row ≡ row_length label → HaveLength (row_length label) rows → NotIn row rows → length cells ≡ length rows → shown None c ≡ None → old ≡ Some (body_from label None none rows cells) → TakesLine label None none row old new found → Found label None none rows c cells found new
found_none label none row rows c cells old new None suits len long out count is e takes = record { is = sym is; left = takes.0 ∙ e }
found_none label none row rows c cells old new (Some u) suits len long out count is e takes =
    let here = same_some _ _ (sym e ∙ takes.2) ∙ ap (λ (n : ℕ). plains (line_marks label none row (Some n)) ++ takes.0) takes.1 in
    absurd (no_line label row rows cells none takes.0 suits len long out count here)

-- a number that a cell may hold
abbrev pub IsCell : Option ℕ → ℕ → Type 0
IsCell None c = c < 2
IsCell (Some size) c = c < size

found_by : (label : Label) (values : Option ℕ) (none : Bool) (row : List ℕ) (rows : List (List ℕ)) (c : ℕ) (cells : List ℕ) (old new : Option (List Plain)) (found : Option ℕ) (b : Bool) → nat_eq c 1 ≡ b → Suits label values → length row ≡ row_length label → HaveLength (row_length label) rows → NotIn row rows → length cells ≡ length rows → IsCell values c → old ≡ Some (body_from label values none (row ∷ rows) (c ∷ cells)) → TakesLine label values none row old new found → Found label values none rows c cells found new
found_by label (Some size) none row rows c cells old new found b eq suits len long out count cell e takes =
    found_value label (Some size) none row rows c c cells old new found suits len cell refl (e ∙ ap Some (body_first label (Some size) none row rows c cells)) takes
found_by label None none row rows c cells old new found true eq suits len long out count cell e takes =
    let is : shown None c ≡ Some 0 = ap (λ (b : Bool). cond b (Some 0) None) eq in
    found_value label None none row rows c 0 cells old new found suits len refl is (e ∙ ap Some (body_first label None none row rows c cells ∙ ap (λ (o : Option ℕ). plains (line_marks label none row o) ++ body_from label None (none_after none o) rows cells) is)) takes
found_by label None none row rows c cells old new found false eq suits len long out count cell e takes =
    let is : shown None c ≡ None = ap (λ (b : Bool). cond b (Some 0) None) eq in
    found_none label none row rows c cells old new found suits len long out count is (e ∙ ap Some (body_first label None none row rows c cells ∙ ap (λ (o : Option ℕ). plains (line_marks label none row o) ++ body_from label None (none_after none o) rows cells) is)) takes

pub found_is : (label : Label) (values : Option ℕ) (none : Bool) (row : List ℕ) (rows : List (List ℕ)) (c : ℕ) (cells : List ℕ) (old new : Option (List Plain)) (found : Option ℕ) → Suits label values → length row ≡ row_length label → HaveLength (row_length label) rows → NotIn row rows → length cells ≡ length rows → IsCell values c → old ≡ Some (body_from label values none (row ∷ rows) (c ∷ cells)) → TakesLine label values none row old new found → Found label values none rows c cells found new
found_is label values none row rows c cells old new found = found_by label values none row rows c cells old new found (nat_eq c 1) refl

-- the cell that is written is the one that is meant
small_cell : (c : ℕ) (b : Bool) → nat_eq c 1 ≡ b → c < 2 → cell_of None (cond b (Some 0) None) ≡ c
small_cell zero true e h = absurd cc
small_cell (suc zero) true e h = refl
small_cell (suc (suc c)) b e h = absurd (omega arith)
small_cell zero false e h = refl
small_cell (suc zero) false e h = absurd cc

pub cell_back : (values : Option ℕ) (c : ℕ) → IsCell values c → cell_of values (shown values c) ≡ c
cell_back None c h = small_cell c (nat_eq c 1) refl h
cell_back (Some size) c h = refl

pub shown_back : (values : Option ℕ) (found : Option ℕ) (v : ℕ) → found ≡ Some v → Bounded values v → shown values (cell_of values found) ≡ found
shown_back None None v e h = refl
shown_back None (Some u) v e h = let zero_is : u ≡ 0 = same_some u v e ∙ h in ap Some (sym zero_is)
shown_back (Some size) None v e h = absurd cc
shown_back (Some size) (Some u) v e h = refl
