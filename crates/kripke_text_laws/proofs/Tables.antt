-- The statement of a table tells the table.
use Rattle.std.proofs.Common.{◌≡◌, ℕ, true, false, List, [], ◌∷◌, ◌++◌, map, length, refl, sym, ap, ◌∙◌, arith}
use Rattle.std.proofs.lemmas.Grind.{flat_map-append}
use Rattle.tptp_lex.specs.declared.token.Kind.TheVariants as kind
use Rattle.nxf_tree.specs.declared.tree.IndexName.TheVariants as index
use Rattle.nxf_tree.specs.declared.tree.SortName.{SortName}
use Rattle.nxf_tree.specs.Rows.{Table, Rows, Values}
use Rattle.plain_tokens.specs.PlainTokens.{Plain}
use Rattle.plain_tokens.specs.Marks.{Mark, plains, mark_plains}
use Rattle.kripke_text_definitions.specs.KripkeText as text
use Rattle.kripke_text_definitions.specs.KripkeText.{Label, Access, Exists, Symbol, access_word, exists_word, world_word, true_word}
use Rattle.kripke_text_laws.specs.steps.Labels.{row_length, has_values}
use Rattle.kripke_text_laws.proofs.Apart.{heads, tails, row_apart, line_apart, literal_parts}
use Rattle.kripke_text_laws.proofs.Heads.{same_body}
use Rattle.kripke_text_laws.proofs.Fits.{HaveLength, Fits, AllFit}

abbrev pub true_plain : Plain
true_plain = record { kind = kind.Dollar; text = true_word }

-- no literal begins with `$true`
no_true_at : (name : List ℕ) (args : List SortName) (row : List ℕ) (ps qs : List Plain) → plains (text.application name args row) ++ ps ≡ true_plain ∷ qs → ⊥
no_true_at name args [] ps qs e = let k = ap (λ (p : Plain). p.kind) (heads _ _ _ _ e).0 in cc
no_true_at name args (x ∷ row) ps qs e = let k = ap (λ (p : Plain). p.kind) (heads _ _ _ _ e).0 in cc

pub no_true : (label : Label) (row : List ℕ) (v : ℕ) (ps qs : List Plain) → length row ≡ row_length label → plains (text.literal label row v) ++ ps ≡ true_plain ∷ qs → ⊥
unfolding access_word exists_word world_word true_word
no_true (Access index.Plain) row v ps qs h e = let k = ap (λ (p : Plain). p.text) (heads _ _ _ _ e).0 in cc
no_true (Access (index.Named a)) row v ps qs h e = let k = ap (λ (p : Plain). p.text) (heads _ _ _ _ e).0 in cc
no_true (Exists s) row v ps qs h e = let k = ap (λ (p : Plain). p.text) (heads _ _ _ _ e).0 in cc
no_true (Symbol name true args gives) [] v ps qs h e = absurd (omega arith)
no_true (Symbol name true args gives) (w ∷ row) v ps qs h e = let k = ap (λ (p : Plain). p.text) (heads _ _ _ _ e).0 in cc
no_true (Symbol name false args gives) row v ps qs h e =
    no_true_at name args row _ qs (sym (literal_parts (Symbol name false args gives) row v ps) ∙ e)

abbrev pub line_of : Label → List ℕ × ℕ → List Mark
line_of label r = text.literal label r.0 r.1

later_rows : (label : Label) (rows others : List (List ℕ)) → has_values label ≡ false → HaveLength (row_length label) rows → HaveLength (row_length label) others → plains (text.later text.and_sign (map (λ row. text.literal label row 0) rows)) ≡ plains (text.later text.and_sign (map (λ row. text.literal label row 0) others)) → rows ≡ others
later_rows label [] [] p h k e = refl
later_rows label [] (o ∷ others) p h k e = absurd cc
later_rows label (r ∷ rows) [] p h k e = absurd cc
later_rows label (r ∷ rows) (o ∷ others) p h k e =
    let mine = text.later text.and_sign (map (λ row. text.literal label row 0) rows) in
    let theirs = text.later text.and_sign (map (λ row. text.literal label row 0) others) in
    let inner = tails _ _ _ _ e in
    let t = row_apart label r o (plains mine) (plains theirs) p h.0 k.0 (sym (flat_map-append mark_plains (text.literal label r 0) mine) ∙ inner ∙ flat_map-append mark_plains (text.literal label o 0) theirs) in
    let a = t.0 in
    let b = later_rows label rows others p h.1 k.1 t.1 in
    cc

group_rows : (label : Label) (rows others : List (List ℕ)) → has_values label ≡ false → HaveLength (row_length label) rows → HaveLength (row_length label) others → plains (text.group (map (λ row. text.literal label row 0) rows)) ≡ plains (text.group (map (λ row. text.literal label row 0) others)) → rows ≡ others
group_rows label [] [] p h k e = refl
group_rows label [] (o ∷ others) p h k e =
    absurd (no_true label o 0 _ [] k.0 (sym (e ∙ flat_map-append mark_plains (text.literal label o 0) _)))
group_rows label (r ∷ rows) [] p h k e =
    absurd (no_true label r 0 _ [] h.0 (sym (flat_map-append mark_plains (text.literal label r 0) _) ∙ e))
group_rows label (r ∷ rows) (o ∷ others) p h k e =
    let mine = text.later text.and_sign (map (λ row. text.literal label row 0) rows) in
    let theirs = text.later text.and_sign (map (λ row. text.literal label row 0) others) in
    let t = row_apart label r o (plains mine) (plains theirs) p h.0 k.0 (sym (flat_map-append mark_plains (text.literal label r 0) mine) ∙ e ∙ flat_map-append mark_plains (text.literal label o 0) theirs) in
    let a = t.0 in
    let b = later_rows label rows others p h.1 k.1 t.1 in
    cc

abbrev first_of : List ℕ × ℕ → List ℕ
first_of r = r.0

same_line : (r o : List ℕ × ℕ) → r.0 ≡ o.0 → r.1 ≡ o.1 → r ≡ o
same_line r o a b = λ i. (a i, b i)

later_lines : (label : Label) (rows others : List (List ℕ × ℕ)) → has_values label ≡ true → HaveLength (row_length label) (map (λ row. row.0) rows) → HaveLength (row_length label) (map (λ row. row.0) others) → plains (text.later text.and_sign (map (λ r. text.literal label r.0 r.1) rows)) ≡ plains (text.later text.and_sign (map (λ r. text.literal label r.0 r.1) others)) → rows ≡ others
later_lines label [] [] p h k e = refl
later_lines label [] (o ∷ others) p h k e = absurd cc
later_lines label (r ∷ rows) [] p h k e = absurd cc
later_lines label (r ∷ rows) (o ∷ others) p h k e =
    let mine = text.later text.and_sign (map (λ (r : List ℕ × ℕ). text.literal label r.0 r.1) rows) in
    let theirs = text.later text.and_sign (map (λ (r : List ℕ × ℕ). text.literal label r.0 r.1) others) in
    let inner = tails _ _ _ _ e in
    let t = line_apart label r.0 o.0 r.1 o.1 (plains mine) (plains theirs) p h.0 k.0 (sym (flat_map-append mark_plains (text.literal label r.0 r.1) mine) ∙ inner ∙ flat_map-append mark_plains (text.literal label o.0 o.1) theirs) in
    let a = same_line r o t.0 t.1 in
    let b = later_lines label rows others p h.1 k.1 t.2 in
    cc

group_lines : (label : Label) (rows others : List (List ℕ × ℕ)) → has_values label ≡ true → HaveLength (row_length label) (map (λ row. row.0) rows) → HaveLength (row_length label) (map (λ row. row.0) others) → plains (text.group (map (λ r. text.literal label r.0 r.1) rows)) ≡ plains (text.group (map (λ r. text.literal label r.0 r.1) others)) → rows ≡ others
group_lines label [] [] p h k e = refl
group_lines label [] (o ∷ others) p h k e =
    absurd (no_true label o.0 o.1 _ [] k.0 (sym (e ∙ flat_map-append mark_plains (text.literal label o.0 o.1) _)))
group_lines label (r ∷ rows) [] p h k e =
    absurd (no_true label r.0 r.1 _ [] h.0 (sym (flat_map-append mark_plains (text.literal label r.0 r.1) _) ∙ e))
group_lines label (r ∷ rows) (o ∷ others) p h k e =
    let mine = text.later text.and_sign (map (λ (r : List ℕ × ℕ). text.literal label r.0 r.1) rows) in
    let theirs = text.later text.and_sign (map (λ (r : List ℕ × ℕ). text.literal label r.0 r.1) others) in
    let t = line_apart label r.0 o.0 r.1 o.1 (plains mine) (plains theirs) p h.0 k.0 (sym (flat_map-append mark_plains (text.literal label r.0 r.1) mine) ∙ e ∙ flat_map-append mark_plains (text.literal label o.0 o.1) theirs) in
    let a = same_line r o t.0 t.1 in
    let b = later_lines label rows others p h.1 k.1 t.2 in
    cc

group_same : (label : Label) (t u : Table) → Fits label t → Fits label u → plains (text.group (text.literals label t)) ≡ plains (text.group (text.literals label u)) → t ≡ u
group_same label (Rows rows) (Rows others) h k e = ap Rows (group_rows label rows others h.0 h.1 k.1 e)
group_same label (Rows rows) (Values others) h k e = let a = h.0 in let b = k.0 in absurd cc
group_same label (Values rows) (Rows others) h k e = let a = h.0 in let b = k.0 in absurd cc
group_same label (Values rows) (Values others) h k e = ap Values (group_lines label rows others h.0 h.1 k.1 e)

-- two tables that fit their label, and have equal statements, are equal
pub table_same : (label : Label) (t u : Table) → Fits label t → Fits label u → plains (text.table_statement label t) ≡ plains (text.table_statement label u) → t ≡ u
table_same label t u h k e = group_same label t u h k (same_body (text.label_name label) (text.group (text.literals label t)) (text.group (text.literals label u)) e)

pub tables_same : (labels : List Label) (tables others : List Table) → AllFit labels tables → AllFit labels others → map plains (text.table_statements labels tables) ≡ map plains (text.table_statements labels others) → tables ≡ others
tables_same [] [] [] h k e = refl
tables_same [] [] (u ∷ others) h k e = absurd k
tables_same [] (t ∷ tables) others h k e = absurd h
tables_same (l ∷ labels) [] others h k e = absurd h
tables_same (l ∷ labels) (t ∷ tables) [] h k e = absurd k
tables_same (l ∷ labels) (t ∷ tables) (u ∷ others) h k e =
    let a : plains (text.table_statement l t) ≡ plains (text.table_statement l u) = cc in
    let b : map plains (text.table_statements labels tables) ≡ map plains (text.table_statements labels others) = cc in
    let c = table_same l t u h.0 k.0 a in
    let d = tables_same labels tables others h.1 k.1 b in
    cc
