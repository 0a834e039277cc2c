-- In the text of a structure each statement ends at its only full stop.
use Rattle.std.proofs.Common.{◌≡◌, ℕ, Bool, true, false, List, [], ◌∷◌, ◌++◌, map, None, Some, refl, ap, ◌∙◌}
use Rattle.std.specs.Prelude.{not, codes}
use Rattle.std.specs.List.{list_all}
use Rattle.std.proofs.lemmas.Bool.{and_parts, and_from}
use Rattle.std.proofs.lemmas.List.Folds.{list_all-append}
use Rattle.std.proofs.lemmas.Grind.{flat_map-append}
use Rattle.nxf_tree.specs.declared.tree.Signature.{Signature}
use Rattle.nxf_tree.specs.declared.tree.IndexName.{IndexName}
use Rattle.nxf_tree.specs.declared.tree.IndexName.TheVariants as index
use Rattle.nxf_tree.specs.declared.tree.SortName.{SortName}
use Rattle.nxf_tree.specs.declared.tree.SortName.TheVariants as sort
use Rattle.nxf_tree.specs.Names.{same_text}
use Rattle.nxf_tree.specs.Rows.{Table, Rows, Values, numbers_below}
use Rattle.plain_tokens.specs.PlainTokens.{Plain}
use Rattle.kripke_text_definitions.specs.TokenStatements.{is_stop}
use Rattle.plain_tokens.specs.Marks.{Mark, Sign, Dollar, Variable, Name, Object, Blank, Line, plains, mark_plains}
use Rattle.kripke_text_definitions.specs.KripkeText as text
use Rattle.kripke_text_definitions.specs.KripkeText.{Label, Access, Exists, Symbol}
use Rattle.kripke_text_laws.proofs.Splits.{ends_at_stop, ends_after}

-- whether the mark is no full stop
abbrev pub no_stop : Mark → Bool
no_stop (Sign spelling) = not (same_text spelling (codes "."))
no_stop (Dollar spelling) = true
no_stop (Variable spelling) = true
no_stop (Name text) = true
no_stop (Object text) = true
no_stop Blank = true
no_stop Line = true

abbrev pub no_stops : List Mark → Bool
no_stops = list_all no_stop

one_no_stop : (m : Mark) (ms : List Mark) → no_stop m ≡ true → list_all (λ p. not (is_stop p)) (plains ms) ≡ true → list_all (λ p. not (is_stop p)) (plains (m ∷ ms)) ≡ true
one_no_stop (Sign spelling) ms h k = and_from (not (same_text spelling (codes "."))) _ h k
one_no_stop (Dollar spelling) ms h k = k
one_no_stop (Variable spelling) ms h k = k
one_no_stop (Name text) ms h k = k
one_no_stop (Object text) ms h k = k
one_no_stop Blank ms h k = k
one_no_stop Line ms h k = k

pub plains_no_stop : (ms : List Mark) → no_stops ms ≡ true → list_all (λ p. not (is_stop p)) (plains ms) ≡ true
plains_no_stop [] h = refl
plains_no_stop (m ∷ ms) h =
    let t = and_parts (no_stop m) (no_stops ms) h in
    one_no_stop m ms t.0 (plains_no_stop ms t.1)

pub both_no_stops : (xs ys : List Mark) → no_stops xs ≡ true → no_stops ys ≡ true → no_stops (xs ++ ys) ≡ true
both_no_stops xs ys h k = list_all-append no_stop xs ys ∙ and_from (no_stops xs) (no_stops ys) h k

-- a statement ends at its full stop, where its body has none
pub statement_ends : (name : List ℕ) (body : List Mark) → no_stops body ≡ true → ends_at_stop (plains (text.statement name body)) ≡ true
statement_ends name body h =
    let tail : List Mark = Sign (codes ")") ∷ Sign (codes ".") ∷ Line ∷ [] in
    let e : plains (body ++ tail) ≡ plains body ++ plains tail = flat_map-append mark_plains body tail in
    ap ends_at_stop (ap (λ (r : List Plain). plains (Name (codes "tff") ∷ Sign (codes "(") ∷ Name name ∷ Sign (codes ",") ∷ Name text.interpretation_word ∷ Sign (codes ",") ∷ []) ++ r) e)
    ∙ ends_after (plains body) (plains tail) (plains_no_stop body h) refl

-- ---- bodies

parts_no_stop : List (List Mark) → Bool
parts_no_stop = list_all no_stops

pub later_no_stops : (separator : List Mark) (parts : List (List Mark)) → no_stops separator ≡ true → list_all no_stops parts ≡ true → no_stops (text.later separator parts) ≡ true
later_no_stops separator [] h k = refl
later_no_stops separator (part ∷ parts) h k =
    let t = and_parts (no_stops part) (list_all no_stops parts) k in
    both_no_stops separator (part ++ text.later separator parts) h (both_no_stops part (text.later separator parts) t.0 (later_no_stops separator parts h t.1))

pub between_no_stops : (separator : List Mark) (parts : List (List Mark)) → no_stops separator ≡ true → list_all no_stops parts ≡ true → no_stops (text.between separator parts) ≡ true
between_no_stops separator [] h k = refl
between_no_stops separator (part ∷ parts) h k =
    let t = and_parts (no_stops part) (list_all no_stops parts) k in
    both_no_stops part (text.later separator parts) t.0 (later_no_stops separator parts h t.1)

members_no_stop : (variable : List ℕ) (object : ℕ → Mark) (ns : List ℕ) → ((n : ℕ) → no_stop (object n) ≡ true) → list_all no_stops (map (text.member variable object) ns) ≡ true
members_no_stop variable object [] h = refl
members_no_stop variable object (n ∷ ns) h = rw (h n) (members_no_stop variable object ns h)

all_of_no_stop : (variable : List ℕ) (sort : Mark) (object : ℕ → Mark) (n : ℕ) → no_stop sort ≡ true → ((n : ℕ) → no_stop (object n) ≡ true) → no_stops (text.all_of variable sort object n) ≡ true
all_of_no_stop variable sort object n s h =
    let parts = between_no_stops text.or_sign (map (text.member variable object) (numbers_below n)) refl (members_no_stop variable object (numbers_below n) h) in
    rw s (both_no_stops (text.between text.or_sign (map (text.member variable object) (numbers_below n))) (Blank ∷ Sign (codes ")") ∷ []) parts refl)

sort_no_stop : (s : SortName) → no_stop (text.sort_mark s) ≡ true
sort_no_stop sort.Individual = refl
sort_no_stop (sort.User s) = refl

more_no_stop : (args : List SortName) (row : List ℕ) → no_stops (text.more_elements args row) ≡ true
more_no_stop [] row = refl
more_no_stop (s ∷ ss) [] = refl
more_no_stop (s ∷ ss) (x ∷ row) = more_no_stop ss row

elements_no_stop : (args : List SortName) (row : List ℕ) → no_stops (text.elements args row) ≡ true
elements_no_stop [] row = refl
elements_no_stop (s ∷ ss) [] = refl
elements_no_stop (s ∷ ss) (x ∷ row) = more_no_stop ss row

application_no_stop : (name : List ℕ) (args : List SortName) (row : List ℕ) → no_stops (text.application name args row) ≡ true
application_no_stop name args [] = refl
application_no_stop name args (x ∷ row) = both_no_stops (text.elements args (x ∷ row)) (Sign (codes ")") ∷ []) (elements_no_stop args (x ∷ row)) refl

pair_no_stop : (second : ℕ → Mark) (row : List ℕ) → ((n : ℕ) → no_stop (second n) ≡ true) → no_stops (text.pair second row) ≡ true
pair_no_stop second [] h = refl
pair_no_stop second (w ∷ []) h = refl
pair_no_stop second (w ∷ x ∷ row) h = rw (h x) refl

access_no_stop : (i : IndexName) → no_stops (text.access_front i) ≡ true
access_no_stop index.Plain = refl
access_no_stop (index.Named a) = refl

application_at_no_stop : (name : List ℕ) (args : List SortName) (row : List ℕ) → no_stops (text.application_at name args row) ≡ true
application_at_no_stop name args [] = refl
application_at_no_stop name args (w ∷ row) = application_no_stop name args row

front_no_stop : (label : Label) (row : List ℕ) → no_stops (text.front label row) ≡ true
front_no_stop (Access i) row = both_no_stops (text.access_front i) (text.pair text.world row) (access_no_stop i) (pair_no_stop text.world row (λ n. refl))
front_no_stop (Exists s) row = pair_no_stop (text.element s) row (λ n. refl)
front_no_stop (Symbol name true args gives) row = application_at_no_stop name args row
front_no_stop (Symbol name false args gives) row = application_no_stop name args row

value_no_stop : (label : Label) (v : ℕ) → no_stops (text.label_value label v) ≡ true
value_no_stop (Access i) v = refl
value_no_stop (Exists s) v = refl
value_no_stop (Symbol name with_world args None) v = refl
value_no_stop (Symbol name with_world args (Some s)) v = refl

back_no_stop : (label : Label) → no_stops (text.back label) ≡ true
back_no_stop (Access i) = refl
back_no_stop (Exists s) = refl
back_no_stop (Symbol name true args gives) = refl
back_no_stop (Symbol name false args gives) = refl

literal_no_stop : (label : Label) (row : List ℕ) (v : ℕ) → no_stops (text.literal label row v) ≡ true
literal_no_stop label row v =
    both_no_stops (text.front label row) (text.label_value label v ++ text.back label) (front_no_stop label row)
    (both_no_stops (text.label_value label v) (text.back label) (value_no_stop label v) (back_no_stop label))

rows_no_stop : (label : Label) (rows : List (List ℕ)) → list_all no_stops (map (λ row. text.literal label row 0) rows) ≡ true
rows_no_stop label [] = refl
rows_no_stop label (row ∷ rows) = and_from (no_stops (text.literal label row 0)) _ (literal_no_stop label row 0) (rows_no_stop label rows)

values_no_stop : (label : Label) (rows : List (List ℕ × ℕ)) → list_all no_stops (map (λ r. text.literal label r.0 r.1) rows) ≡ true
values_no_stop label [] = refl
values_no_stop label (r ∷ rows) = and_from (no_stops (text.literal label r.0 r.1)) _ (literal_no_stop label r.0 r.1) (values_no_stop label rows)

literals_no_stop : (label : Label) (table : Table) → list_all no_stops (text.literals label table) ≡ true
literals_no_stop label (Rows rows) = rows_no_stop label rows
literals_no_stop label (Values rows) = values_no_stop label rows

group_no_stop : (parts : List (List Mark)) → list_all no_stops parts ≡ true → no_stops (text.group parts) ≡ true
group_no_stop [] h = refl
group_no_stop (part ∷ parts) h = between_no_stops text.and_sign (part ∷ parts) refl h

-- ---- statements

domains_end : (ss : List SortName) (sizes : List ℕ) → list_all ends_at_stop (map plains (text.domain_statements ss sizes)) ≡ true
domains_end [] sizes = refl
domains_end (s ∷ ss) [] = refl
domains_end (s ∷ ss) (n ∷ sizes) =
    and_from _ _ (statement_ends (codes "domain") (text.all_of (codes "X") (text.sort_mark s) (text.element s) n) (all_of_no_stop (codes "X") (text.sort_mark s) (text.element s) n (sort_no_stop s) (λ n. refl))) (domains_end ss sizes)

pub tables_end : (labels : List Label) (tables : List Table) → list_all ends_at_stop (map plains (text.table_statements labels tables)) ≡ true
tables_end [] tables = refl
tables_end (label ∷ labels) [] = refl
tables_end (label ∷ labels) (table ∷ tables) =
    and_from _ _ (statement_ends (text.label_name label) (text.group (text.literals label table)) (group_no_stop (text.literals label table) (literals_no_stop label table))) (tables_end labels tables)

pub head_ends : (sig : Signature) (n w : ℕ) (sizes : List ℕ) → list_all ends_at_stop (map plains (text.head_marks sig n w sizes)) ≡ true
head_ends sig n w sizes =
    and_from _ _ (statement_ends (codes "worlds") (text.all_of (codes "W") (Dollar (codes "$world")) text.world n) (all_of_no_stop (codes "W") (Dollar (codes "$world")) text.world n refl (λ n. refl)))
    (and_from _ _ (statement_ends (codes "local") (Dollar (codes "$local_world") ∷ (text.equals ++ text.world w ∷ [])) refl) (domains_end _ sizes))
