-- Whether a statement is that of a table of a shape: there are finitely many such tables.
use Rattle.std.proofs.Common.{◌≡◌, ℕ, zero, suc, ◌<◌, Bool, true, false, cond, List, [], ◌∷◌, ◌++◌, map, Option, None, Some, refl, sym, ap, subst, ◌∙◌, arith}
use Rattle.std.specs.Prelude.{slice_get}
use mathlib.Core.Logic.{inl, inr}
use Rattle.std.proofs.lemmas.Bool.{cases_lt}
use Rattle.tptp_lex.specs.declared.token.Kind.{Kind}
use Rattle.tptp_lex.specs.declared.token.Kind.TheVariants as kind
use Rattle.nxf_tree.specs.Rows.{Table, Rows, Values, Shape, numbers_below, all_rows, has_row, those_in, AllBelow, AreValues, IsTableOf, IsTable}
use Rattle.plain_tokens.specs.PlainTokens.{Plain}
use Rattle.plain_tokens.specs.Marks.{plains}
use Rattle.kripke_text_definitions.specs.KripkeText.{Label, table_statement}
use Rattle.answer_laws.proofs.Deciding.{Decided, Decides, decided_both, is_below, numbers, lists, IsAmong, SomeAmong, some_among, among_first, among_last, among_map}

-- ---- tokens

abbrev kinds : List Kind
kinds = kind.Word ∷ kind.Quoted ∷ kind.Dollar ∷ kind.Upper ∷ kind.Number ∷ kind.Distinct ∷ kind.Punct ∷ []

-- its place among these
abbrev kind_place : Kind → ℕ
kind_place kind.Word = 0
kind_place kind.Quoted = 1
kind_place kind.Dollar = 2
kind_place kind.Upper = 3
kind_place kind.Number = 4
kind_place kind.Distinct = 5
kind_place kind.Punct = 6

kind_there : (k : Kind) → slice_get kinds (kind_place k) ≡ Some k
kind_there kind.Word = refl
kind_there kind.Quoted = refl
kind_there kind.Dollar = refl
kind_there kind.Upper = refl
kind_there kind.Number = refl
kind_there kind.Distinct = refl
kind_there kind.Punct = refl

same_place : (k l : Kind) → kind_place k ≡ kind_place l → k ≡ l
same_place k l e =
    let found : Some k ≡ Some l = sym (kind_there k) ∙ ap (slice_get kinds) e ∙ kind_there l in
    cc

kind_by : (k l : Kind) → Decided (kind_place k ≡ kind_place l) → Decided (k ≡ l)
kind_by k l (inl same) = inl (same_place k l same)
kind_by k l (inr never) = inr (λ e. never (ap kind_place e))

token_by : (p q : Plain) → Decided (p.kind ≡ q.kind) → Decided (p.text ≡ q.text) → Decided (p ≡ q)
token_by p q (inl kind_is) (inl text_is) = inl (λ i. record { kind = kind_is i; text = text_is i })
token_by p q (inl kind_is) (inr never) = inr (λ e. never (ap (λ (t : Plain). t.text) e))
token_by p q (inr never) text = inr (λ e. never (ap (λ (t : Plain). t.kind) e))

token : Decides Plain
token p q = token_by p q (kind_by p.kind q.kind (numbers (kind_place p.kind) (kind_place q.kind))) (lists numbers p.text q.text)

pub tokens : Decides (List Plain)
tokens = lists token

-- ---- shapes

rows : Decides (List (List ℕ))
rows = lists (lists numbers)

all_below : (bound : ℕ) (xs : List ℕ) → Decided (AllBelow bound xs)
all_below bound [] = inl tt
all_below bound (x ∷ xs) = decided_both (is_below x bound) (all_below bound xs)

values_by : (sizes : List ℕ) (bound : ℕ) (rs : List (List ℕ × ℕ)) → Decided ((map (λ (row : List ℕ × ℕ). row.0) rs ≡ all_rows sizes) × AllBelow bound (map (λ (row : List ℕ × ℕ). row.1) rs)) → Decided (AreValues sizes bound rs)
values_by sizes bound rs (inl h) = inl (record { total = h.0; below = h.1 })
values_by sizes bound rs (inr never) = inr (λ h. never (h.total, h.below))

is_table : (sizes : List ℕ) (values : Option ℕ) (table : Table) → Decided (IsTableOf sizes values table)
is_table sizes None (Rows rs) = rows rs (those_in rs (all_rows sizes))
is_table sizes None (Values rs) = inr (λ h. h)
is_table sizes (Some bound) (Rows rs) = inr (λ h. h)
is_table sizes (Some bound) (Values rs) = values_by sizes bound rs (decided_both (rows _ (all_rows sizes)) (all_below bound _))

-- ---- all tables of a shape

-- the lists that leave out some of the items
abbrev sublists : {A : Type 0} → List A → List (List A)
sublists [] = [] ∷ []
sublists (x ∷ xs) = map (λ ys. x ∷ ys) (sublists xs) ++ sublists xs

kept_by : (row : List ℕ) (rs kept : List (List ℕ)) (b : Bool) → IsAmong kept (sublists rs) → IsAmong (cond b (row ∷ kept) kept) (sublists (row ∷ rs))
kept_by row rs kept true h = among_first (row ∷ kept) (map (λ ys. row ∷ ys) (sublists rs)) (sublists rs) (among_map (λ ys. row ∷ ys) kept (sublists rs) h)
kept_by row rs kept false h = among_last kept (map (λ ys. row ∷ ys) (sublists rs)) (sublists rs) h

kept_among : (list rs : List (List ℕ)) → IsAmong (those_in list rs) (sublists rs)
kept_among list [] = inl refl
kept_among list (row ∷ rs) = kept_by row rs (those_in list rs) (has_row row list) (kept_among list rs)

-- a value in front of each of the lists
abbrev in_each : List ℕ → List ℕ → List (List (List ℕ × ℕ)) → List (List (List ℕ × ℕ))
in_each row [] fillings = []
in_each row (v ∷ vs) fillings = map (λ filling. (row, v) ∷ filling) fillings ++ in_each row vs fillings

-- the rows with values below the bound
abbrev fillings : ℕ → List (List ℕ) → List (List (List ℕ × ℕ))
fillings bound [] = [] ∷ []
fillings bound (row ∷ rs) = in_each row (numbers_below bound) (fillings bound rs)

number_among : (bound v : ℕ) → v < bound → IsAmong v (numbers_below bound)
number_among zero v h = absurd (omega arith)
number_among (suc bound) v h = elim (cases_lt v bound) [
  | inl less ↦ among_first v (numbers_below bound) (bound ∷ []) (number_among bound v less)
  | inr more ↦ among_last v (numbers_below bound) (bound ∷ []) (inl (omega arith))
]

filled_among : (row : List ℕ) (v : ℕ) (filling : List (List ℕ × ℕ)) (vs : List ℕ) (others : List (List (List ℕ × ℕ))) → IsAmong v vs → IsAmong filling others → IsAmong ((row, v) ∷ filling) (in_each row vs others)
filled_among row v filling [] others h k = absurd h
filled_among row v filling (u ∷ vs) others (inl same) k =
    among_first ((row, v) ∷ filling) (map (λ f. (row, u) ∷ f) others) (in_each row vs others)
    (subst (λ (w : ℕ). IsAmong ((row, v) ∷ filling) (map (λ f. (row, w) ∷ f) others)) same (among_map (λ f. (row, v) ∷ f) filling others k))
filled_among row v filling (u ∷ vs) others (inr later) k =
    among_last ((row, v) ∷ filling) (map (λ f. (row, u) ∷ f) others) (in_each row vs others) (filled_among row v filling vs others later k)

first_is : (x y : List ℕ) (xs ys : List (List ℕ)) → x ∷ xs ≡ y ∷ ys → (x ≡ y) × (xs ≡ ys)
first_is x y xs ys e = ((cc), (cc))

filling_among : (bound : ℕ) (rs : List (List ℕ)) (filling : List (List ℕ × ℕ)) → map (λ (row : List ℕ × ℕ). row.0) filling ≡ rs → AllBelow bound (map (λ (row : List ℕ × ℕ). row.1) filling) → IsAmong filling (fillings bound rs)
filling_among bound [] [] e h = inl refl
filling_among bound [] (f ∷ filling) e h = absurd cc
filling_among bound (row ∷ rs) [] e h = absurd cc
filling_among bound (row ∷ rs) (f ∷ filling) e h =
    let same = first_is f.0 row (map (λ (r : List ℕ × ℕ). r.0) filling) rs e in
    subst (λ (r : List ℕ). IsAmong (f ∷ filling) (in_each r (numbers_below bound) (fillings bound rs))) same.0
    (filled_among f.0 f.1 filling (numbers_below bound) (fillings bound rs) (number_among bound f.1 h.0) (filling_among bound rs filling same.1 h.1))

abbrev tables_of : List ℕ → Option ℕ → List Table
tables_of sizes None = map Rows (sublists (all_rows sizes))
tables_of sizes (Some bound) = map Values (fillings bound (all_rows sizes))

table_among : (sizes : List ℕ) (values : Option ℕ) (table : Table) → IsTableOf sizes values table → IsAmong table (tables_of sizes values)
table_among sizes None (Rows rs) h =
    among_map Rows rs (sublists (all_rows sizes)) (subst (λ (kept : List (List ℕ)). IsAmong kept (sublists (all_rows sizes))) (sym h) (kept_among rs (all_rows sizes)))
table_among sizes None (Values rs) h = absurd h
table_among sizes (Some bound) (Rows rs) h = absurd h
table_among sizes (Some bound) (Values rs) h = among_map Values rs (fillings bound (all_rows sizes)) (filling_among bound (all_rows sizes) rs h.total h.below)

-- ---- statements of tables

abbrev IsOf : Label → Shape → List Plain → Table → Type 0
IsOf label shape s table = IsTable shape table × (s ≡ plains (table_statement label table))

by_search : (label : Label) (shape : Shape) (s : List Plain) → SomeAmong (IsOf label shape s) (tables_of shape.sizes shape.values) → Decided ((table : Table) × IsTable shape table × (s ≡ plains (table_statement label table)))
by_search label shape s (inl found) = inl (found.0, found.1.0, found.1.1)
by_search label shape s (inr none) = inr (λ h. none h.0 (table_among shape.sizes shape.values h.0 h.1) (h.1, h.2))

pub table_or_not : (label : Label) (shape : Shape) (s : List Plain) → Decided ((table : Table) × IsTable shape table × (s ≡ plains (table_statement label table)))
table_or_not label shape s =
    by_search label shape s
    (some_among (IsOf label shape s) (λ table. decided_both (is_table shape.sizes shape.values table) (tokens s (plains (table_statement label table)))) (tables_of shape.sizes shape.values))
