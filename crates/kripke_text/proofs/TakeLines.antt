-- Taking the literal of a row: its front, its value, and what ends it.
use Rattle.std.proofs.Common.{◌≡◌, ℕ, ◌<◌, Bool, true, false, List, [], ◌∷◌, ◌++◌, map, Option, None, Some, refl, sym, ap, subst, ◌∙◌, arith}
use Rattle.std.proofs.lemmas.List.{append_cancel_left}
use Rattle.std.specs.Prelude.{IsSome, is_some}
use Rattle.std.specs.List.{fold}
use Rattle.std.specs.Option.{option_map}
use Rattle.std.proofs.lemmas.Bool.{true≢false}
use Rattle.nxf_tree.specs.declared.tree.SortName.{SortName}
use Rattle.nxf_tree.specs.declared.tree.Signature.{Signature}
use Rattle.nxf_tree.specs.declared.tree.SortEntry.{SortEntry}
use Rattle.nxf_tree.specs.Signature.{sort_at, takes_world}
use Rattle.nxf_tree.specs.Rows.{Shape, size_at}
use Rattle.fin_struct.specs.Cells.{table_at}
use Rattle.fin_struct.specs.KripkeTables.{KripkeTables, IsKripke, IsKripkeFor, place_or_zero}
use Rattle.kripke_text.specs.declared.subject.Subject.{Subject}
use Rattle.kripke_text.specs.declared.subject.Subject.TheVariants.{Relation, Existence, Symbol}
use Rattle.kripke_text.specs.steps.Subjects.{symbol_at, label_of, table_of, IsIn}
use Rattle.kripke_text.proofs.SubjectReads.{HasTable, has_table, symbol_there, values_there}
use Rattle.plain_tokens.specs.PlainTokens.{Plain}
use Rattle.plain_tokens.specs.Marks.{Mark, plains}
use Rattle.kripke_text_definitions.specs.KripkeText as text
use Rattle.kripke_text_laws.specs.steps.Labels.{has_values}
use Rattle.kripke_text_laws.proofs.Apart.{plains_then, value_apart}
use Rattle.kripke_text.specs.steps.Comparing.{matched}
use Rattle.kripke_text.specs.steps.Taking.{lead_marks, numbered}
use Rattle.kripke_text.specs.steps.Lines.{line_marks}
use Rattle.kripke_text.specs.steps.Reading.{Bounded}
use Rattle.kripke_text.specs.steps.Reading.{TakesNumber, TakesLine}
use Rattle.kripke_text.proofs.Matching.{same_some, some_of, fold_taken, fold_comes}
use Rattle.kripke_text.proofs.ReadLines.{Suits}

-- no value to take
pub takes_nothing : (marks : ℕ → List Mark) (values : Option ℕ) (o : Option (List Plain)) → ((n : ℕ) → marks n ≡ []) → values ≡ None → IsSome o → TakesNumber marks (Bounded values) o o (Some 0)
takes_nothing marks values o none is some =
    let ts = some_of o some in
    (ts.0, subst (λ (v : Option ℕ). Bounded v 0) (sym is) refl, ts.1 ∙ ap (λ (ms : List Mark). Some (plains ms ++ ts.0)) (sym (none 0)), ts.1)

-- a number behind other marks
pub takes_behind : (front : List Mark) (marks all : ℕ → List Mark) (P : ℕ → Type 0) (old mid new : Option (List Plain)) (found : Option ℕ) → ((n : ℕ) → all n ≡ front ++ marks n) → mid ≡ fold matched old front → TakesNumber marks P mid new found → TakesNumber all P old new found
takes_behind front marks all P old mid new (Some n) whole e takes =
    (takes.0, takes.1, fold_taken front old mid _ e takes.2 ∙ ap Some (sym (plains_then front (marks n) takes.0) ∙ ap (λ (ms : List Mark). plains ms ++ takes.0) (sym (whole n))), takes.3)
takes_behind front marks all P old mid new None whole e takes = λ n rest p h.
    takes n rest p (fold_comes front old mid (plains (marks n) ++ rest) e (h ∙ ap Some (ap (λ (ms : List Mark). plains ms ++ rest) (whole n) ∙ plains_then front (marks n) rest)))

-- where the marks come next, the tokens agree
agree : (o : Option (List Plain)) (ts : List Plain) → o ≡ Some ts → is_some o ≡ false → ⊥
agree None ts e h = absurd cc
agree (Some us) ts e h = true≢false h

line_whole : (label : text.Label) (none : Bool) (row : List ℕ) (v : ℕ) (rest : List Plain) → plains (line_marks label none row (Some v)) ++ rest ≡ plains (lead_marks none) ++ (plains (text.front label row) ++ (plains (text.label_value label v) ++ (plains (text.back label) ++ rest)))
line_whole label none row v rest =
    plains_then (lead_marks none) (text.literal label row v) rest
    ∙ ap (λ (r : List Plain). plains (lead_marks none) ++ r)
    (plains_then (text.front label row) (text.label_value label v ++ text.back label) rest
    ∙ ap (λ (r : List Plain). plains (text.front label row) ++ r) (plains_then (text.label_value label v) (text.back label) rest))

-- behind the front
front_comes : (label : text.Label) (none : Bool) (row : List ℕ) (v : ℕ) (rest : List Plain) (old one two : Option (List Plain)) → one ≡ fold matched old (lead_marks none) → two ≡ fold matched one (text.front label row) → old ≡ Some (plains (line_marks label none row (Some v)) ++ rest) → two ≡ Some (plains (text.label_value label v) ++ (plains (text.back label) ++ rest))
front_comes label none row v rest old one two a b h =
    let first = fold_comes (lead_marks none) old one _ a (h ∙ ap Some (line_whole label none row v rest)) in
    fold_comes (text.front label row) one two _ b first

pub front_missed : (label : text.Label) (values : Option ℕ) (none : Bool) (row : List ℕ) (old one two : Option (List Plain)) → one ≡ fold matched old (lead_marks none) → two ≡ fold matched one (text.front label row) → is_some two ≡ false → TakesLine label values none row old old None
front_missed label values none row old one two a b miss =
    (refl, λ v rest p h. agree two _ (front_comes label none row v rest old one two a b h) miss)

pub value_missed : (label : text.Label) (values : Option ℕ) (none : Bool) (row : List ℕ) (old one two three : Option (List Plain)) → one ≡ fold matched old (lead_marks none) → two ≡ fold matched one (text.front label row) → TakesNumber (text.label_value label) (Bounded values) two three None → TakesLine label values none row old old None
value_missed label values none row old one two three a b takes =
    (refl, λ v rest p h. takes v (plains (text.back label) ++ rest) p (front_comes label none row v rest old one two a b h))

-- at most one value comes next
one_value : (label : text.Label) (values : Option ℕ) (u v : ℕ) (ps qs : List Plain) → Suits label values → Bounded values u → Bounded values v → plains (text.label_value label u) ++ ps ≡ plains (text.label_value label v) ++ qs → ps ≡ qs
one_value label None u v ps qs suits a b e =
    append_cancel_left (plains (text.label_value label 0)) ps qs
    (ap (λ (n : ℕ). plains (text.label_value label n) ++ ps) (sym a) ∙ e ∙ ap (λ (n : ℕ). plains (text.label_value label n) ++ qs) b)
one_value label (Some size) u v ps qs suits a b e = (value_apart label u v ps qs suits e).1

pub back_missed : (label : text.Label) (values : Option ℕ) (none : Bool) (row : List ℕ) (n : ℕ) (old one two three four : Option (List Plain)) → Suits label values → one ≡ fold matched old (lead_marks none) → two ≡ fold matched one (text.front label row) → TakesNumber (text.label_value label) (Bounded values) two three (Some n) → four ≡ fold matched three (text.back label) → is_some four ≡ false → TakesLine label values none row old old None
back_missed label values none row n old one two three four suits a b takes c miss = (
  refl,
  λ v rest p h.
      let same = one_value label values n v takes.0 (plains (text.back label) ++ rest) suits takes.1 p (same_some _ _ (sym takes.2 ∙ front_comes label none row v rest old one two a b h)) in
      agree four rest (fold_comes (text.back label) three four rest c (takes.3 ∙ ap Some same)) miss,
)

some_left : (o : Option (List Plain)) → is_some o ≡ true → (ts : List Plain) × (o ≡ Some ts)
some_left None h = absurd cc
some_left (Some ts) h = (ts, refl)

pub line_taken : (label : text.Label) (values : Option ℕ) (none : Bool) (row : List ℕ) (n : ℕ) (old one two three four : Option (List Plain)) → one ≡ fold matched old (lead_marks none) → two ≡ fold matched one (text.front label row) → TakesNumber (text.label_value label) (Bounded values) two three (Some n) → four ≡ fold matched three (text.back label) → is_some four ≡ true → TakesLine label values none row old four (Some n)
line_taken label values none row n old one two three four a b takes c found =
    let left = some_left four found in
    let behind = same_some _ _ (sym takes.3 ∙ fold_taken (text.back label) three four left.0 c left.1) in
    let second = fold_taken (text.front label row) one two _ b (takes.2 ∙ ap (λ (r : List Plain). Some (plains (text.label_value label n) ++ r)) behind) in
    let first = fold_taken (lead_marks none) old one _ a second in
    (left.0, takes.1, first ∙ ap Some (sym (line_whole label none row n left.0)), left.1)

-- a function's value behind `=`
pub takes_result : (s sort : SortName) (front : List ℕ) (bound size : ℕ) (old mid new : Option (List Plain)) (found : Option ℕ) → front ≡ text.prefix s → s ≡ sort → bound ≡ size → mid ≡ fold matched old text.equals → TakesNumber (λ n. numbered front n ∷ []) (λ n. n < bound) mid new found → TakesNumber (text.value_of (Some sort)) (Bounded (Some size)) old new found
takes_result s sort front bound size old mid new found is_front is_sort is_bound e takes =
    takes_behind text.equals (λ n. numbered (text.prefix sort) n ∷ []) (text.value_of (Some sort)) (Bounded (Some size)) old mid new found (λ n. refl) e
    (subst (λ (b : ℕ). TakesNumber (λ n. numbered (text.prefix sort) n ∷ []) (λ n. n < b) mid new found) is_bound
    (subst (λ (f : List ℕ). TakesNumber (λ n. numbered f n ∷ []) (λ n. n < bound) mid new found) (is_front ∙ ap text.prefix is_sort) takes))

-- ---- the table of each kind

relation_values : (view : KripkeTables) (i : ℕ) → IsKripke view → i < view.indexes → (table_of view (Relation i)).values ≡ None
relation_values view i is h = ap (λ (x : Shape). x.values) (is.relations i h)

existence_values : (view : KripkeTables) (s : ℕ) → IsKripke view → (has : HasTable view s) → (table_of view (Existence s)).values ≡ None
existence_values view s is has =
    ap (λ (o : Option ℕ). (table_at view.tables (place_or_zero o)).values) has.number ∙ ap (λ (x : Shape). x.values) (is.existing s has.t has.number)

suits_none : (label : text.Label) (values : Option ℕ) → values ≡ None → has_values label ≡ false → Suits label values
suits_none label values e h = subst (Suits label) (sym e) h

symbol_suits : (name : List ℕ) (b : Bool) (sorts : List SortName) (entries : List SortEntry) (sizes : List ℕ) (gives : Option ℕ) → Suits (text.Symbol name b sorts (option_map (sort_at entries) gives)) (option_map (size_at sizes) gives)
symbol_suits name b sorts entries sizes None = refl
symbol_suits name b sorts entries sizes (Some k) = refl

pub table_suits : (sig : Signature) (view : KripkeTables) (subject : Subject) → IsKripke view → IsKripkeFor sig view → IsIn sig subject → Suits (label_of sig subject) (table_of view subject).values
table_suits sig view (Relation i) is for_sig h = suits_none (label_of sig (Relation i)) _ (relation_values view i is (omega (arith, for_sig.indexes, h))) refl
table_suits sig view (Existence s) is for_sig h = suits_none (label_of sig (Existence s)) _ (existence_values view s is (has_table sig view s is for_sig h)) refl
table_suits sig view (Symbol y) is for_sig h =
    let there = symbol_there sig view y is for_sig h in
    let entry = symbol_at sig y in
    subst (Suits (label_of sig (Symbol y))) (sym (values_there sig view y entry.gives there refl)) (symbol_suits entry.name (takes_world entry) (map (sort_at sig.sorts) entry.args) sig.sorts view.sizes entry.gives)

pub relation_value : (sig : Signature) (view : KripkeTables) (subject : Subject) (i : ℕ) (o : Option (List Plain)) → IsKripke view → IsKripkeFor sig view → IsIn sig subject → subject ≡ Relation i → IsSome o → TakesNumber (text.label_value (label_of sig subject)) (Bounded (table_of view subject).values) o o (Some 0)
relation_value sig view subject i o is for_sig h e some =
    takes_nothing (text.label_value (label_of sig subject)) (table_of view subject).values o (λ n. ap (λ (x : Subject). text.label_value (label_of sig x) n) e)
    (ap (λ (x : Subject). (table_of view x).values) e ∙ relation_values view i is (omega (arith, for_sig.indexes, subst (IsIn sig) e h))) some

pub existence_value : (sig : Signature) (view : KripkeTables) (subject : Subject) (s : ℕ) (o : Option (List Plain)) → IsKripke view → IsKripkeFor sig view → IsIn sig subject → subject ≡ Existence s → IsSome o → TakesNumber (text.label_value (label_of sig subject)) (Bounded (table_of view subject).values) o o (Some 0)
existence_value sig view subject s o is for_sig h e some =
    takes_nothing (text.label_value (label_of sig subject)) (table_of view subject).values o (λ n. ap (λ (x : Subject). text.label_value (label_of sig x) n) e)
    (ap (λ (x : Subject). (table_of view x).values) e ∙ existence_values view s is (has_table sig view s is for_sig (subst (IsIn sig) e h))) some

pub symbol_value : (sig : Signature) (view : KripkeTables) (subject : Subject) (y : ℕ) (gives : Option ℕ) (old new : Option (List Plain)) (found : Option ℕ) → IsKripke view → IsKripkeFor sig view → IsIn sig subject → subject ≡ Symbol y → gives ≡ (symbol_at sig y).gives → TakesNumber (text.value_of (option_map (sort_at sig.sorts) gives)) (Bounded (option_map (size_at view.sizes) gives)) old new found → TakesNumber (text.label_value (label_of sig subject)) (Bounded (table_of view subject).values) old new found
symbol_value sig view subject y gives old new found is for_sig h e g takes =
    let there = symbol_there sig view y is for_sig (subst (IsIn sig) e h) in
    let values = values_there sig view y gives there (sym g) in
    subst (λ (x : Subject). TakesNumber (text.label_value (label_of sig x)) (Bounded (table_of view x).values) old new found) (sym e)
    (subst (λ (v : Option ℕ). TakesNumber (text.label_value (label_of sig (Symbol y))) (Bounded v) old new found) (sym values)
    (subst (λ (q : Option ℕ). TakesNumber (text.value_of (option_map (sort_at sig.sorts) q)) (Bounded (option_map (size_at view.sizes) gives)) old new found) g takes))
