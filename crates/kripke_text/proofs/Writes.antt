-- What is written in a structure for the literal of a row.
use Rattle.std.proofs.Common.{◌≡◌, ℕ, ◌<◌, Bool, true, false, cond, List, [], ◌∷◌, Option, None, Some, refl, sym, ap, subst, ◌∙◌, arith}
use Rattle.std.specs.Prelude.{not, IsSome}
use Rattle.std.proofs.lemmas.Bool.{true≢false}
use Rattle.nxf_tree.specs.declared.tree.Signature.{Signature}
use Rattle.fin_struct.specs.Places.{InRange}
use Rattle.fin_struct.specs.Cells.{bound_of, with_row}
use Rattle.fin_struct.specs.KripkeTables.{KripkeTables, IsKripke, IsKripkeFor, existence_place, with_written}
use Rattle.fin_struct.proofs.CallerLemmas.{written_kripke}
use Rattle.structure_laws.proofs.StructureWritesLemmas.{stays-kripke-for}
use Rattle.plain_tokens.specs.PlainTokens.{Plain}
use Rattle.kripke_text_definitions.specs.KripkeText.{Label}
use Rattle.kripke_text_laws.specs.steps.Labels.{has_values}
use Rattle.kripke_text.specs.declared.subject.Subject.{Subject}
use Rattle.kripke_text.specs.declared.subject.Subject.TheVariants.{Existence}
use Rattle.kripke_text.specs.steps.Subjects.{IsIn, number_of, table_of}
use Rattle.kripke_text.specs.steps.Reading.{Bounded, cell_of, TakesLine, ReadsLine}
use Rattle.kripke_text.proofs.ReadLines.{Suits}
use Rattle.kripke_text.proofs.SubjectReads.{existence_pair, number_in}

-- ---- each kind of table

-- a true row
pub truth_written : (view new : KripkeTables) (t : ℕ) (values : Option ℕ) (row whole : List ℕ) (v : ℕ) → values ≡ None → row ≡ whole → new ≡ with_written view t row 1 → new ≡ with_written view t whole (cell_of values (Some v))
truth_written view new t values row whole v none same e =
    e
    ∙ ap (λ (r : List ℕ). with_written view t r 1) same
    ∙ ap (λ (o : Option ℕ). with_written view t whole (cell_of o (Some v))) (sym none)

pub value_written : (view new : KripkeTables) (t : ℕ) (values : Option ℕ) (row whole : List ℕ) (size v : ℕ) → values ≡ Some size → row ≡ whole → new ≡ with_written view t row v → new ≡ with_written view t whole (cell_of values (Some v))
value_written view new t values row whole size v some same e =
    e
    ∙ ap (λ (r : List ℕ). with_written view t r v) same
    ∙ ap (λ (o : Option ℕ). with_written view t whole (cell_of o (Some v))) (sym some)

pub existence_written : (sig : Signature) (view new : KripkeTables) (subject : Subject) (s v w a : ℕ) (row : List ℕ) → IsKripke view → IsKripkeFor sig view → subject ≡ Existence s → IsIn sig subject → InRange (table_of view subject).sizes row → w ∷ a ∷ [] ≡ row → new ≡ with_written view (existence_place view s) (w ∷ a ∷ []) 1 → new ≡ with_written view (number_of view subject) row (cell_of (table_of view subject).values (Some v))
existence_written sig view new subject s v w a row is for_sig e h r same f =
    let pair = existence_pair sig view subject s row is for_sig e h r in
    truth_written view new (existence_place view s) (table_of view (Existence s)).values (w ∷ a ∷ []) row v pair.values same f
    ∙ ap (λ (x : Subject). with_written view (number_of view x) row (cell_of (table_of view x).values (Some v))) (sym e)

-- ---- the structure that is written

cell_small : (values : Option ℕ) (v : ℕ) → Bounded values v → cell_of values (Some v) < bound_of values
cell_small None v h = omega arith
cell_small (Some size) v h = h

pub line_within : (sig : Signature) (view new : KripkeTables) (subject : Subject) (v : ℕ) (row : List ℕ) → IsKripke view → IsKripkeFor sig view → IsIn sig subject → Bounded (table_of view subject).values v → new ≡ with_written view (number_of view subject) row (cell_of (table_of view subject).values (Some v)) → IsKripke new × IsKripkeFor sig new
line_within sig view new subject v row is for_sig h small e =
    let t = number_of view subject in
    let c = cell_of (table_of view subject).values (Some v) in
    (subst IsKripke (sym e) (written_kripke view (with_row view.tables t row c) t row c is (number_in sig view subject is for_sig h) (cell_small (table_of view subject).values v small) refl), subst (IsKripkeFor sig) (sym e) ((stays-kripke-for sig view for_sig).written t row c))

-- ---- a row without a literal

some_by : (label : Label) (values : Option ℕ) → Suits label values → has_values label ≡ true → IsSome values
some_by label None suits e = absurd (true≢false (sym e ∙ suits))
some_by label (Some size) suits e = refl

none_by : (label : Label) (values : Option ℕ) → Suits label values → has_values label ≡ false → values ≡ None
none_by label None suits e = refl
none_by label (Some size) suits e = absurd (true≢false (sym suits ∙ e))

line_missing_by : (label : Label) (values : Option ℕ) (none : Bool) (t : ℕ) (row : List ℕ) (old new : Option (List Plain)) (view : KripkeTables) (after : Option Bool) (b : Bool) → Suits label values → has_values label ≡ b → after ≡ cond (not b) (Some none) None → TakesLine label values none row old new None → ReadsLine label values none t row old new view view after
line_missing_by label values none t row old new view None true suits e f takes = (some_by label values suits e, takes)
line_missing_by label values none t row old new view (Some after) true suits e f takes = absurd cc
line_missing_by label values none t row old new view None false suits e f takes = absurd cc
line_missing_by label values none t row old new view (Some after) false suits e f takes =
    record { found = None; takes = takes; after_is = (let same : after ≡ none = cc in same); written = (refl, none_by label values suits e) }

pub line_missing : (label : Label) (values : Option ℕ) (none : Bool) (t : ℕ) (row : List ℕ) (old new : Option (List Plain)) (view : KripkeTables) (after : Option Bool) (b : Bool) → Suits label values → b ≡ has_values label → after ≡ cond (not b) (Some none) None → TakesLine label values none row old new None → ReadsLine label values none t row old new view view after
line_missing label values none t row old new view after b suits e f takes = line_missing_by label values none t row old new view after b suits (sym e) f takes
