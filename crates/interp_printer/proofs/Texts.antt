-- Texts of statements, piece by piece.
use Rattle.std.proofs.Common.{◌≡◌, ℕ, ◌<◌, ◌≤◌, Bool, true, false, cond, List, [], ◌∷◌, ◌++◌, map, length, refl, sym, ap, ◌∙◌, append_assoc, append-nil, arith}
use Rattle.std.specs.Prelude.{codes, flat_map, nat_lt}
use Rattle.std.specs.List.{join_by}
use Rattle.std.proofs.lemmas.Bool.{lt-ltb}
use Rattle.nxf_tree.specs.declared.tree.SortName.{SortName}
use Rattle.nxf_tree.specs.declared.tree.Quantifier.TheVariants.{All}
use Rattle.nxf_tree.specs.declared.tree.Term.{Term, App}
use Rattle.nxf_tree.specs.declared.tree.Formula.{Formula, Same, And, Or, Distinct}
use Rattle.nxf_tree.specs.declared.tree.Statement.{Statement}
use Rattle.nxf_tree.specs.Shapes.{Name0, Quant1}
use Rattle.nxf_tree.specs.Names.{actual_name, world_name}
use Rattle.nxf_tree.specs.Problem.{role_named}
use Rattle.nxf_tree.specs.Text.{name_text, sort_text, in_brackets, term_text, terms_text, application_text, has_brackets, formula_text, unit_text, statement_text}
use Rattle.text_writer.specs.Front.{front_text}
use Rattle.text_writer.proofs.CallerLemmas.{formula_text_of_And, formula_text_of_Or, term_text_of_App}
use Rattle.interpretation_text_definitions.specs.ElementNames.{element_names}
use Rattle.interpretation_text_definitions.specs.InterpretationText.{axiom_named, joined, distinct_statements, actual_statements, element}

-- what ends a statement
abbrev pub ending : List ℕ
ending = 41 ∷ 46 ∷ 10 ∷ []

ended : (text : List ℕ) → text ++ codes ")." ++ 10 ∷ [] ≡ text ++ ending
ended text = append_assoc text (codes ").") (10 ∷ [])

-- members in brackets, unless there is one
pub alternatives_text : (fs : List Formula) → (length fs ≡ 1 → ⊥) → codes "( " ++ join_by unit_text (codes " | ") fs ++ codes " )" ≡ unit_text (joined Or fs)
alternatives_text [] several = ap (λ text. codes "( " ++ text ++ codes " )") (sym (formula_text_of_Or []))
alternatives_text (f ∷ []) several = absurd (several refl)
alternatives_text (f ∷ g ∷ fs) several = ap (λ text. codes "( " ++ text ++ codes " )") (sym (formula_text_of_Or (f ∷ g ∷ fs)))

-- formulas joined by `&`, none of which has brackets
pub conjunction_text : (fs : List Formula) → ((f : Formula) → fs ≡ f ∷ [] → has_brackets f ≡ false) → join_by unit_text (codes " & ") fs ≡ formula_text (joined And fs)
conjunction_text [] alone = sym (formula_text_of_And [])
conjunction_text (f ∷ []) alone = append-nil (unit_text f) ∙ plain (has_brackets f) (alone f refl)
  where
    plain : (b : Bool) → b ≡ false → in_brackets b (formula_text f) ≡ formula_text f
    plain true e = absurd cc
    plain false e = refl
conjunction_text (f ∷ g ∷ fs) alone = sym (formula_text_of_And (f ∷ g ∷ fs))

pub closure_text : (s : SortName) (f : Formula) → codes "tff(mk_domain,axiom,! [X: " ++ sort_text s ++ codes "] : " ++ unit_text f ++ ending ≡ statement_text (axiom_named (codes "mk_domain") (Quant1 All (codes "X") s f))
closure_text s f = sym (ended (codes "tff(mk_domain,axiom,! [X: " ++ sort_text s ++ codes "] : " ++ unit_text f))

distinct_text : (ts : List Term) → codes "tff(mk_distinct,axiom,$distinct(" ++ terms_text ts ++ 41 ∷ ending ≡ statement_text (axiom_named (codes "mk_distinct") (Distinct ts))
distinct_text ts = sym (append_assoc (codes "tff(mk_distinct,axiom,$distinct(" ++ terms_text ts) (codes ")") ending) ∙ sym (ended (codes "tff(mk_distinct,axiom,$distinct(" ++ terms_text ts ++ codes ")"))

pub distinct_texts : (sorts : List SortName) (k size : ℕ) → 2 ≤ size
    → codes "tff(mk_distinct,axiom,$distinct(" ++ terms_text (map Name0 (element_names sorts k size)) ++ 41 ∷ ending ≡ flat_map statement_text (distinct_statements sorts k size)
distinct_texts sorts k size several = chosen (nat_lt 1 size) (lt-ltb 1 size (omega arith))
  where
    chosen : (b : Bool) → b ≡ true → codes "tff(mk_distinct,axiom,$distinct(" ++ terms_text (map Name0 (element_names sorts k size)) ++ 41 ∷ ending
        ≡ flat_map statement_text (cond b (axiom_named (codes "mk_distinct") (Distinct (map Name0 (element_names sorts k size))) ∷ []) [])
    chosen true e = distinct_text (map Name0 (element_names sorts k size)) ∙ sym (append-nil (statement_text (axiom_named (codes "mk_distinct") (Distinct (map Name0 (element_names sorts k size))))))
    chosen false e = absurd cc

pub actual_text : (sorts : List SortName) (world : ℕ)
    → codes "tff(mk_actual,type,mk_actual: mk_world)." ++ 10 ∷ [] ++ codes "tff(mk_actual,axiom,mk_actual = " ++ term_text (element sorts 0 world) ++ ending ≡ flat_map statement_text (actual_statements sorts world)
unfolding actual_name world_name
actual_text sorts world =
    let front = codes "tff(mk_actual,axiom,mk_actual = " in
    let value = term_text (element sorts 0 world) in
    ap (λ text. codes "tff(mk_actual,type,mk_actual: mk_world)." ++ 10 ∷ text) (sym (ended (front ++ value)) ∙ sym (append-nil (front ++ value ++ codes ")." ++ 10 ∷ [])))

-- the two statements of a symbol
pub symbol_text : (declared : Statement) (name : List ℕ) (f : Formula) → statement_text declared ++ front_text name (role_named (codes "axiom")) ++ formula_text f ++ ending ≡ flat_map statement_text (declared ∷ axiom_named name f ∷ [])
symbol_text declared name f =
    let first = statement_text declared in
    let front = front_text name (role_named (codes "axiom")) in
    ap (λ text. text ++ ending) (append_assoc first front (formula_text f)) ∙ append_assoc first (front ++ formula_text f) ending
    ∙ ap (λ text. first ++ text) (sym (ended (front ++ formula_text f)) ∙ sym (append-nil (statement_text (axiom_named name f))))

pub application_some : (name : List ℕ) (ts : List Term) → 0 < length ts → name_text name ++ codes "(" ++ terms_text ts ++ codes ")" ≡ application_text name ts
application_some name [] some = absurd (omega arith)
application_some name (t ∷ ts) some = refl

pub equation_text : (name : List ℕ) (ts : List Term) (value : Term) → application_text name ts ++ codes " = " ++ term_text value ≡ formula_text (Same (App name ts) value)
equation_text name ts value = ap (λ text. text ++ codes " = " ++ term_text value) (sym (term_text_of_App name ts))
