-- What occurs in terms and formulas, by the lists of their parts.
use Rattle.std.proofs.Common.{◌≡◌, ℕ, ◌+◌, List, [], ◌∷◌, ◌++◌, length, refl, ap, ◌∙◌, arith}
use Rattle.std.specs.Prelude.{zero, suc, map, flat_map, Some, None, OnOk, Result, Ok, Err}
use Rattle.nxf_tree.specs.declared.tree.SortName.TheVariants.{Individual}
use Rattle.nxf_tree.specs.declared.tree.Term.{Term, App, Row_of-Term, end_of-Term, more_of-Term}
use Rattle.nxf_tree.specs.declared.tree.Term.TheBlock.{hidden-the_row-Term-0, items-the_row-Term, items_hidden-the_row-Term-0}
use Rattle.nxf_tree.specs.declared.tree.Formula.{Formula, Atom, Same, And, Or, Row_of-Formula, end_of-Formula, more_of-Formula}
use Rattle.nxf_tree.specs.declared.tree.Formula.TheBlock.{hidden-the_row-Formula-1, items-the_row-Formula, items_hidden-the_row-Formula-1}
use Rattle.nxf_tree.specs.Occurrences.{Occurrence, Use, individuals, use_with, row_length, term_uses, row_uses, terms_uses, occurrences, row_occurrences}
use Rattle.nxf_signatures.specs.steps.Tables.{term_occurrences}

-- what follows from the fact of a call that succeeds
pub on_ok : {A E P Q : Type 0} (r : Result A E) → (P → Q) → OnOk r P → OnOk r Q
on_ok (Ok x) f p = f p
on_ok (Err e) f p = p

marks-append : (us vs : List Use) → map Occurrence.symbol (us ++ vs) ≡ map Occurrence.symbol us ++ map Occurrence.symbol vs
marks-append [] vs = refl
marks-append (u ∷ us) vs = ap (λ os. Occurrence.symbol u ∷ os) (marks-append us vs)

pub row_length_is : {m : _} (ts : Row_of-Term m) → row_length ts ≡ length (items-the_row-Term _ ts)
row_length_is end_of-Term = refl
row_length_is (more_of-Term t ts) = ap suc (row_length_is ts) ∙ omega arith

row_marks : {m : _} (ts : Row_of-Term m) → map Occurrence.symbol (row_uses ts) ≡ flat_map term_occurrences (items-the_row-Term _ ts)
row_marks end_of-Term = refl
row_marks (more_of-Term t ts) = marks-append (term_uses t) (row_uses ts) ∙ ap (λ os. term_occurrences t ++ os) (row_marks ts)

-- a symbol and then its arguments
pub of_App : (f : List ℕ) (ts : List Term) → term_occurrences (App f ts) ≡ Occurrence.symbol (use_with f (length ts) (Some Individual)) ∷ flat_map term_occurrences ts
of_App f ts =
    let r = hidden-the_row-Term-0 ts in
    (λ i. Occurrence.symbol (use_with f (row_length_is r i) (Some Individual)) ∷ row_marks r i)
    ∙ ap (λ xs. Occurrence.symbol (use_with f (length xs) (Some Individual)) ∷ flat_map term_occurrences xs) (items_hidden-the_row-Term-0 ts)

pub of_terms : (ts : List Term) → map Occurrence.symbol (terms_uses ts) ≡ flat_map term_occurrences ts
of_terms [] = refl
of_terms (t ∷ ts) = marks-append (term_uses t) (terms_uses ts) ∙ ap (λ os. term_occurrences t ++ os) (of_terms ts)

pub of_Atom : (p : List ℕ) (ts : List Term) → occurrences (Atom p ts) ≡ Occurrence.symbol (use_with p (length ts) None) ∷ flat_map term_occurrences ts
of_Atom p ts = ap (λ os. Occurrence.symbol (use_with p (length ts) None) ∷ os) (of_terms ts)

pub of_Same : (t u : Term) → occurrences (Same t u) ≡ term_occurrences t ++ term_occurrences u
of_Same t u = marks-append (term_uses t) (term_uses u)

row_parts : {m : _} (fs : Row_of-Formula m) → row_occurrences fs ≡ flat_map occurrences (items-the_row-Formula _ fs)
row_parts end_of-Formula = refl
row_parts (more_of-Formula f fs) = ap (λ os. occurrences f ++ os) (row_parts fs)

pub of_And : (fs : List Formula) → occurrences (And fs) ≡ flat_map occurrences fs
of_And fs = row_parts (hidden-the_row-Formula-1 fs) ∙ ap (flat_map occurrences) (items_hidden-the_row-Formula-1 fs)

pub of_Or : (fs : List Formula) → occurrences (Or fs) ≡ flat_map occurrences fs
of_Or fs = row_parts (hidden-the_row-Formula-1 fs) ∙ ap (flat_map occurrences) (items_hidden-the_row-Formula-1 fs)

push_individual : (n : ℕ) → individuals n ++ Individual ∷ [] ≡ individuals (suc n)
push_individual zero = refl
push_individual (suc n) = ap (λ ss. Individual ∷ ss) (push_individual n)

-- one more `$i`
pub individuals_push : (n : ℕ) → individuals n ++ Individual ∷ [] ≡ individuals (n + 1)
individuals_push n = let e : suc n ≡ n + 1 = omega arith in push_individual n ∙ ap individuals e
