-- The texts of rows of terms and formulas are the texts of their lists.
use Rattle.std.proofs.Common.{◌≡◌, ℕ, List, ◌++◌, refl, ap, sym, ◌∙◌, append_assoc, append-nil}
use Rattle.std.specs.Prelude.{flat_map, codes}
use Rattle.std.specs.List.{join_by}
use Rattle.nxf_tree.specs.declared.tree.Term.{Term, App, Row_of-Term, end_of-Term, more_of-Term}
use Rattle.nxf_tree.specs.declared.tree.Term.TheBlock.{hidden-the_row-Term-0, items-the_row-Term, items_hidden-the_row-Term-0}
use Rattle.nxf_tree.specs.declared.tree.Formula.{Formula, And, Or, Row_of-Formula, end_of-Formula, more_of-Formula}
use Rattle.nxf_tree.specs.declared.tree.Formula.TheBlock.{hidden-the_row-Formula-1, items-the_row-Formula, items_hidden-the_row-Formula-1}
use Rattle.nxf_tree.specs.Text.{name_text, term_text, arguments_text, more_arguments_text, application_text, formula_text, members_text, more_members_text, unit_text}

more_arguments_row : {m : _} (ts : Row_of-Term m) → more_arguments_text ts ≡ flat_map (λ t. codes "," ++ term_text t) (items-the_row-Term _ ts) ++ codes ")"
more_arguments_row end_of-Term = refl
more_arguments_row (more_of-Term t ts) =
    ap (λ rest. codes "," ++ term_text t ++ rest) (more_arguments_row ts) ∙ sym (append_assoc (codes "," ++ term_text t) _ _)

arguments_row : {m : _} (f : List ℕ) (ts : Row_of-Term m) → name_text f ++ arguments_text ts ≡ application_text f (items-the_row-Term _ ts)
arguments_row f end_of-Term = append-nil (name_text f)
arguments_row f (more_of-Term t ts) =
    let items = items-the_row-Term _ ts in
    let rest = flat_map (λ u. codes "," ++ term_text u) items in
    ap (λ text. name_text f ++ (codes "(" ++ term_text t ++ text)) (more_arguments_row ts)
    ∙ ap (λ text. name_text f ++ text) (ap (λ text. codes "(" ++ text) (sym (append_assoc (term_text t) rest (codes ")"))))
    ∙ sym (append_assoc (name_text f) (codes "(" ++ (term_text t ++ rest)) (codes ")"))
    ∙ ap (λ text. text ++ codes ")") (sym (append_assoc (name_text f) (codes "(") (term_text t ++ rest)))

-- a term with arguments has the text of an atom
pub term_text_of_App : (f : List ℕ) (ts : List Term) → term_text (App f ts) ≡ application_text f ts
term_text_of_App f ts = arguments_row f (hidden-the_row-Term-0 ts) ∙ ap (application_text f) (items_hidden-the_row-Term-0 ts)

more_members_row : {m : _} (operator : List ℕ) (fs : Row_of-Formula m) → more_members_text operator fs ≡ flat_map (λ f. operator ++ unit_text f) (items-the_row-Formula _ fs)
more_members_row operator end_of-Formula = refl
more_members_row operator (more_of-Formula f fs) = ap (λ rest. operator ++ unit_text f ++ rest) (more_members_row operator fs)

members_row : {m : _} (operator : List ℕ) (fs : Row_of-Formula m) → members_text operator fs ≡ join_by unit_text operator (items-the_row-Formula _ fs)
members_row operator end_of-Formula = refl
members_row operator (more_of-Formula f fs) = ap (λ rest. unit_text f ++ rest) (more_members_row operator fs)

pub formula_text_of_And : (fs : List Formula) → formula_text (And fs) ≡ join_by unit_text (codes " & ") fs
formula_text_of_And fs = members_row (codes " & ") (hidden-the_row-Formula-1 fs) ∙ ap (join_by unit_text (codes " & ")) (items_hidden-the_row-Formula-1 fs)

pub formula_text_of_Or : (fs : List Formula) → formula_text (Or fs) ≡ join_by unit_text (codes " | ") fs
formula_text_of_Or fs = members_row (codes " | ") (hidden-the_row-Formula-1 fs) ∙ ap (join_by unit_text (codes " | ")) (items_hidden-the_row-Formula-1 fs)
