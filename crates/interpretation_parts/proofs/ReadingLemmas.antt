-- What parts are read as.
use Rattle.std.proofs.Common.{◌≡◌, ℕ, ◌+◌, ◌<◌, List, [], ◌∷◌, ◌++◌, map, drop, length, get_or, Option, None, Some, refl, ap, ◌∙◌, sym, arith}
use Rattle.std.proofs.lemmas.List.{at_drop_more, at_drop_all, append-nil, append_assoc}
use Rattle.nxf_tree.specs.declared.tree.Term.{Term, Row_of-Term, end_of-Term, more_of-Term}
use Rattle.nxf_tree.specs.declared.tree.Term.TheBlock.{hidden-the_row-Term-0, items-the_row-Term, items_hidden-the_row-Term-0}
use Rattle.nxf_tree.specs.declared.tree.Formula.{Formula, Not, Or, Quant, Row_of-Formula, end_of-Formula, more_of-Formula}
use Rattle.nxf_tree.specs.declared.tree.Formula.TheBlock.{hidden-the_row-Formula-1, items-the_row-Formula, items_hidden-the_row-Formula-1}
use Rattle.interpretation_definitions.specs.Parts.{argument, arguments, and_name, member_of, members_of, closed_names, negated_part, quantified_part}
use Rattle.interpretation_parts.specs.steps.Items.{leaf}
use Rattle.nxf_tree.specs.declared.tree.SortName.{SortName}
use Rattle.nxf_tree.specs.declared.tree.Quantifier.{Quantifier}
use Rattle.nxf_tree.specs.declared.tree.Quantifier.TheVariants.{All, Exists}
use Rattle.nxf_tree.specs.Shapes.{Quant1, Not_is, Quant_is}
use Rattle.interpretation_parts.specs.steps.Readings.{member_list, before_names}

-- the members of a row are those of its list
row_members : {m : _} (x : List ℕ) (fs : Row_of-Formula m) → members_of x fs ≡ member_list x (items-the_row-Formula _ fs)
row_members x end_of-Formula = refl
row_members x (more_of-Formula f fs) = ap (and_name (member_of x f)) (row_members x fs)

pub closed_names_of_Or : (x : List ℕ) (fs : List Formula) → closed_names x (Or fs) ≡ member_list x fs
closed_names_of_Or x fs = row_members x (hidden-the_row-Formula-1 fs) ∙ ap (member_list x) (items_hidden-the_row-Formula-1 fs)

-- the arguments of a row are those of its list
row_arguments : {m : _} (ts : Row_of-Term m) → arguments ts ≡ map argument (items-the_row-Term _ ts)
row_arguments end_of-Term = refl
row_arguments (more_of-Term t ts) = ap (λ args. argument t ∷ args) (row_arguments ts)

pub arguments_hidden : (ts : List Term) → arguments (hidden-the_row-Term-0 ts) ≡ map argument ts
arguments_hidden ts = row_arguments (hidden-the_row-Term-0 ts) ∙ ap (map argument) (items_hidden-the_row-Term-0 ts)

one_more : (ns : List (List ℕ)) (n : List ℕ) (o : Option (List (List ℕ))) → before_names ns (and_name (Some n) o) ≡ before_names (ns ++ n ∷ []) o
one_more ns n None = refl
one_more ns n (Some more) = ap Some (sym (append_assoc ns (n ∷ []) more))

pub member_next : (x : List ℕ) (fs : List Formula) (i : ℕ) (d : Formula) (ns : List (List ℕ)) (n : List ℕ) → i < length fs → member_of x (get_or fs i d) ≡ Some n
    → before_names ns (member_list x (drop i fs)) ≡ before_names (ns ++ n ∷ []) (member_list x (drop (i + 1) fs))
member_next x fs i d ns n lt is =
    ap (before_names ns) (at_drop_more (member_list x) fs i d lt ∙ ap (λ o. and_name o (member_list x (drop (i + 1) fs))) is)
    ∙ one_more ns n (member_list x (drop (i + 1) fs))

pub member_missing : (x : List ℕ) (fs : List Formula) (i : ℕ) (d : Formula) (ns : List (List ℕ)) → i < length fs → member_of x (get_or fs i d) ≡ None
    → before_names ns (member_list x (drop i fs)) ≡ None
member_missing x fs i d ns lt is = ap (before_names ns) (at_drop_more (member_list x) fs i d lt ∙ ap (λ o. and_name o (member_list x (drop (i + 1) fs))) is)

pub before_none : (o : Option (List (List ℕ))) → before_names [] o ≡ o
before_none None = refl
before_none (Some names) = refl

pub members_done : (x : List ℕ) (fs : List Formula) (i : ℕ) (ns : List (List ℕ)) → length fs ≡ i → before_names ns (member_list x (drop i fs)) ≡ Some ns
members_done x fs i ns h = ap (before_names ns) (at_drop_all (member_list x) fs i (omega (arith, h))) ∙ ap Some (append-nil ns)

pub leaf_of_Not : (f : Formula) → leaf (Not f) ≡ negated_part f
leaf_of_Not f = ap leaf (Not_is f)

pub leaf_of_Quant : (q : Quantifier) (x : List ℕ) (s : SortName) (f : Formula) → leaf (Quant q x s f) ≡ quantified_part q x s f
leaf_of_Quant q x s f = ap leaf (Quant_is q x s f) ∙ by q
  where
    by : (r : Quantifier) → leaf (Quant1 r x s f) ≡ quantified_part r x s f
    by All = refl
    by Exists = refl
