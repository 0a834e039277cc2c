-- The names of elements in an interpretation that is printed. They begin with `mk_`, as all names do that aren't a user's.
use Rattle.std.specs.Prelude.{ℕ, zero, suc, List, ◌++◌, map, codes}
use Rattle.nxf_tree.specs.declared.tree.SortName.{SortName}
use Rattle.nxf_tree.specs.declared.tree.SortName.TheVariants.{Individual, User}
use Rattle.nxf_tree.specs.Names.{numeral}
use Rattle.nxf_tree.specs.Rows.{numbers_below}
use Rattle.nxf_tree.specs.Problem.{classical_sort_at}

-- what the names of a sort's elements begin with, by the sort's number and name: the first sort is that of worlds
abbrev pub stem_of : ℕ → SortName → List ℕ
stem_of zero s = codes "mk_w_"
stem_of (suc k) Individual = codes "mk_i_"
stem_of (suc k) (User s) = codes "mk_e_" ++ s ++ codes "_"

-- the name of element n of sort k: `mk_w_n`, `mk_i_n` or `mk_e_s_n`
unfoldable pub element_name : List SortName → ℕ → ℕ → List ℕ
element_name sorts k n = stem_of k (classical_sort_at sorts k) ++ numeral n

-- the names of so many elements of sort k
abbrev pub element_names : List SortName → ℕ → ℕ → List (List ℕ)
element_names sorts k size = map (element_name sorts k) (numbers_below size)
