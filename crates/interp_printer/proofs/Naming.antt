-- The names of the elements of a sort, one more by one more.
use Rattle.std.proofs.Common.{◌≡◌, ℕ, ◌+◌, List, [], ◌∷◌, ◌++◌, map, length, ap, ◌∙◌}
use Rattle.std.proofs.lemmas.List.{length-map, map-append}
use Rattle.nxf_tree.specs.declared.tree.SortName.{SortName}
use Rattle.nxf_tree.specs.Rows.{numbers_below}
use Rattle.interpretation_text_definitions.specs.ElementNames.{element_name, element_names}
use Rattle.interp_printer.proofs.Appending.{numbered_more, numbers_count}

-- what is made of the names
pub names_more : {A : Type 0} (f : List ℕ → A) (sorts : List SortName) (k n : ℕ) → map f (element_names sorts k (n + 1)) ≡ map f (element_names sorts k n) ++ f (element_name sorts k n) ∷ []
names_more f sorts k n = ap (map f) (numbered_more (element_name sorts k) n) ∙ map-append f (element_names sorts k n) (element_name sorts k n ∷ [])

pub names_count : {A : Type 0} (f : List ℕ → A) (sorts : List SortName) (k n : ℕ) → length (map f (element_names sorts k n)) ≡ n
names_count f sorts k n = length-map (element_names sorts k n) f ∙ length-map (numbers_below n) (element_name sorts k) ∙ numbers_count n
