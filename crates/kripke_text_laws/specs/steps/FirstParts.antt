-- Parts of structures, as a text is read from its beginning.
use Rattle.std.specs.Prelude.{◌≡◌, ℕ, ◌<◌, List, [], ◌∷◌}
use Rattle.nxf_tree.specs.declared.tree.SortEntry.{SortEntry}
use Rattle.nxf_tree.specs.Rows.{Table, Shape, IsTable}
use Rattle.plain_tokens.specs.PlainTokens.{Plain}
use Rattle.plain_tokens.specs.Marks.{plains}
use Rattle.kripke_text_definitions.specs.KripkeText.{Label, worlds_statement, local_statement, domain_statement, table_statement}

-- sizes, each at least 1, of the first of the sorts
abbrev pub AreFirstSizes : List SortEntry → List ℕ → Type 0
AreFirstSizes entries [] = Unit {0}
AreFirstSizes [] (n ∷ sizes) = ⊥
AreFirstSizes (entry ∷ entries) (n ∷ sizes) = (0 < n) × AreFirstSizes entries sizes

-- tables of the first of the shapes
abbrev pub AreFirst : List Shape → List Table → Type 0
AreFirst shapes [] = Unit {0}
AreFirst [] (table ∷ tables) = ⊥
AreFirst (shape ∷ shapes) (table ∷ tables) = IsTable shape table × AreFirst shapes tables

-- the statement is one for the elements of the first sort that has no size yet
abbrev pub IsNextDomain : List SortEntry → List ℕ → List Plain → Type 0
IsNextDomain [] sizes s = ⊥
IsNextDomain (entry ∷ entries) [] s = (n : ℕ) × (0 < n) × (s ≡ plains (domain_statement entry.name n))
IsNextDomain (entry ∷ entries) (n ∷ sizes) s = IsNextDomain entries sizes s

-- the statement is one for the first label that has no table yet
abbrev pub IsNextTable : List Label → List Shape → List Table → List Plain → Type 0
IsNextTable [] shapes tables s = ⊥
IsNextTable (label ∷ labels) [] tables s = ⊥
IsNextTable (label ∷ labels) (shape ∷ shapes) [] s = (table : Table) × IsTable shape table × (s ≡ plains (table_statement label table))
IsNextTable (label ∷ labels) (shape ∷ shapes) (table ∷ tables) s = IsNextTable labels shapes tables s

abbrev pub IsWorlds : List Plain → Type 0
IsWorlds s = (n : ℕ) × (0 < n) × (s ≡ plains (worlds_statement n))

abbrev pub IsLocal : ℕ → List Plain → Type 0
IsLocal n s = (w : ℕ) × (w < n) × (s ≡ plains (local_statement w))

-- there is no next statement, or it isn't such a one
abbrev pub NextIsNot : (List Plain → Type 0) → List (List Plain) → Type 0
NextIsNot P [] = Unit {0}
NextIsNot P (s ∷ ss) = P s → ⊥
