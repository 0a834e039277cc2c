-- The tables of a signature one by one: what each is of, its label, and where it stands in a structure.
use Rattle.std.specs.Prelude.{◌≡◌, ℕ, suc, ◌<◌, false, if◌then◌else◌, List, [], ◌∷◌, ◌++◌, length, slice_index_or, None}
use Rattle.nxf_tree.specs.declared.tree.Signature.{Signature}
use Rattle.nxf_tree.specs.declared.tree.SortEntry.{SortEntry}
use Rattle.nxf_tree.specs.declared.tree.SymbolEntry.{SymbolEntry}
use Rattle.nxf_tree.specs.declared.tree.IndexEntry.{IndexEntry}
use Rattle.nxf_tree.specs.declared.tree.Designation.TheVariants.{Flexible}
use Rattle.nxf_tree.specs.declared.tree.Locality.TheVariants.{Global}
use Rattle.nxf_tree.specs.Signature.{sort_at, constant_regime}
use Rattle.fin_struct.specs.Cells.{CellTable, table_at}
use Rattle.fin_struct.specs.FirstFault.{index_at, regime_at}
use Rattle.fin_struct.specs.KripkeTables.{KripkeTables, existence_place, symbol_number}
use Rattle.kripke_text_definitions.specs.KripkeText as text
use Rattle.kripke_text.specs.declared.subject.Subject.{Subject}
use Rattle.kripke_text.specs.declared.subject.Subject.TheVariants.{Relation, Existence, Symbol}

abbrev pub no_symbol : SymbolEntry
no_symbol = record { name = []; args = []; gives = None; designation = Flexible; locality = Global }

-- the symbol with the number, counted from 0
abbrev pub symbol_at : Signature → ℕ → SymbolEntry
symbol_at sig y = slice_index_or sig.symbols y no_symbol

-- what is printed for the table
abbrev pub label_of : Signature → Subject → text.Label
label_of sig (Relation i) = text.Access (index_at sig.indexes i)
label_of sig (Existence s) = text.Exists (sort_at sig.sorts s)
label_of sig (Symbol y) = text.symbol_label sig.sorts (symbol_at sig y)

-- the signature has the table
abbrev pub IsIn : Signature → Subject → Type 0
IsIn sig (Relation i) = i < length sig.indexes
IsIn sig (Existence s) = (s < length sig.sorts) × (constant_regime (regime_at sig.sorts s) ≡ false)
IsIn sig (Symbol y) = y < length sig.symbols

-- the number of the table in a structure, and the table
abbrev pub number_of : KripkeTables → Subject → ℕ
number_of view (Relation i) = i
number_of view (Existence s) = existence_place view s
number_of view (Symbol y) = symbol_number view y

abbrev pub table_of : KripkeTables → Subject → CellTable
table_of view subject = table_at view.tables (number_of view subject)

-- all tables of a signature in their order; k is the number of the first entry
abbrev pub relations_from : ℕ → List IndexEntry → List Subject
relations_from k [] = []
relations_from k (entry ∷ entries) = Relation k ∷ relations_from (suc k) entries

abbrev pub existences_from : ℕ → List SortEntry → List Subject
existences_from k [] = []
existences_from k (entry ∷ entries) = if constant_regime entry.regime then existences_from (suc k) entries else Existence k ∷ existences_from (suc k) entries

abbrev pub symbols_from : ℕ → List SymbolEntry → List Subject
symbols_from k [] = []
symbols_from k (entry ∷ entries) = Symbol k ∷ symbols_from (suc k) entries

abbrev pub subjects_of : Signature → List Subject
subjects_of sig = relations_from 0 sig.indexes ++ (existences_from 0 sig.sorts ++ symbols_from 0 sig.symbols)
