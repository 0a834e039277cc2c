-- How messages name the first condition that fails.
use Rattle.std.specs.Prelude.{ℕ, zero, suc, List, [], ◌∷◌, ◌++◌, codes}
use Rattle.nxf_base.specs.declared.status.Fails.{Fails}
use Rattle.nxf_base.specs.declared.status.Fails.TheVariants as fails
use Rattle.nxf_tree.specs.declared.tree.Signature.{Signature}
use Rattle.nxf_tree.specs.declared.tree.SymbolEntry.{SymbolEntry}
use Rattle.nxf_tree.specs.declared.tree.IndexName.{IndexName}
use Rattle.nxf_tree.specs.declared.tree.IndexName.TheVariants.{Plain, Named}
use Rattle.nxf_tree.specs.declared.tree.SortName.{SortName}
use Rattle.nxf_tree.specs.declared.tree.SortName.TheVariants.{Individual, User}
use Rattle.nxf_tree.specs.declared.tree.Scheme.{Scheme}
use Rattle.nxf_tree.specs.declared.tree.Scheme.TheVariants as scheme
use Rattle.nxf_tree.specs.Signature.{sort_at}
use Rattle.fin_struct.specs.declared.condition.Condition.{Condition}
use Rattle.fin_struct.specs.declared.condition.Condition.TheVariants as condition
use Rattle.fin_struct.specs.FirstFault.{index_at}

-- `[.]`, or `[#a]`
abbrev pub index_words : IndexName → List ℕ
index_words Plain = codes "[.]"
index_words (Named a) = codes "[#" ++ (a ++ codes "]")

abbrev pub sort_words : SortName → List ℕ
sort_words Individual = codes "$i"
sort_words (User s) = s

abbrev pub scheme_words : Scheme → List ℕ
scheme_words scheme.T = codes "T"
scheme_words scheme.D = codes "D"
scheme_words scheme.B = codes "B"
scheme_words scheme.Four = codes "4"
scheme_words scheme.Five = codes "5"
scheme_words scheme.CD = codes "CD"
scheme_words scheme.BoxM = codes "BoxM"
scheme_words scheme.C4 = codes "C4"
scheme_words scheme.C = codes "C"
scheme_words scheme.U = codes "U"

-- the name of the symbol with the number, counted from 0
abbrev pub symbol_words : List SymbolEntry → ℕ → List ℕ
symbol_words [] f = []
symbol_words (entry ∷ entries) zero = entry.name
symbol_words (entry ∷ entries) (suc f) = symbol_words entries f

-- a condition that fails, by the names of the signature
abbrev pub fails_of : Signature → Condition → Fails
fails_of sig (condition.Frame i scheme) = fails.Frame (index_words (index_at sig.indexes i)) (scheme_words scheme)
fails_of sig (condition.Empty s) = fails.Empty (sort_words (sort_at sig.sorts s))
fails_of sig (condition.Union s) = fails.Union (sort_words (sort_at sig.sorts s))
fails_of sig (condition.Monotone s i) = fails.Monotone (sort_words (sort_at sig.sorts s)) (index_words (index_at sig.indexes i))
fails_of sig (condition.Local f) = fails.Local (symbol_words sig.symbols f)
fails_of sig (condition.Premise k) = fails.Premise k
fails_of sig (condition.Conjecture k) = fails.Conjecture k
