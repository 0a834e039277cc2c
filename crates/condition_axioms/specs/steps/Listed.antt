-- What the entry of a symbol says by itself. Where the names of a signature differ, it is what the signature says of the symbol's name.
use Rattle.std.specs.Prelude.{◌≡◌, ℕ, zero, suc, true, List, [], ◌∷◌, length}
use Rattle.nxf_tree.specs.declared.tree.Signature.{Signature}
use Rattle.nxf_tree.specs.declared.tree.SortName.{SortName}
use Rattle.nxf_tree.specs.declared.tree.SymbolEntry.{SymbolEntry}
use Rattle.nxf_tree.specs.declared.tree.Term.{Term, App}
use Rattle.nxf_tree.specs.declared.tree.Formula.{Formula, Atom}
use Rattle.nxf_tree.specs.Names.{user_name, existence_name}
use Rattle.nxf_tree.specs.Signature.{is_flexible, flexible_designation}
use Rattle.nxf_tree.specs.Embedding.{at_world}
use Rattle.nxf_tree.specs.Axioms.{world, element}
use Rattle.nxf_tree.specs.WellFormed.{has_sorts_in_range}

-- the entry is that of its name, and its numbers of sorts are in range
pub record IsListed (sig : Signature) (entry : SymbolEntry) : Type 0 where
  pub designation : is_flexible sig entry.name ≡ flexible_designation entry.designation
  pub in_range : has_sorts_in_range sig entry ≡ true

-- the first so many variables for elements, from number k on
abbrev pub elements_upto : ℕ → ℕ → List Term
elements_upto k zero = []
elements_upto k (suc n) = element k ∷ elements_upto (suc k) n

-- the function's value for the first variables, at the world 0 where the entry is flexible
abbrev pub value_term : SymbolEntry → Term
value_term entry = App (user_name entry.name) (at_world (flexible_designation entry.designation) (world 0) (elements_upto 0 (length entry.args)))

-- it exists at the world 0
abbrev pub value_of : SymbolEntry → SortName → Formula
value_of entry r = Atom (existence_name r) (world 0 ∷ value_term entry ∷ [])
