-- Which classical signatures are those of well-formed signatures, and what is known of them.
use Rattle.std.specs.Prelude.{◌≡◌, ℕ, ◌<◌, length, slice_index_or, Option, None, Some}
use Rattle.nxf_tree.specs.declared.tree.Signature.{Signature}
use Rattle.nxf_tree.specs.declared.tree.ClassicalSignature.{ClassicalSignature}
use Rattle.nxf_tree.specs.declared.tree.TableEntry.{TableEntry}
use Rattle.nxf_tree.specs.Rows.{AllBelow}
use Rattle.nxf_tree.specs.ClassicalSignature.{classical_signature_of}
use Rattle.nxf_tree.specs.WellFormed.{IsWellFormed}
use Rattle.name_laws.specs.NameLaws.{HasDifferentClassicalNames}

-- the classical signature of a signature that is well formed
pub record IsClassicalOf (sig : Signature) (csig : ClassicalSignature) : Type 0 where
  pub well_formed : IsWellFormed sig
  pub is : csig ≡ classical_signature_of sig

-- a function's values are of one of the first n sorts
abbrev pub GivesBelow : ℕ → Option ℕ → Type 0
GivesBelow n None = Unit {0}
GivesBelow n (Some sort) = sort < n

-- the classical signature has a sort, and the values of each function are of one of its sorts
pub record HasSorts (csig : ClassicalSignature) : Type 0 where
  pub some_sort : 0 < length csig.sorts
  pub values : (t : ℕ) (d : TableEntry) → t < length csig.tables → GivesBelow (length csig.sorts) (slice_index_or csig.tables t d).gives

-- each argument of each table is of one of the sorts
abbrev pub HasArguments : ClassicalSignature → Type 0
HasArguments csig = (t : ℕ) (d : TableEntry) → t < length csig.tables → AllBelow (length csig.sorts) (slice_index_or csig.tables t d).args

-- the classical signature of a well-formed signature has that, and its names all differ
abbrev pub HasSortsLaw : Type 0
HasSortsLaw = (sig : Signature) (csig : ClassicalSignature) → IsClassicalOf sig csig → HasSorts csig

abbrev pub HasArgumentsLaw : Type 0
HasArgumentsLaw = (sig : Signature) (csig : ClassicalSignature) → IsClassicalOf sig csig → HasArguments csig

abbrev pub ClassicalNamesLaw : Type 0
ClassicalNamesLaw = (sig : Signature) (csig : ClassicalSignature) → IsClassicalOf sig csig → HasDifferentClassicalNames csig
