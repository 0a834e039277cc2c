-- The elements in an interpretation that is printed have names of their own.
use Rattle.std.specs.Prelude.{◌≡◌, ℕ, ◌<◌, false, List, ◌∷◌, ◌++◌, map, length}
use Rattle.nxf_tree.specs.declared.tree.SortName.{SortName}
use Rattle.nxf_tree.specs.declared.tree.SortName.TheVariants.{User}
use Rattle.nxf_tree.specs.declared.tree.Signature.{Signature}
use Rattle.nxf_tree.specs.declared.tree.ClassicalSignature.{ClassicalSignature}
use Rattle.nxf_tree.specs.Counting.{has}
use Rattle.nxf_tree.specs.Signature.{same_sort}
use Rattle.nxf_tree.specs.Names.{actual_name}
use Rattle.nxf_tree.specs.Structures.{table_names}
use Rattle.classical_signature_laws.specs.ClassicalSignatures.{IsClassicalOf}
use Rattle.interpretation_text_definitions.specs.ElementNames.{element_name}

-- the names of the signature: the actual world, the tables and the sorts share one name space
abbrev pub declared_names : ClassicalSignature → List SortName
declared_names csig = map User (actual_name ∷ table_names csig.tables) ++ csig.sorts

-- elements with one name are one element, and no element has a name of the signature
pub record HasElementsApart (csig : ClassicalSignature) : Type 0 where
  pub elements : (j k m n : ℕ) → j < length csig.sorts → k < length csig.sorts → element_name csig.sorts j m ≡ element_name csig.sorts k n → (j ≡ k) × (m ≡ n)
  pub declared : (k n : ℕ) → has same_sort (User (element_name csig.sorts k n)) (declared_names csig) ≡ false

abbrev pub ElementsApartLaw : Type 0
ElementsApartLaw = (sig : Signature) (csig : ClassicalSignature) → IsClassicalOf sig csig → HasElementsApart csig
