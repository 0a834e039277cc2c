-- What a file in the profile is read as is good.
use Rattle.std.proofs.Common.{◌≡◌, ℕ, List, [], ◌∷◌, refl, sym, ap, subst}
use Rattle.std.specs.List.{All, slice_index_or}
use Rattle.std.proofs.lemmas.List.Elements.{All-map}
use Rattle.std.specs.Prelude.{map, Option, None, Some, Result, Ok, Err}
use Rattle.nxf_base.specs.declared.status.RoleKind.{RoleKind}
use Rattle.nxf_base.specs.declared.status.SpecKind.{SpecKind}
use Rattle.nxf_tree.specs.declared.tree.PartEntry.{PartEntry}
use Rattle.nxf_tree.specs.declared.tree.File.{File}
use Rattle.nxf_tree.specs.Parts.{parts_of}
use Rattle.nxf_tree.specs.declared.tree.IndexName.{IndexName}
use Rattle.nxf_tree.specs.declared.tree.IndexEntry.{IndexEntry}
use Rattle.nxf_tree.specs.declared.tree.LogicSpec.{LogicSpec}
use Rattle.nxf_tree.specs.declared.tree.SpecKey.TheVariants.{Index}
use Rattle.nxf_tree.specs.declared.tree.Setting.TheVariants.{Modalities}
use Rattle.nxf_tree.specs.Faults.{unless}
use Rattle.nxf_tree.specs.Specification.{Specification, logic_fault, words_for, specification, logic_statements, only_logic, spec_of}
use Rattle.nxf_tree.specs.SignatureOf.{indexes_of_file, signature_of}
use Rattle.nxf_tree.specs.WellFormed.{AreOrdered}
use Rattle.nxf_tree.specs.SortFaults.{SortFault, sort_fault_of}
use Rattle.nxf_tree.specs.Profile.{Reading, with_sorts, with_spec, with_parts}
use Rattle.signature_laws.specs.FileSignature.{IsGoodReading, ProfileLaw}
use Rattle.signature_laws.proofs.Schemes.{schemes-ordered}
use Rattle.signature_laws.proofs.ProfileLaw.{different, in-range, well-sorted}

-- the schemes of a specification are in order
ordered-unless : (fault : Option SpecKind) (s spec : Specification) → unless fault s ≡ Ok spec → ((i : IndexName) → AreOrdered (s.schemes i)) → (i : IndexName) → AreOrdered (spec.schemes i)
ordered-unless None s spec h k = let is : s ≡ spec = cc in λ i. subst (λ (q : Specification). AreOrdered (q.schemes i)) is (k i)
ordered-unless (Some kind) s spec h k = absurd cc

ordered : (ls : List (ℕ × LogicSpec)) (spec : Specification) → only_logic ls ≡ Ok spec → (i : IndexName) → AreOrdered (spec.schemes i)
ordered [] spec h = absurd cc
ordered (l ∷ []) spec h = ordered-unless (logic_fault l.1) (specification l.0 l.1.entries) spec h (λ i. schemes-ordered (words_for Modalities l.1.entries (Index i)))
ordered (l ∷ m ∷ ls) spec h = absurd cc

indexes-ordered : (spec : Specification) → ((i : IndexName) → AreOrdered (spec.schemes i)) → (is : List IndexName) → All (λ (entry : IndexEntry). AreOrdered entry.schemes) (map (λ i. record { name = i; schemes = spec.schemes i }) is)
indexes-ordered spec h is = All-map (λ (entry : IndexEntry). AreOrdered entry.schemes) (λ (i : IndexName). record { name = i; schemes = spec.schemes i }) is (λ k d l. h (slice_index_or is k d))

-- what a reading is made of
record IsReadWith (file : File) (p : Reading) : Type 0 where
  spec : Specification
  schemes : (i : IndexName) → AreOrdered (spec.schemes i)
  signature : p.signature ≡ signature_of spec file
  sorted : sort_fault_of spec file ≡ None

from-sorts : (file : File) (p : Reading) (parts : List PartEntry) (spec : Specification) → ((i : IndexName) → AreOrdered (spec.schemes i)) → (fault : Option (ℕ × SortFault)) → sort_fault_of spec file ≡ fault → with_sorts parts spec (signature_of spec file) fault ≡ Ok p → IsReadWith file p
from-sorts file p parts spec o None e h =
    let is : record { parts = parts; spec = spec; signature = signature_of spec file } ≡ p = cc in
    record { spec = spec; schemes = o; signature = sym (ap (λ (q : Reading). q.signature) is); sorted = e }
from-sorts file p parts spec o (Some fault) e h = absurd cc

from-spec : (file : File) (p : Reading) (parts : List PartEntry) (spec : Result Specification SpecKind) → spec_of file ≡ spec → with_spec file parts spec ≡ Ok p → IsReadWith file p
from-spec file p parts (Err kind) e h = absurd cc
from-spec file p parts (Ok spec) e h = from-sorts file p parts spec (ordered (logic_statements 1 file.statements) spec e) (sort_fault_of spec file) refl h

from-parts : (file : File) (p : Reading) (parts : Result (List PartEntry) (ℕ × RoleKind)) → with_parts file parts ≡ Ok p → IsReadWith file p
from-parts file p (Err fault) h = absurd cc
from-parts file p (Ok parts) h = from-spec file p parts (spec_of file) refl h

pub profile-law : ProfileLaw
profile-law file p h =
    let r : IsReadWith file p = from-parts file p (parts_of file) h in
    subst (IsGoodReading file) (sym r.signature)
    (record { names = different r.spec file r.sorted; numbers = in-range r.spec file r.sorted; schemes = indexes-ordered r.spec r.schemes (indexes_of_file file.statements); sorted = well-sorted r.spec file r.sorted })
