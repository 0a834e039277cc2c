-- What the tables of a `Spec` ask.
use Rattle.std.specs.Prelude.{ℕ, Bool, true, false, List, Option, None, Some}
use Rattle.std.specs.Option.{option_and_then, unwrap_or}
use Rattle.std.specs.Map.{lookup}
use Rattle.nxf_tree.specs.declared.tree.IndexName.{IndexName}
use Rattle.nxf_tree.specs.declared.tree.IndexName.TheVariants.{Plain, Named}
use Rattle.nxf_tree.specs.declared.tree.SortName.{SortName}
use Rattle.nxf_tree.specs.declared.tree.SortName.TheVariants.{Individual, User}
use Rattle.nxf_tree.specs.declared.tree.Regime.TheVariants.{Constant}
use Rattle.nxf_tree.specs.declared.tree.Designation.TheVariants.{Rigid}
use Rattle.nxf_tree.specs.declared.tree.Locality.TheVariants.{Local}
use Rattle.nxf_tree.specs.declared.tree.Scheme.{Scheme}
use Rattle.nxf_tree.specs.Names.{same_text}
use Rattle.nxf_tree.specs.SpecificationWords.{regime_named, designation_named, locality_named}
use Rattle.nxf_tree.specs.Specification.{Specification}
use Rattle.logic_spec.specs.declared.overrides.Overrides.{Overrides}
use Rattle.logic_spec.specs.declared.spec.WordTable.{WordTable}
use Rattle.logic_spec.specs.declared.spec.SchemeTable.{SchemeTable}
use Rattle.logic_spec.specs.declared.spec.Spec.{Spec}

-- whether both are one name, or both no name
abbrev pub same_name : Option (List ℕ) → Option (List ℕ) → Bool
same_name None None = true
same_name None (Some b) = false
same_name (Some a) None = false
same_name (Some a) (Some b) = same_text a b

-- what the override of the name says, or that of the thing without a name
abbrev pub override_of : {T : Type 0} → Overrides T → Option (List ℕ) → Option T
override_of overrides None = overrides.nameless
override_of overrides (Some name) = lookup (same_text name) overrides.named.entries

-- the text of a user's sort, or none for `$i`
abbrev pub text_of_sort : SortName → Option (List ℕ)
text_of_sort Individual = None
text_of_sort (User s) = Some s

-- the text of an index, or none for the unindexed modality
abbrev pub text_of_index : IndexName → Option (List ℕ)
text_of_index Plain = None
text_of_index (Named a) = Some a

-- the word of the override, or else the default
abbrev pub word_for : WordTable → Option (List ℕ) → Option (List ℕ)
word_for table name = unwrap_or (override_of table.overrides name) table.default

-- the schemes of the override, or else the default's
abbrev pub schemes_for : SchemeTable → Option (List ℕ) → List Scheme
schemes_for table name = unwrap_or (override_of table.overrides name) table.default

-- what the tables ask of each sort, function and index; unset, sorts are constant, functions rigid and local
abbrev pub asked_by : Spec → Specification
asked_by spec = record {
  place = spec.place;
  regime = λ s. unwrap_or (option_and_then regime_named (word_for spec.domains (text_of_sort s))) Constant;
  designation = λ f. unwrap_or (option_and_then designation_named (word_for spec.designation (Some f))) Rigid;
  locality = λ f. unwrap_or (option_and_then locality_named (word_for spec.terms (Some f))) Local;
  schemes = λ i. schemes_for spec.modalities (text_of_index i);
  overrides = spec.overrides;
}
