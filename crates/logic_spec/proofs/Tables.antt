-- The tables of a logic statement ask what it says.
use Rattle.std.proofs.Common.{◌≡◌, Bool, true, false, List, Option, None, Some, refl}
use Rattle.std.specs.Prelude.{if◌then◌else◌}
use Rattle.std.specs.Option.{option_and_then, option_or, unwrap_or}
use Rattle.nxf_tree.specs.declared.tree.Regime.TheVariants.{Constant}
use Rattle.nxf_tree.specs.declared.tree.Designation.TheVariants.{Rigid}
use Rattle.nxf_tree.specs.declared.tree.Locality.TheVariants.{Local}
use Rattle.nxf_tree.specs.declared.tree.Setting.TheVariants.{Domains, Designation as Designations, Terms, Modalities}
use Rattle.nxf_tree.specs.declared.tree.SortName.TheVariants.{User}
use Rattle.nxf_tree.specs.declared.tree.SpecEntry.{SpecEntry}
use Rattle.nxf_tree.specs.SpecificationWords.{regime_named, designation_named, locality_named}
use Rattle.nxf_tree.specs.Specification.{specification, override_list, setting_overrides, default_words}
use Rattle.logic_spec.specs.declared.spec.Spec.{Spec}
use Rattle.logic_spec.specs.Asked.{asked_by}
use Rattle.logic_spec.specs.steps.Noting.{IsWordTable, IsSchemeTable, schemes_said}

-- what is noted counts where nothing was before
pub noted : {A B : Type 0} (f : A → B) (before : Option B) (c : Bool) (own other : A)
    → unwrap_or (option_or before (if c then Some (f own) else None)) (f other) ≡ unwrap_or before (f (if c then own else other))
noted f (Some x) c own other = refl
noted f None true own other = refl
noted f None false own other = refl

pub tables_ask : (entries : List SpecEntry) (spec : Spec)
    → IsWordTable (default_words Domains entries) (setting_overrides Domains entries) spec.domains
    → IsWordTable (default_words Designations entries) (setting_overrides Designations entries) spec.designation
    → IsWordTable (default_words Terms entries) (setting_overrides Terms entries) spec.terms
    → IsSchemeTable (default_words Modalities entries) (setting_overrides Modalities entries) spec.modalities
    → spec.overrides ≡ override_list entries
    → asked_by spec ≡ specification spec.place entries
unfolding schemes_said
tables_ask entries spec domains designation terms modalities overrides = λ i. record {
  place = spec.place;
  regime = λ s. unwrap_or (option_and_then regime_named (domains s i)) Constant;
  designation = λ f. unwrap_or (option_and_then designation_named (designation (User f) i)) Rigid;
  locality = λ f. unwrap_or (option_and_then locality_named (terms (User f) i)) Local;
  schemes = λ n. modalities n i;
  overrides = overrides i;
}
