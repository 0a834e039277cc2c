-- Files that are refused, each with its first refusal.
use Rattle.std.proofs.Common.{◌≡◌, [], ◌∷◌, refl}
use Rattle.std.specs.Prelude.{codes, None, Some, Ok, Err}
use denote.Hole.Carrier
use Rattle.nxf_tree.specs.declared.tree.IndexName.TheVariants.{Plain, Named}
use Rattle.nxf_tree.specs.declared.tree.SortName.TheVariants.{Individual, User}
use Rattle.nxf_tree.specs.declared.tree.Regime.TheVariants.{Constant}
use Rattle.nxf_tree.specs.declared.tree.Designation.TheVariants.{Rigid}
use Rattle.nxf_tree.specs.declared.tree.Locality.TheVariants.{Local}
use Rattle.nxf_tree.specs.declared.tree.Term.TheBlock.{hidden-the_row-Term-0}
use Rattle.nxf_tree.specs.declared.tree.Formula.{Same}
use Rattle.nxf_tree.specs.declared.tree.SpecKey.TheVariants.{Dollar, Name, Index}
use Rattle.nxf_tree.specs.declared.tree.SpecValue.{Word, Items, out-SpecValue, roll-SpecValue}
use Rattle.nxf_tree.specs.declared.tree.SpecItem.{SpecItem, Entry, out-SpecItem, roll-SpecItem}
use Rattle.nxf_tree.specs.declared.tree.SpecItem as item
use Rattle.nxf_tree.specs.declared.tree.SpecItem.TheBlock.{shown-the_row-SpecItem-0}
use Rattle.nxf_tree.specs.declared.tree.Body.TheVariants.{Logic as IsLogic}
use Rattle.nxf_tree.specs.declared.tree.Statement.TheVariants.{Annotated}
use Rattle.nxf_tree.specs.declared.tree.Scope.TheVariants.{Local as Here, Global as Everywhere}
use Rattle.nxf_tree.specs.declared.tree.Part.TheVariants.{Premise, Conjecture}
use Rattle.nxf_base.specs.declared.status.RoleKind.TheVariants.{Unknown, TwoConjectures}
use Rattle.nxf_base.specs.declared.status.SpecKind.TheVariants.{Absent, Two, NotModal, UnknownKey, DuplicateKey, UnknownValue, NoModalities}
use Rattle.nxf_base.specs.declared.status.SortKind.TheVariants.{DoubleName, UnknownSort, Mismatch, FreeVariable, UnknownOverride}
use Rattle.nxf_tree.specs.Shapes.{And2, Name0}
use Rattle.nxf_tree.specs.Signature.{is_constant, is_flexible}
use Rattle.nxf_tree.specs.SpecificationWords.{regime_named, designation_named, locality_named, system_named, axiom_named, same_scheme}
use Rattle.nxf_tree.specs.Specification.{setting_of, takes_key}
use Rattle.nxf_tree.specs.Parts.{parts_of}
use Rattle.nxf_tree.specs.Problem.{role_named, statement_of}
use Rattle.nxf_tree.specs.Profile.{RefusedRole, RefusedSpec, RefusedSort}
use Rattle.worked_cases.proofs.CaseTrees.{setting, settings, modalities, logic, system_k, conjecture, suffixed, file_of, var, nullary, unary, binary, for_all, symbol, sort, sort_entry, constant, signature_in}

no_logic : signature_in (file_of ([])) ≡ Err (RefusedSpec Absent)
unfolding regime_named designation_named locality_named system_named axiom_named same_scheme setting_of takes_key out-SpecValue out-SpecItem roll-SpecValue roll-SpecItem denote.Hole.Carrier.out denote.Hole.Carrier.roll shown-the_row-SpecItem-0 denote.Hole.Carrier.shown denote.Hole.Carrier.hidden is_constant is_flexible hidden-the_row-Term-0
no_logic = refl

second_logic : signature_in (file_of (conjecture (nullary (codes "p")) ∷ system_k ∷ system_k ∷ [])) ≡ Err (RefusedSpec (Two 3))
unfolding regime_named designation_named locality_named system_named axiom_named same_scheme setting_of takes_key out-SpecValue out-SpecItem roll-SpecValue roll-SpecItem denote.Hole.Carrier.out denote.Hole.Carrier.roll shown-the_row-SpecItem-0 denote.Hole.Carrier.shown denote.Hole.Carrier.hidden is_constant is_flexible hidden-the_row-Term-0
second_logic = refl

-- roles
two_conjectures : signature_in (file_of (system_k ∷ conjecture (nullary (codes "p")) ∷ conjecture (nullary (codes "p")) ∷ [])) ≡ Err (RefusedRole TwoConjectures 3)
unfolding regime_named designation_named locality_named system_named axiom_named same_scheme setting_of takes_key out-SpecValue out-SpecItem roll-SpecValue roll-SpecItem denote.Hole.Carrier.out denote.Hole.Carrier.roll shown-the_row-SpecItem-0 denote.Hole.Carrier.shown denote.Hole.Carrier.hidden is_constant is_flexible hidden-the_row-Term-0
two_conjectures = refl

unknown_role : signature_in (file_of (system_k ∷ statement_of (codes "c") (codes "question") (nullary (codes "p")) ∷ [])) ≡ Err (RefusedRole Unknown 2)
unfolding regime_named designation_named locality_named system_named axiom_named same_scheme setting_of takes_key out-SpecValue out-SpecItem roll-SpecValue roll-SpecItem denote.Hole.Carrier.out denote.Hole.Carrier.roll shown-the_row-SpecItem-0 denote.Hole.Carrier.shown denote.Hole.Carrier.hidden is_constant is_flexible hidden-the_row-Term-0
unknown_role = refl

-- a conjecture with an unknown suffix has an unknown role, and roles come before the specification
unknown_suffix : signature_in (file_of (conjecture (nullary (codes "p")) ∷ suffixed (codes "c") (codes "conjecture") (codes "x") (nullary (codes "p")) ∷ conjecture (nullary (codes "p")) ∷ [])) ≡ Err (RefusedRole Unknown 2)
unfolding regime_named designation_named locality_named system_named axiom_named same_scheme setting_of takes_key out-SpecValue out-SpecItem roll-SpecValue roll-SpecItem denote.Hole.Carrier.out denote.Hole.Carrier.roll shown-the_row-SpecItem-0 denote.Hole.Carrier.shown denote.Hole.Carrier.hidden is_constant is_flexible hidden-the_row-Term-0
unknown_suffix = refl

parts : parts_of (file_of (system_k ∷ statement_of (codes "a") (codes "lemma") (nullary (codes "p")) ∷ sort (codes "s") ∷ statement_of (codes "h") (codes "plain") (nullary (codes "p")) ∷ suffixed (codes "c") (codes "conjecture") (codes "global") (nullary (codes "p")) ∷ [])) ≡ Ok (
    record { place = 2; part = Premise Everywhere } ∷ record { place = 4; part = Premise Here } ∷ record { place = 5; part = Conjecture Everywhere } ∷ [])
unfolding regime_named designation_named locality_named system_named axiom_named same_scheme setting_of takes_key out-SpecValue out-SpecItem roll-SpecValue roll-SpecItem denote.Hole.Carrier.out denote.Hole.Carrier.roll shown-the_row-SpecItem-0 denote.Hole.Carrier.shown denote.Hole.Carrier.hidden is_constant is_flexible hidden-the_row-Term-0
parts = refl

-- the logic statement
not_modal : signature_in (file_of (Annotated (codes "l") (role_named (codes "logic")) (IsLogic (record { logic = codes "$alethic_modal"; entries = [] })) ∷ [])) ≡ Err (RefusedSpec NotModal)
unfolding regime_named designation_named locality_named system_named axiom_named same_scheme setting_of takes_key out-SpecValue out-SpecItem roll-SpecValue roll-SpecItem denote.Hole.Carrier.out denote.Hole.Carrier.roll shown-the_row-SpecItem-0 denote.Hole.Carrier.shown denote.Hole.Carrier.hidden is_constant is_flexible hidden-the_row-Term-0
not_modal = refl

no_modalities : signature_in (file_of (logic (setting (codes "$domains") (codes "$constant") ∷ []) ∷ [])) ≡ Err (RefusedSpec NoModalities)
unfolding regime_named designation_named locality_named system_named axiom_named same_scheme setting_of takes_key out-SpecValue out-SpecItem roll-SpecValue roll-SpecItem denote.Hole.Carrier.out denote.Hole.Carrier.roll shown-the_row-SpecItem-0 denote.Hole.Carrier.shown denote.Hole.Carrier.hidden is_constant is_flexible hidden-the_row-Term-0
no_modalities = refl

unknown_key : signature_in (file_of (logic (setting (codes "$worlds") (codes "$constant") ∷ modalities (codes "$nothing") ∷ []) ∷ [])) ≡ Err (RefusedSpec (UnknownKey (codes "$worlds")))
unfolding regime_named designation_named locality_named system_named axiom_named same_scheme setting_of takes_key out-SpecValue out-SpecItem roll-SpecValue roll-SpecItem denote.Hole.Carrier.out denote.Hole.Carrier.roll shown-the_row-SpecItem-0 denote.Hole.Carrier.shown denote.Hole.Carrier.hidden is_constant is_flexible hidden-the_row-Term-0
unknown_key = refl

-- a key is judged before its value
duplicate_key : signature_in (file_of (logic (modalities (codes "$modal_system_K") ∷ modalities (codes "$nothing") ∷ []) ∷ [])) ≡ Err (RefusedSpec (DuplicateKey (codes "$modalities")))
unfolding regime_named designation_named locality_named system_named axiom_named same_scheme setting_of takes_key out-SpecValue out-SpecItem roll-SpecValue roll-SpecItem denote.Hole.Carrier.out denote.Hole.Carrier.roll shown-the_row-SpecItem-0 denote.Hole.Carrier.shown denote.Hole.Carrier.hidden is_constant is_flexible hidden-the_row-Term-0
duplicate_key = refl

unknown_word : signature_in (file_of (logic (modalities (codes "$modal_system_K") ∷ setting (codes "$domains") (codes "$rigid") ∷ []) ∷ [])) ≡ Err (RefusedSpec (UnknownValue (codes "$domains")))
unfolding regime_named designation_named locality_named system_named axiom_named same_scheme setting_of takes_key out-SpecValue out-SpecItem roll-SpecValue roll-SpecItem denote.Hole.Carrier.out denote.Hole.Carrier.roll shown-the_row-SpecItem-0 denote.Hole.Carrier.shown denote.Hole.Carrier.hidden is_constant is_flexible hidden-the_row-Term-0
unknown_word = refl

empty_list : signature_in (file_of (logic (settings (codes "$modalities") [] ∷ []) ∷ [])) ≡ Err (RefusedSpec (UnknownValue (codes "$modalities")))
unfolding regime_named designation_named locality_named system_named axiom_named same_scheme setting_of takes_key out-SpecValue out-SpecItem roll-SpecValue roll-SpecItem denote.Hole.Carrier.out denote.Hole.Carrier.roll shown-the_row-SpecItem-0 denote.Hole.Carrier.shown denote.Hole.Carrier.hidden is_constant is_flexible hidden-the_row-Term-0
empty_list = refl

system_and_scheme : signature_in (file_of (logic (settings (codes "$modalities") (item.Word (codes "$modal_system_K") ∷ item.Word (codes "$modal_axiom_T") ∷ []) ∷ []) ∷ [])) ≡ Err (RefusedSpec (UnknownValue (codes "$modalities")))
unfolding regime_named designation_named locality_named system_named axiom_named same_scheme setting_of takes_key out-SpecValue out-SpecItem roll-SpecValue roll-SpecItem denote.Hole.Carrier.out denote.Hole.Carrier.roll shown-the_row-SpecItem-0 denote.Hole.Carrier.shown denote.Hole.Carrier.hidden is_constant is_flexible hidden-the_row-Term-0
system_and_scheme = refl

two_defaults : signature_in (file_of (logic (settings (codes "$domains") (item.Word (codes "$constant") ∷ item.Word (codes "$varying") ∷ []) ∷ []) ∷ [])) ≡ Err (RefusedSpec (UnknownValue (codes "$domains")))
unfolding regime_named designation_named locality_named system_named axiom_named same_scheme setting_of takes_key out-SpecValue out-SpecItem roll-SpecValue roll-SpecItem denote.Hole.Carrier.out denote.Hole.Carrier.roll shown-the_row-SpecItem-0 denote.Hole.Carrier.shown denote.Hole.Carrier.hidden is_constant is_flexible hidden-the_row-Term-0
two_defaults = refl

duplicate_override : signature_in (file_of (logic (settings (codes "$modalities") (Entry (record { key = Index (Named (codes "a")); value = Word (codes "$modal_system_K") }) ∷ Entry (record { key = Index (Named (codes "a")); value = Word (codes "$nothing") }) ∷ []) ∷ []) ∷ [])) ≡ Err (RefusedSpec (DuplicateKey (codes "[#a]")))
unfolding regime_named designation_named locality_named system_named axiom_named same_scheme setting_of takes_key out-SpecValue out-SpecItem roll-SpecValue roll-SpecItem denote.Hole.Carrier.out denote.Hole.Carrier.roll shown-the_row-SpecItem-0 denote.Hole.Carrier.shown denote.Hole.Carrier.hidden is_constant is_flexible hidden-the_row-Term-0
duplicate_override = refl

-- only modalities take a list in an override
override_with_list : signature_in (file_of (logic (settings (codes "$terms") (Entry (record { key = Name (codes "f"); value = Items (item.Word (codes "$local") ∷ []) }) ∷ []) ∷ []) ∷ [])) ≡ Err (RefusedSpec (UnknownValue (codes "$terms")))
unfolding regime_named designation_named locality_named system_named axiom_named same_scheme setting_of takes_key out-SpecValue out-SpecItem roll-SpecValue roll-SpecItem denote.Hole.Carrier.out denote.Hole.Carrier.roll shown-the_row-SpecItem-0 denote.Hole.Carrier.shown denote.Hole.Carrier.hidden is_constant is_flexible hidden-the_row-Term-0
override_with_list = refl

override_of_index : signature_in (file_of (logic (settings (codes "$domains") (Entry (record { key = Index Plain; value = Word (codes "$varying") }) ∷ []) ∷ []) ∷ [])) ≡ Err (RefusedSpec (UnknownValue (codes "$domains")))
unfolding regime_named designation_named locality_named system_named axiom_named same_scheme setting_of takes_key out-SpecValue out-SpecItem roll-SpecValue roll-SpecItem denote.Hole.Carrier.out denote.Hole.Carrier.roll shown-the_row-SpecItem-0 denote.Hole.Carrier.shown denote.Hole.Carrier.hidden is_constant is_flexible hidden-the_row-Term-0
override_of_index = refl

-- overrides name a declared sort or a function symbol; `$i` is always accepted
unknown_override : signature_in (file_of (logic (settings (codes "$domains") (Entry (record { key = Name (codes "z"); value = Word (codes "$varying") }) ∷ []) ∷ modalities (codes "$modal_system_K") ∷ []) ∷ [])) ≡ Err (RefusedSort UnknownOverride 1 (codes "z"))
unfolding regime_named designation_named locality_named system_named axiom_named same_scheme setting_of takes_key out-SpecValue out-SpecItem roll-SpecValue roll-SpecItem denote.Hole.Carrier.out denote.Hole.Carrier.roll shown-the_row-SpecItem-0 denote.Hole.Carrier.shown denote.Hole.Carrier.hidden is_constant is_flexible hidden-the_row-Term-0
unknown_override = refl

override_of_predicate : signature_in (file_of (logic (settings (codes "$designation") (Entry (record { key = Name (codes "p"); value = Word (codes "$rigid") }) ∷ []) ∷ modalities (codes "$modal_system_K") ∷ []) ∷ conjecture (nullary (codes "p")) ∷ [])) ≡ Err (RefusedSort UnknownOverride 1 (codes "p"))
unfolding regime_named designation_named locality_named system_named axiom_named same_scheme setting_of takes_key out-SpecValue out-SpecItem roll-SpecValue roll-SpecItem denote.Hole.Carrier.out denote.Hole.Carrier.roll shown-the_row-SpecItem-0 denote.Hole.Carrier.shown denote.Hole.Carrier.hidden is_constant is_flexible hidden-the_row-Term-0
override_of_predicate = refl

override_of_individual : signature_in (file_of (logic (settings (codes "$domains") (Entry (record { key = Dollar (codes "$i"); value = Word (codes "$varying") }) ∷ []) ∷ modalities (codes "$modal_system_K") ∷ []) ∷ [])) ≡ Ok (record { sorts = []; symbols = []; indexes = [] })
unfolding regime_named designation_named locality_named system_named axiom_named same_scheme setting_of takes_key out-SpecValue out-SpecItem roll-SpecValue roll-SpecItem denote.Hole.Carrier.out denote.Hole.Carrier.roll shown-the_row-SpecItem-0 denote.Hole.Carrier.shown denote.Hole.Carrier.hidden is_constant is_flexible hidden-the_row-Term-0
override_of_individual = refl

-- formulas
free_variable : signature_in (file_of (system_k ∷ conjecture (unary (codes "p") (var (codes "X"))) ∷ [])) ≡ Err (RefusedSort FreeVariable 2 (codes "X"))
unfolding regime_named designation_named locality_named system_named axiom_named same_scheme setting_of takes_key out-SpecValue out-SpecItem roll-SpecValue roll-SpecItem denote.Hole.Carrier.out denote.Hole.Carrier.roll shown-the_row-SpecItem-0 denote.Hole.Carrier.shown denote.Hole.Carrier.hidden is_constant is_flexible hidden-the_row-Term-0
free_variable = refl

two_arities : signature_in (file_of (system_k ∷ conjecture (And2 (unary (codes "p") (Name0 (codes "a"))) (binary (codes "p") (Name0 (codes "a")) (Name0 (codes "a")))) ∷ [])) ≡ Err (RefusedSort DoubleName 2 (codes "p"))
unfolding regime_named designation_named locality_named system_named axiom_named same_scheme setting_of takes_key out-SpecValue out-SpecItem roll-SpecValue roll-SpecItem denote.Hole.Carrier.out denote.Hole.Carrier.roll shown-the_row-SpecItem-0 denote.Hole.Carrier.shown denote.Hole.Carrier.hidden is_constant is_flexible hidden-the_row-Term-0
two_arities = refl

two_kinds : signature_in (file_of (system_k ∷ conjecture (And2 (unary (codes "p") (Name0 (codes "a"))) (nullary (codes "a"))) ∷ [])) ≡ Err (RefusedSort DoubleName 2 (codes "a"))
unfolding regime_named designation_named locality_named system_named axiom_named same_scheme setting_of takes_key out-SpecValue out-SpecItem roll-SpecValue roll-SpecItem denote.Hole.Carrier.out denote.Hole.Carrier.roll shown-the_row-SpecItem-0 denote.Hole.Carrier.shown denote.Hole.Carrier.hidden is_constant is_flexible hidden-the_row-Term-0
two_kinds = refl

declared_otherwise : signature_in (file_of (system_k ∷ symbol (codes "p") (Individual ∷ []) None ∷ conjecture (nullary (codes "p")) ∷ [])) ≡ Err (RefusedSort Mismatch 3 (codes "p"))
unfolding regime_named designation_named locality_named system_named axiom_named same_scheme setting_of takes_key out-SpecValue out-SpecItem roll-SpecValue roll-SpecItem denote.Hole.Carrier.out denote.Hole.Carrier.roll shown-the_row-SpecItem-0 denote.Hole.Carrier.shown denote.Hole.Carrier.hidden is_constant is_flexible hidden-the_row-Term-0
declared_otherwise = refl

sort_as_symbol : signature_in (file_of (system_k ∷ sort (codes "s") ∷ conjecture (nullary (codes "s")) ∷ [])) ≡ Err (RefusedSort DoubleName 3 (codes "s"))
unfolding regime_named designation_named locality_named system_named axiom_named same_scheme setting_of takes_key out-SpecValue out-SpecItem roll-SpecValue roll-SpecItem denote.Hole.Carrier.out denote.Hole.Carrier.roll shown-the_row-SpecItem-0 denote.Hole.Carrier.shown denote.Hole.Carrier.hidden is_constant is_flexible hidden-the_row-Term-0
sort_as_symbol = refl

unknown_sort_of_variable : signature_in (file_of (system_k ∷ conjecture (for_all (codes "X") (User (codes "s")) (nullary (codes "p"))) ∷ [])) ≡ Err (RefusedSort UnknownSort 2 (codes "s"))
unfolding regime_named designation_named locality_named system_named axiom_named same_scheme setting_of takes_key out-SpecValue out-SpecItem roll-SpecValue roll-SpecItem denote.Hole.Carrier.out denote.Hole.Carrier.roll shown-the_row-SpecItem-0 denote.Hole.Carrier.shown denote.Hole.Carrier.hidden is_constant is_flexible hidden-the_row-Term-0
unknown_sort_of_variable = refl

-- an argument is judged whole and then compared, before the next
wrong_argument : signature_in (file_of (system_k ∷ sort (codes "s") ∷ symbol (codes "p") (User (codes "s") ∷ Individual ∷ []) None ∷ conjecture (binary (codes "p") (Name0 (codes "a")) (var (codes "X"))) ∷ [])) ≡ Err (RefusedSort Mismatch 4 (codes "p"))
unfolding regime_named designation_named locality_named system_named axiom_named same_scheme setting_of takes_key out-SpecValue out-SpecItem roll-SpecValue roll-SpecItem denote.Hole.Carrier.out denote.Hole.Carrier.roll shown-the_row-SpecItem-0 denote.Hole.Carrier.shown denote.Hole.Carrier.hidden is_constant is_flexible hidden-the_row-Term-0
wrong_argument = refl

wrong_sides : signature_in (file_of (system_k ∷ sort (codes "s") ∷ symbol (codes "a") [] (Some (User (codes "s"))) ∷ conjecture (Same (Name0 (codes "a")) (Name0 (codes "b"))) ∷ [])) ≡ Err (RefusedSort Mismatch 4 (codes "="))
unfolding regime_named designation_named locality_named system_named axiom_named same_scheme setting_of takes_key out-SpecValue out-SpecItem roll-SpecValue roll-SpecItem denote.Hole.Carrier.out denote.Hole.Carrier.roll shown-the_row-SpecItem-0 denote.Hole.Carrier.shown denote.Hole.Carrier.hidden is_constant is_flexible hidden-the_row-Term-0
wrong_sides = refl

-- type statements
declared_twice : signature_in (file_of (sort (codes "s") ∷ symbol (codes "a") [] (Some Individual) ∷ symbol (codes "a") [] (Some (User (codes "s"))) ∷ system_k ∷ [])) ≡ Err (RefusedSort DoubleName 3 (codes "a"))
unfolding regime_named designation_named locality_named system_named axiom_named same_scheme setting_of takes_key out-SpecValue out-SpecItem roll-SpecValue roll-SpecItem denote.Hole.Carrier.out denote.Hole.Carrier.roll shown-the_row-SpecItem-0 denote.Hole.Carrier.shown denote.Hole.Carrier.hidden is_constant is_flexible hidden-the_row-Term-0
declared_twice = refl

declared_as_both : signature_in (file_of (system_k ∷ symbol (codes "s") [] None ∷ sort (codes "s") ∷ [])) ≡ Err (RefusedSort DoubleName 3 (codes "s"))
unfolding regime_named designation_named locality_named system_named axiom_named same_scheme setting_of takes_key out-SpecValue out-SpecItem roll-SpecValue roll-SpecItem denote.Hole.Carrier.out denote.Hole.Carrier.roll shown-the_row-SpecItem-0 denote.Hole.Carrier.shown denote.Hole.Carrier.hidden is_constant is_flexible hidden-the_row-Term-0
declared_as_both = refl

unknown_sort_of_type : signature_in (file_of (system_k ∷ symbol (codes "f") (Individual ∷ User (codes "s") ∷ []) (Some (User (codes "r"))) ∷ [])) ≡ Err (RefusedSort UnknownSort 2 (codes "s"))
unfolding regime_named designation_named locality_named system_named axiom_named same_scheme setting_of takes_key out-SpecValue out-SpecItem roll-SpecValue roll-SpecItem denote.Hole.Carrier.out denote.Hole.Carrier.roll shown-the_row-SpecItem-0 denote.Hole.Carrier.shown denote.Hole.Carrier.hidden is_constant is_flexible hidden-the_row-Term-0
unknown_sort_of_type = refl

declared_equally : signature_in (file_of (system_k ∷ symbol (codes "a") [] (Some Individual) ∷ symbol (codes "a") [] (Some Individual) ∷ [])) ≡ Ok (record { sorts = sort_entry Individual Constant ∷ []; symbols = constant (codes "a") 0 Rigid Local ∷ []; indexes = [] })
unfolding regime_named designation_named locality_named system_named axiom_named same_scheme setting_of takes_key out-SpecValue out-SpecItem roll-SpecValue roll-SpecItem denote.Hole.Carrier.out denote.Hole.Carrier.roll shown-the_row-SpecItem-0 denote.Hole.Carrier.shown denote.Hole.Carrier.hidden is_constant is_flexible hidden-the_row-Term-0
declared_equally = refl
