-- Look-ups in tables are those of the definitions.
use Rattle.std.proofs.Common.{◌≡◌, ℕ, Bool, true, false, List, [], ◌∷◌, ◌++◌, None, Some, refl, ap, ◌∙◌}
use Rattle.std.specs.Prelude.{if◌then◌else◌, ◌||◌, is_some}
use Rattle.std.specs.List.{list_any}
use Rattle.indexmap.specs.IndexSet.{insert_key}
use Rattle.std.specs.Map.{lookup}
use Rattle.nxf_tree.specs.declared.tree.Typing.TheVariants.{Individual as IsIndividual, Sort, Symbol}
use Rattle.nxf_tree.specs.declared.tree.Body.TheVariants.{Formula as IsFormula, Typing as IsTyping, Logic as IsLogic}
use Rattle.nxf_tree.specs.declared.tree.Statement.{Statement}
use Rattle.nxf_tree.specs.declared.tree.Statement.TheVariants.{Annotated, Include}
use Rattle.nxf_tree.specs.Names.{same_text}
use Rattle.nxf_tree.specs.Sorting.{SymbolType}
use Rattle.nxf_tree.specs.Occurrences.{Use}
use Rattle.nxf_tree.specs.SignatureOf.{same_symbol, type_in}
use Rattle.name_laws.proofs.SameNames.{same_text-sym}
use Rattle.nxf_signatures.specs.steps.Tables.{use_of, uses_in, sort_texts}

pub lookup_is : (entries : List (List ℕ × SymbolType)) (f : List ℕ) → lookup (same_text f) entries ≡ type_in (uses_in entries) f
lookup_is [] f = refl
lookup_is (e ∷ entries) f = λ i. if same_text-sym f e.0 i then Some e.1 else lookup_is entries f i

-- a symbol is among the uses exactly where it has a type in them
pub any_is : (us : List Use) (u : Use) → list_any (same_symbol u) us ≡ is_some (type_in us u.name)
any_is [] u = refl
any_is (v ∷ us) u = (λ i. same_text-sym u.name v.name i || any_is us u i) ∙ by (same_text v.name u.name)
  where
    by : (b : Bool) → b || is_some (type_in us u.name) ≡ is_some (if b then Some v.type else type_in us u.name)
    by true = refl
    by false = refl

-- a symbol that is there stays where it is, and a new one goes last
pub put_there : (us : List Use) (u : Use) (t : SymbolType) → type_in us u.name ≡ Some t → insert_key same_symbol us u ≡ us
put_there us u t h = ap (λ b. if b then us else us ++ u ∷ []) (any_is us u ∙ ap is_some h)

pub put_new : (us : List Use) (u : Use) → type_in us u.name ≡ None → insert_key same_symbol us u ≡ us ++ u ∷ []
put_new us u h = ap (λ b. if b then us else us ++ u ∷ []) (any_is us u ∙ ap is_some h)

pub uses_in-append : (a b : List (List ℕ × SymbolType)) → uses_in (a ++ b) ≡ uses_in a ++ uses_in b
uses_in-append [] b = refl
uses_in-append (e ∷ a) b = ap (λ us. use_of e ∷ us) (uses_in-append a b)

pub sort_texts-append : (ss ts : List Statement) → sort_texts (ss ++ ts) ≡ sort_texts ss ++ sort_texts ts
sort_texts-append [] ts = refl
sort_texts-append (Annotated name role (IsTyping (Sort s)) ∷ ss) ts = ap (λ l. s ∷ l) (sort_texts-append ss ts)
sort_texts-append (Annotated name role (IsTyping (Symbol f args gives)) ∷ ss) ts = sort_texts-append ss ts
sort_texts-append (Annotated name role (IsTyping IsIndividual) ∷ ss) ts = sort_texts-append ss ts
sort_texts-append (Annotated name role (IsFormula f) ∷ ss) ts = sort_texts-append ss ts
sort_texts-append (Annotated name role (IsLogic l) ∷ ss) ts = sort_texts-append ss ts
sort_texts-append (Include file names ∷ ss) ts = sort_texts-append ss ts
