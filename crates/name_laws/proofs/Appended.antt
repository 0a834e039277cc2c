-- What lists of occurrences declare together.
use Rattle.std.proofs.Common.{◌≡◌, List, [], ◌∷◌, ◌++◌, refl, ap}
use Rattle.nxf_tree.specs.declared.tree.Typing.TheVariants.{Individual as IsIndividual, Sort, Symbol}
use Rattle.nxf_tree.specs.declared.tree.Body.TheVariants.{Formula as IsFormula, Typing as IsTyping, Logic as IsLogic}
use Rattle.nxf_tree.specs.declared.tree.Statement.{Statement}
use Rattle.nxf_tree.specs.declared.tree.Statement.TheVariants.{Annotated, Include}
use Rattle.nxf_tree.specs.Occurrences.{occurrences, declared}

pub declared-append : (ss ts : List Statement) → declared (ss ++ ts) ≡ declared ss ++ declared ts
declared-append [] ts = refl
declared-append (Annotated name role (IsTyping (Symbol f args gives)) ∷ ss) ts = ap (λ l. record { name = f; type = record { args = args; gives = gives } } ∷ l) (declared-append ss ts)
declared-append (Annotated name role (IsTyping (Sort s)) ∷ ss) ts = declared-append ss ts
declared-append (Annotated name role (IsTyping IsIndividual) ∷ ss) ts = declared-append ss ts
declared-append (Annotated name role (IsFormula f) ∷ ss) ts = declared-append ss ts
declared-append (Annotated name role (IsLogic l) ∷ ss) ts = declared-append ss ts
declared-append (Include file names ∷ ss) ts = declared-append ss ts
