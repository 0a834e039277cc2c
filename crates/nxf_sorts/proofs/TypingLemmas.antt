-- Type statements are judged by the tables of what is declared before them.
use Rattle.std.proofs.Common.{◌≡◌, ℕ, suc, ◌+◌, List, [], ◌∷◌, ◌++◌, Option, None, Some, refl, sym, ap, ◌∙◌, subst, arith}
use Rattle.std.specs.Prelude.{◌||◌, map, if◌then◌else◌, is_some, Result, Ok, Err}
use Rattle.std.specs.Result.{IsErrAnd}
use Rattle.std.specs.Option.{option_map, option_or}
use Rattle.std.specs.List.{list_any}
use Rattle.indexmap.specs.IndexSet.{insert_all}
use Rattle.nxf_base.specs.declared.status.SortKind.TheVariants.{DoubleName}
use Rattle.nxf_tree.specs.declared.tree.SortName.{SortName}
use Rattle.nxf_tree.specs.declared.tree.SortName.TheVariants.{User}
use Rattle.nxf_tree.specs.declared.tree.Typing.{Typing}
use Rattle.nxf_tree.specs.declared.tree.Typing.TheVariants.{Individual as IsIndividual, Sort, Symbol}
use Rattle.nxf_tree.specs.declared.tree.Body.TheVariants.{Formula as IsFormula, Typing as IsTyping, Logic as IsLogic}
use Rattle.nxf_tree.specs.declared.tree.Statement.{Statement}
use Rattle.nxf_tree.specs.declared.tree.Statement.TheVariants.{Annotated, Include}
use Rattle.nxf_tree.specs.Names.{same_text}
use Rattle.nxf_tree.specs.Counting.{has}
use Rattle.nxf_tree.specs.Signature.{same_sort}
use Rattle.nxf_tree.specs.Faults.{first_fault}
use Rattle.nxf_tree.specs.Sorting.{Language}
use Rattle.nxf_tree.specs.Occurrences.{declared, declared_sorts}
use Rattle.nxf_tree.specs.SignatureOf.{firsts, same_symbol, type_in}
use Rattle.nxf_tree.specs.SortFaults.{SortFault, unknown_sort, unknown_sorts, declared_again, typing_fault, type_statement_fault}
use Rattle.name_laws.proofs.Spelling.{same_text-true, both_ways, true-false}
use Rattle.name_laws.proofs.Firsts.{split_bool, firsts-none, has-firsts}
use Rattle.name_laws.proofs.SameNames.{same_text-sym}
use Rattle.nxf_signatures.specs.declared.declarations.Declarations.{Declarations}
use Rattle.nxf_signatures.specs.steps.Tables.{uses_in, sort_texts}
use Rattle.nxf_signatures.proofs.CallerLemmas.{texts_noted, symbols_noted, type_first, sorts_are}
use Rattle.nxf_sorts.specs.declared.error.SortError.{SortError}
use Rattle.nxf_sorts.specs.declared.fault.Fault.{Fault}
use Rattle.nxf_sorts.specs.Judging.{Judges, IsFileFault, typing_after, statement_after}
use Rattle.nxf_sorts.specs.steps.Numbering.{IsFault}

any_has : (f : List ℕ) (xs : List (List ℕ)) → list_any (same_text f) xs ≡ has same_text f xs
any_has f [] = refl
any_has f (x ∷ xs) = λ i. same_text-sym f x i || any_has f xs i

users_have : (f : List ℕ) (xs : List (List ℕ)) → has same_text f xs ≡ has same_sort (User f) (map User xs)
users_have f [] = refl
users_have f (x ∷ xs) = ap (λ b. same_text x f || b) (users_have f xs)

firsts_have : (f : List ℕ) (xs : List (List ℕ)) → has same_text f (firsts same_text xs) ≡ has same_text f xs
firsts_have f xs = both_ways _ _
    (λ h. split_bool (has same_text f xs) (λ e. e) (λ e. absurd (true-false (sym h ∙ firsts-none same_text f xs e))))
    (λ h. has-firsts same_text (λ x y z e. ap (same_text x) (same_text-true y z e)) f xs h)

module _ (L : Language) (d : Declarations) (before : List Statement) (texts : d.sorts.keys ≡ insert_all same_text [] (sort_texts before)) (own : uses_in d.symbols.entries ≡ insert_all same_symbol [] (declared before)) where
  type_before : (f : List ℕ) → type_in (uses_in d.symbols.entries) f ≡ type_in (declared before) f
  type_before f = ap (λ us. type_in us f) (own ∙ symbols_noted (declared before)) ∙ type_first (declared before) f

  sort_before : (f : List ℕ) → list_any (same_text f) d.sorts.keys ≡ has same_sort (User f) (declared_sorts before)
  sort_before f =
      ap (list_any (same_text f)) (texts ∙ texts_noted (sort_texts before))
      ∙ any_has f (firsts same_text (sort_texts before))
      ∙ firsts_have f (sort_texts before)
      ∙ users_have f (sort_texts before)
      ∙ ap (has same_sort (User f)) (sym (sorts_are before))

  typing_is : (t : Typing) → typing_after L d t ≡ typing_fault L before t
  typing_is IsIndividual = refl
  typing_is (Sort s) = ap (λ o. if is_some o then Some (DoubleName, s) else None) (type_before s)
  typing_is (Symbol f args gives) = λ i. if sort_before f i then Some (DoubleName, f) else declared_again L f (record { args = args; gives = gives }) (type_before f i)

  pub statement_is : (s : Statement) → statement_after L d s ≡ type_statement_fault L before s
  statement_is (Annotated name role (IsTyping t)) = typing_is t
  statement_is (Annotated name role (IsFormula f)) = refl
  statement_is (Annotated name role (IsLogic l)) = refl
  statement_is (Include file names) = refl

-- the sorts of a type: of the arguments, and then of the value
pub unknown_parts : (L : Language) (ss rs : List SortName) → unknown_sorts L (ss ++ rs) ≡ option_or (unknown_sorts L ss) (unknown_sorts L rs)
unknown_parts L [] rs = refl
unknown_parts L (s ∷ ss) rs = ap (option_or (unknown_sort L s)) (unknown_parts L ss rs) ∙ or_assoc (unknown_sort L s) (unknown_sorts L ss) (unknown_sorts L rs)
  where
    or_assoc : (x y z : Option SortFault) → option_or x (option_or y z) ≡ option_or (option_or x y) z
    or_assoc None y z = refl
    or_assoc (Some f) y z = refl

-- the first fault in a row of statements
module _ (judge : List Statement → Statement → Option SortFault) (k : ℕ) (before : List Statement) (s : Statement) (ss : List Statement) where
  pub fine_here : judge before s ≡ None → first_fault judge k before (s ∷ ss) ≡ first_fault judge (k + 1) (before ++ s ∷ []) ss
  fine_here h =
      let next : suc k ≡ k + 1 = omega arith in
      ap (λ o. option_or (option_map (λ (f : SortFault). (k, f)) o) (first_fault judge (suc k) (before ++ s ∷ []) ss)) h ∙ ap (λ n. first_fault judge n (before ++ s ∷ []) ss) next

  pub refused_here : (e : SortError) → IsFileFault (option_map (λ (f : SortFault). (k, f)) (judge before s)) e → IsFileFault (first_fault judge k before (s ∷ ss)) e
  refused_here e h = first _ _ e h
    where
      first : (o p : Option (ℕ × SortFault)) (e : SortError) → IsFileFault o e → IsFileFault (option_or o p) e
      first o p (SortError.Kind kind place name) h = ap (λ q. option_or q p) h
      first o p SortError.Memory h = tt

-- the judge's answer on equal faults
pub judges_is : (o p : Option SortFault) (r : Result (Unit {0}) Fault) → o ≡ p → Judges p r → Judges o r
judges_is o p r is h = subst (λ q. Judges q r) (sym is) h

-- a judge ends with the fault that a judge in it ended with
pub judges_with : (r : Result (Unit {0}) Fault) (o : Option SortFault) (e : Fault) → IsErrAnd r (λ (x : Fault). x ≡ e) → IsFault o e → Judges o r
judges_with (Ok x) o e is h = absurd is
judges_with (Err x) o e is h = subst (IsFault o) (sym is) h

pub or_none : (o : Option SortFault) → option_or o None ≡ o
or_none None = refl
or_none (Some f) = refl
