-- Terms, formulas and statements that are regular, and need few levels.
use Rattle.std.proofs.Common.{◌≡◌, ℕ, zero, suc, ◌<◌, ◌≤◌, Bool, true, false, cond, ◌&&◌, List, [], ◌∷◌, ◌++◌, map, length, refl, sym, subst, ◌∙◌, arith}
use Rattle.std.specs.Prelude.{codes, flat_map, nat_le}
use Rattle.std.specs.List.{list_all, AllByRecursion}
use Rattle.std.proofs.lemmas.Bool.{and_parts, and_from, le-leb}
use Rattle.std.proofs.lemmas.Grind.{flat_map-append}
use Rattle.std.proofs.lemmas.List.Folds.{list_all-append}
use Rattle.nxf_base.specs.Bytes.{is_printable_byte, is_printable_text}
use Rattle.nxf_tree.specs.Profiles.{Allowed}
use Rattle.nxf_tree.specs.declared.tree.SortName.{SortName}
use Rattle.nxf_tree.specs.declared.tree.SortName.TheVariants.{Individual, User}
use Rattle.nxf_tree.specs.declared.tree.Term.{Term, App}
use Rattle.nxf_tree.specs.declared.tree.Formula.{Formula, Atom, Same}
use Rattle.nxf_tree.specs.declared.tree.Typing.{Typing}
use Rattle.nxf_tree.specs.declared.tree.Statement.{Statement}
use Rattle.nxf_tree.specs.Shapes.{Name0, Not1}
use Rattle.nxf_tree.specs.Rows.{numbers_below}
use Rattle.nxf_tree.specs.Text.{has_brackets}
use Rattle.nxf_tree.specs.Problem.{declaration, classical_sort_at}
use Rattle.nxf_tree.specs.RegularFormulas.{is_regular_sort, is_regular_term, is_regular_list, is_regular_formula, is_regular_formula_list}
use Rattle.nxf_tree.specs.Regular.{is_regular_typing, is_regular_statement}
use Rattle.syntax_definitions.specs.Levels.{term_levels, list_levels, with_brackets, formula_levels, unit_list_levels, statement_levels, statement_list_levels}
use Rattle.syntax_definitions.proofs.CallerLemmas.{regular_App}
use Rattle.syntax_definitions.proofs.CallerLemmas.{levels_of_App}
use Rattle.plain_tokens.proofs.MarksLexed.{numbered_print}
use Rattle.printed_problem_laws.proofs.PrintedAxioms.{all_append}
use Rattle.interpretation_text_definitions.specs.ElementNames.{stem_of, element_name}
use Rattle.interpretation_text_definitions.specs.InterpretationText.{axiom_named, joined}

-- ---- names of elements

all_printable : (a : List ℕ) → is_printable_text a ≡ true → list_all is_printable_byte a ≡ true
all_printable [] h = refl
all_printable (b ∷ bs) h = h

stem_printable : (k : ℕ) (s : SortName) → is_regular_sort s ≡ true → is_printable_text (stem_of k s) ≡ true
stem_printable zero s h = refl
stem_printable (suc k) Individual h = refl
stem_printable (suc k) (User s) h = list_all-append is_printable_byte s (codes "_") ∙ and_from (list_all is_printable_byte s) true (all_printable s h) refl

sort_regular : (sorts : List SortName) (k : ℕ) → list_all is_regular_sort sorts ≡ true → is_regular_sort (classical_sort_at sorts k) ≡ true
sort_regular [] k h = refl
sort_regular (s ∷ sorts) zero h = (and_parts (is_regular_sort s) (list_all is_regular_sort sorts) h).0
sort_regular (s ∷ sorts) (suc k) h = sort_regular sorts k (and_parts (is_regular_sort s) (list_all is_regular_sort sorts) h).1

pub regular_sort_at : (sorts : List SortName) (k : ℕ) → list_all is_regular_sort sorts ≡ true → is_regular_sort (classical_sort_at sorts k) ≡ true
regular_sort_at sorts k h = sort_regular sorts k h

pub element_printable : (sorts : List SortName) (k n : ℕ) → list_all is_regular_sort sorts ≡ true → is_printable_text (element_name sorts k n) ≡ true
unfolding element_name
element_printable sorts k n h = numbered_print (stem_of k (classical_sort_at sorts k)) n (stem_printable k (classical_sort_at sorts k) (sort_regular sorts k h))

-- brackets are one level at most
pub bracket_level : (b : Bool) (n : ℕ) → with_brackets b n ≤ suc n
bracket_level true n = omega arith
bracket_level false n = omega arith

-- ---- facts of each in a list

pub all_map : {A B : Type 0} (P : B → Type 0) (f : A → B) (xs : List A) → ((x : A) → P (f x)) → AllByRecursion P (map f xs)
all_map P f [] h = tt
all_map P f (x ∷ xs) h = (h x, all_map P f xs h)

pub all_below : {A : Type 0} (P : A → Type 0) (f : ℕ → List A) (n : ℕ) → ((k : ℕ) → k < n → AllByRecursion P (f k)) → AllByRecursion P (flat_map f (numbers_below n))
all_below P f zero h = tt
all_below P f (suc n) h =
    subst (AllByRecursion P) (sym (flat_map-append f (numbers_below n) (n ∷ [])))
    (all_append P (flat_map f (numbers_below n)) (f n ++ []) (all_below P f n (λ k l. h k (omega arith))) (all_append P (f n) [] (h n (omega arith)) tt))

module _ (l : Allowed) where
  -- ---- terms

  -- a regular term without arguments
  pub record IsFineTerm (t : Term) : Type 0 where
    pub regular : is_regular_term l t ≡ true
    pub flat : term_levels t ≡ 0

  pub name_fine : (name : List ℕ) → is_printable_text name ≡ true → IsFineTerm (Name0 name)
  name_fine name h = record { regular = and_from (is_printable_text name) (nat_le 0 l.arguments && true) h (and_from (nat_le 0 l.arguments) true (le-leb 0 l.arguments (omega arith)) refl); flat = refl }

  pub terms_regular : (ts : List Term) → AllByRecursion IsFineTerm ts → is_regular_list l ts ≡ true
  terms_regular [] h = refl
  terms_regular (t ∷ ts) h = and_from (is_regular_term l t) (is_regular_list l ts) h.0.regular (terms_regular ts h.1)

  pub terms_low : (ts : List Term) → AllByRecursion IsFineTerm ts → list_levels ts ≤ 1
  terms_low [] h = omega arith
  terms_low (t ∷ ts) h = omega (arith, h.0.flat, terms_low ts h.1)

  -- ---- formulas

  -- regular, with few levels, and without brackets
  pub record IsFine (f : Formula) : Type 0 where
    pub regular : is_regular_formula l f ≡ true
    pub low : formula_levels f ≤ 2
    pub alone : has_brackets f ≡ false

  named_regular : (p : List ℕ) (ts : List Term) → is_printable_text p ≡ true → length ts ≤ l.arguments → AllByRecursion IsFineTerm ts → (is_printable_text p && (nat_le (length ts) l.arguments && is_regular_list l ts)) ≡ true
  named_regular p ts name few h =
      and_from (is_printable_text p) (nat_le (length ts) l.arguments && is_regular_list l ts) name
      (and_from (nat_le (length ts) l.arguments) (is_regular_list l ts) (le-leb (length ts) l.arguments few) (terms_regular ts h))

  pub signed_fine : (b : Bool) (p : List ℕ) (ts : List Term) → is_printable_text p ≡ true → length ts ≤ l.arguments → AllByRecursion IsFineTerm ts → IsFine (cond b (Atom p ts) (Not1 (Atom p ts)))
  signed_fine true p ts name few h = record { regular = named_regular p ts name few h; low = omega (arith, terms_low ts h); alone = refl }
  signed_fine false p ts name few h = record { regular = named_regular p ts name few h; low = omega (arith, terms_low ts h); alone = refl }

  pub equal_fine : (t u : Term) → IsFineTerm t → IsFineTerm u → IsFine (Same t u)
  equal_fine t u h k = record { regular = and_from (is_regular_term l t) (is_regular_term l u) h.regular k.regular; low = omega (arith, h.flat, k.flat); alone = refl }

  pub value_fine : (f : List ℕ) (ts : List Term) (u : Term) → is_printable_text f ≡ true → length ts ≤ l.arguments → AllByRecursion IsFineTerm ts → IsFineTerm u → IsFine (Same (App f ts) u)
  value_fine f ts u name few h k = record {
    regular = and_from (is_regular_term l (App f ts)) (is_regular_term l u) (regular_App l f ts ∙ named_regular f ts name few h) k.regular;
    low = omega (arith, levels_of_App f ts, terms_low ts h, k.flat);
    alone = refl;
  }

  members_regular : (fs : List Formula) → AllByRecursion IsFine fs → is_regular_formula_list l fs ≡ true
  members_regular [] h = refl
  members_regular (f ∷ fs) h = and_from (is_regular_formula l f) (is_regular_formula_list l fs) h.0.regular (members_regular fs h.1)

  unit_low : (b : Bool) (n : ℕ) → b ≡ false → with_brackets b n ≡ n
  unit_low true n e = absurd cc
  unit_low false n e = refl

  members_low : (fs : List Formula) → AllByRecursion IsFine fs → unit_list_levels fs ≤ 2
  members_low [] h = omega arith
  members_low (f ∷ fs) h = omega (arith, unit_low (has_brackets f) (formula_levels f) h.0.alone, h.0.low, members_low fs h.1)

  pub joined_regular : (join : List Formula → Formula) → ((fs : List Formula) → is_regular_formula l (join fs) ≡ (nat_le 2 (length fs) && is_regular_formula_list l fs)) → (fs : List Formula) → 0 < length fs → AllByRecursion IsFine fs → is_regular_formula l (joined join fs) ≡ true
  joined_regular join is [] some h = absurd (omega arith)
  joined_regular join is (f ∷ []) some h = h.0.regular
  joined_regular join is (f ∷ g ∷ fs) some h =
      is (f ∷ g ∷ fs) ∙ and_from (nat_le 2 (length (f ∷ g ∷ fs))) (is_regular_formula_list l (f ∷ g ∷ fs)) (le-leb 2 (length (f ∷ g ∷ fs)) (omega arith)) (members_regular (f ∷ g ∷ fs) h)

  pub joined_low : (join : List Formula → Formula) → ((fs : List Formula) → formula_levels (join fs) ≡ unit_list_levels fs) → (fs : List Formula) → 0 < length fs → AllByRecursion IsFine fs → formula_levels (joined join fs) ≤ 2
  joined_low join is [] some h = absurd (omega arith)
  joined_low join is (f ∷ []) some h = h.0.low
  joined_low join is (f ∷ g ∷ fs) some h = omega (arith, is (f ∷ g ∷ fs), members_low (f ∷ g ∷ fs) h)

  -- ---- statements

  pub record IsFineStatement (s : Statement) : Type 0 where
    pub regular : is_regular_statement l s ≡ true
    pub low : statement_levels s ≤ 4

  pub declaration_fine : (name : List ℕ) (typing : Typing) → is_printable_text name ≡ true → is_regular_typing l typing ≡ true → IsFineStatement (declaration name typing)
  declaration_fine name typing a b = record { regular = and_from (is_printable_text name) (is_regular_typing l typing) a b; low = omega arith }

  pub axiom_fine : (name : List ℕ) (f : Formula) → is_printable_text name ≡ true → is_regular_formula l f ≡ true → formula_levels f ≤ 4 → IsFineStatement (axiom_named name f)
  axiom_fine name f a b low = record { regular = and_from (is_printable_text name) (is_regular_formula l f) a b; low = low }

  pub statements_regular : (ss : List Statement) → AllByRecursion IsFineStatement ss → list_all (is_regular_statement l) ss ≡ true
  statements_regular [] h = refl
  statements_regular (s ∷ ss) h = and_from (is_regular_statement l s) (list_all (is_regular_statement l) ss) h.0.regular (statements_regular ss h.1)

  pub statements_low : (ss : List Statement) → AllByRecursion IsFineStatement ss → statement_list_levels ss ≤ 4
  statements_low [] h = omega arith
  statements_low (s ∷ ss) h = omega (arith, h.0.low, statements_low ss h.1)
