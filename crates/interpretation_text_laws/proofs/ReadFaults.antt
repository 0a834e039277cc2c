-- No part of an interpretation that is printed has a fault, where its names stand for what they were printed for.
use Rattle.std.proofs.Common.{◌≡◌, ℕ, zero, suc, ◌<◌, Bool, true, false, List, [], ◌∷◌, ◌++◌, map, length, get_or, Option, None, Some, refl, sym, ap, ◌∙◌, arith}
use Rattle.std.specs.Prelude.{is_some, is_none, nat_eq, ◌||◌, ◌&&◌, not}
use Rattle.std.specs.List.{cons_option, list_any, list_all, AllByRecursion}
use Rattle.std.specs.Option.{option_map}
use Rattle.std.proofs.Math.Bool.{and-false, or-true}
use Rattle.std.proofs.lemmas.Bool.{eq-eqb, eqb-true}
use Rattle.std.proofs.lemmas.Option.{slice_get-get_or}
use Rattle.nxf_tree.specs.declared.tree.SortName.{SortName}
use Rattle.nxf_tree.specs.declared.tree.SortName.TheVariants.{Individual, User}
use Rattle.nxf_tree.specs.declared.tree.TableEntry.{TableEntry}
use Rattle.nxf_tree.specs.declared.tree.ClassicalSignature.{ClassicalSignature}
use Rattle.nxf_tree.specs.declared.tree.Typing.TheVariants.{Sort, Symbol}
use Rattle.nxf_tree.specs.Names.{same_text}
use Rattle.nxf_tree.specs.Signature.{same_sort}
use Rattle.nxf_tree.specs.Counting.{has, all_different}
use Rattle.nxf_tree.specs.Rows.{AllBelow, numbers_below, beside, size_at}
use Rattle.nxf_tree.specs.Problem.{classical_sort_at}
use Rattle.classical_signature_laws.specs.ClassicalSignatures.{GivesBelow}
use Rattle.name_laws.specs.NameLaws.{HasDifferentClassicalNames}
use Rattle.name_laws.proofs.SortedFormulas.{same_sort-refl}
use Rattle.name_laws.proofs.Spelling.{same_text-refl, never}
use Rattle.fin_struct.specs.Places.{InRange}
use Rattle.interpretation_definitions.specs.declared.element.Element.{Element}
use Rattle.interpretation_definitions.specs.Parts.{Plain, Part, Declares, Closes, Applies, Equates, AllDiffer}
use Rattle.interpretation_definitions.specs.Context.{Context, sort_number, symbols_of, element, is_listed, is_sort, symbol, is_known, is_extra, is_unknown}
use Rattle.interpretation_definitions.specs.Given.{Given, value_in, elements_of, numbers_of, bit, given_by}
use Rattle.interpretation_definitions.specs.Judging.{atom_tried, atom_clash, equation_tried, equation_clash, value_clash, closure_clash, symbol_of_another, tried, unless_dropped, is_plain, is_unlisted, has_extra_head, is_other, sorts_of, row_clash, same_element, two_sorts, differ_clash, is_taken, listings_before, extra_sort, same_at, is_sort_at, same_sorts, same_value, retyped, moved, part_fault}
use Rattle.interpretation_text_definitions.specs.ElementNames.{element_name, element_names}
use Rattle.interpretation_text_laws.specs.ElementsApart.{HasElementsApart}
use Rattle.interpretation_text_laws.proofs.ReadParts.{plain_elements, element_part, row_arguments}
use Rattle.interpretation_text_laws.proofs.ReadNames.{own_context, element_is}
use Rattle.interpretation_text_laws.proofs.Lookups.{texts_apart}
use Rattle.interpretation_text_laws.proofs.ReadSymbols.{sort_place, symbol_known, element_no_symbol, sort_no_symbol, sort_known, symbol_no_sort, element_no_sort, symbol_no_element, sort_no_element}

-- ---- numbers

-- numbers that differ from those behind them
abbrev pub AreApart : List ℕ → Type 0
AreApart [] = Unit {0}
AreApart (n ∷ ns) = AllByRecursion (λ m. n ≡ m → ⊥) ns × AreApart ns

apart_last : (ns : List ℕ) (n : ℕ) → AllByRecursion (λ m. m < n) ns → AreApart ns → AreApart (ns ++ n ∷ [])
apart_last [] n below apart = (tt, tt)
apart_last (m ∷ ns) n below apart = (with_last ns apart.0, apart_last ns n below.1 apart.1)
  where
    with_last : (ms : List ℕ) → AllByRecursion (λ j. m ≡ j → ⊥) ms → AllByRecursion (λ j. m ≡ j → ⊥) (ms ++ n ∷ [])
    with_last [] h = ((λ e. absurd (omega (arith, below.0))), tt)
    with_last (j ∷ ms) h = (h.0, with_last ms h.1)

below_last : (ns : List ℕ) (n : ℕ) → AllByRecursion (λ m. m < n) ns → AllByRecursion (λ m. m < suc n) (ns ++ n ∷ [])
below_last [] n h = (omega arith, tt)
below_last (m ∷ ns) n h = (omega (arith, h.0), below_last ns n h.1)

pub numbers_are_below : (n : ℕ) → AllByRecursion (λ m. m < n) (numbers_below n)
numbers_are_below zero = tt
numbers_are_below (suc n) = below_last (numbers_below n) n (numbers_are_below n)

pub numbers_apart : (n : ℕ) → AreApart (numbers_below n)
numbers_apart zero = tt
numbers_apart (suc n) = apart_last (numbers_below n) n (numbers_are_below n) (numbers_apart n)

pub lt-neqb : (a b : ℕ) → a < b → nat_eq a b ≡ false
lt-neqb a b h = never (nat_eq a b) (λ e. absurd (omega (arith, eqb-true a b e)))

-- ---- names as elements

module _ (csig : ClassicalSignature) (sizes : List ℕ) (apart : HasElementsApart csig) (different : HasDifferentClassicalNames csig) (declared : List (List ℕ)) where
  abbrev pub C : Context
  C = own_context csig sizes apart different declared

  abbrev name : ℕ → ℕ → List ℕ
  name k n = element_name csig.sorts k n

  listed_not_extra : (x : List ℕ) (e : Element) → element C x ≡ Some e → is_extra C x ≡ false
  listed_not_extra x e is = (λ i. (list_any (same_text x) declared && not (is_known C x)) && not (is_some (is i))) ∙ and-false (list_any (same_text x) declared && not (is_known C x))

  known_not_extra : (x : List ℕ) (v : ℕ × TableEntry) → symbol C x ≡ Some v → is_extra C x ≡ false
  known_not_extra x v is = (λ i. (list_any (same_text x) declared && not (is_some (is i) || is_sort C x)) && not (is_listed C x)) ∙ (λ i. and-false (list_any (same_text x) declared) i && not (is_listed C x))

  known_not_unknown : (x : List ℕ) (v : ℕ × TableEntry) → symbol C x ≡ Some v → is_unknown C x ≡ false
  known_not_unknown x v is = λ i. not (is_some (is i) || is_sort C x) && not (is_listed C x)

  -- ---- declarations

  sort_is_at : (k : ℕ) → k < length csig.sorts → is_sort_at csig.sorts k (classical_sort_at csig.sorts k) ≡ true
  sort_is_at k h =
      ap (same_at (classical_sort_at csig.sorts k)) (slice_get-get_or csig.sorts k Individual h)
      ∙ ap (λ s. same_sort s (classical_sort_at csig.sorts k)) (sort_place csig.sorts k) ∙ same_sort-refl (classical_sort_at csig.sorts k)

  pub sort_declared : (before : List Part) (k : ℕ) (s : List ℕ) → k < length csig.sorts → classical_sort_at csig.sorts k ≡ User s → part_fault C before (Declares (Sort s)) ≡ None
  sort_declared before k s h is =
      λ i. tried false false false (is_some (sort_no_symbol csig sizes apart different k s h is i) || is_some (sort_no_element csig sizes apart different declared k s h is i))

  pub element_declared : (before : List Part) (k n : ℕ) → k < length csig.sorts → n < size_at sizes k → part_fault C before (element_part csig.sorts k n) ≡ None
  element_declared before k n h l =
      let s = classical_sort_at csig.sorts k in
      (λ i. tried false false false
      (is_some (element_no_sort csig sizes apart different k n i)
      || retyped C (element_no_symbol csig sizes apart different k n i) [] (Some s)
      || moved C (element_is csig sizes apart different declared k n h l i) [] (Some s)))
      ∙ (λ i. tried false false false (false || false || not (true && sort_is_at k h i)))

  arguments_declared : (args : List ℕ) → AllBelow (length csig.sorts) args → same_sorts csig.sorts args (map (classical_sort_at csig.sorts) args) ≡ true
  arguments_declared [] h = refl
  arguments_declared (k ∷ args) h = λ i. sort_is_at k h.0 i && arguments_declared args h.1 i

  value_declared : (gives : Option ℕ) → GivesBelow (length csig.sorts) gives → same_value csig.sorts gives (option_map (classical_sort_at csig.sorts) gives) ≡ true
  value_declared None h = refl
  value_declared (Some k) h = sort_is_at k h

  pub symbol_declared : (before : List Part) (t : ℕ) (entry : TableEntry) → t < length (symbols_of csig) → get_or (symbols_of csig) t entry ≡ entry
      → AllBelow (length csig.sorts) entry.args → GivesBelow (length csig.sorts) entry.gives
      → part_fault C before (Declares (Symbol entry.name (map (classical_sort_at csig.sorts) entry.args) (option_map (classical_sort_at csig.sorts) entry.gives))) ≡ None
  symbol_declared before t entry h is below gives =
      let args = map (classical_sort_at csig.sorts) entry.args in
      let value = option_map (classical_sort_at csig.sorts) entry.gives in
      (λ i. tried false false false
      (is_some (symbol_no_sort csig sizes apart different t entry h is i)
      || retyped C (symbol_known csig sizes apart different t entry h is i) args value
      || moved C (symbol_no_element csig sizes apart different declared t entry h is i) args value))
      ∙ (λ i. tried false false false (false || not (arguments_declared entry.args below i && value_declared entry.gives gives i) || false))

  -- ---- closures

  pub no_extra_sort : (s : SortName) (k : ℕ) → sort_number csig.sorts s ≡ Some k → extra_sort C s ≡ false
  no_extra_sort Individual k is = refl
  no_extra_sort (User s) k is =
      (λ i. (list_any (same_text s) declared && not (is_some (symbol C s) || is_some (is i))) && not (is_listed C s))
      ∙ (λ i. (list_any (same_text s) declared && not (or-true (is_some (symbol C s)) i)) && not (is_listed C s))
      ∙ (λ i. and-false (list_any (same_text s) declared) i && not (is_listed C s))

  -- numbers, each of which differs from those behind it
  one_name : (k m : ℕ) (ns : List ℕ) → k < length csig.sorts → AllByRecursion (λ n. m ≡ n → ⊥) ns → has same_text (name k m) (map (name k) ns) ≡ false
  one_name k m [] h others = refl
  one_name k m (n ∷ ns) h others =
      (λ i. texts_apart (name k n) (name k m) (λ e. others.0 (sym (apart.elements k k n m h h e).1)) i || has same_text (name k m) (map (name k) ns)) ∙ one_name k m ns h others.1

  names_differ : (k : ℕ) (ns : List ℕ) → k < length csig.sorts → AreApart ns → all_different same_text (map (name k) ns) ≡ true
  names_differ k [] h apart = refl
  names_differ k (n ∷ ns) h apart = λ i. not (one_name k n ns h apart.0 i) && names_differ k ns h apart.1 i

  elements_differ : (k : ℕ) (ns : List ℕ) → AreApart ns → all_different same_element (map (λ n. record { sort = k; number = n }) ns) ≡ true
  elements_differ k [] apart = refl
  elements_differ k (n ∷ ns) apart = λ i. not (one_element ns apart.0 i) && elements_differ k ns apart.1 i
    where
      one_element : (ms : List ℕ) → AllByRecursion (λ m. n ≡ m → ⊥) ms → has same_element (record { sort = k; number = n }) (map (λ m. record { sort = k; number = m }) ms) ≡ false
      one_element [] others = refl
      one_element (m ∷ ms) others =
          let other : nat_eq m n ≡ false = never (nat_eq m n) (λ e. others.0 (sym (eqb-true m n e))) in
          (λ i. nat_eq k k && other i || has same_element (record { sort = k; number = n }) (map (λ j. record { sort = k; number = j }) ms))
          ∙ (λ i. and-false (nat_eq k k) i || has same_element (record { sort = k; number = n }) (map (λ j. record { sort = k; number = j }) ms))
          ∙ one_element ms others.1

  not_taken : (k n : ℕ) → is_taken C k (name k n) ≡ false
  not_taken k n = λ i. is_some (element_no_sort csig sizes apart different k n i) || symbol_of_another k (element_no_symbol csig sizes apart different k n i)

  none_taken : (k : ℕ) (ns : List ℕ) → list_any (is_taken C k) (map (name k) ns) ≡ false
  none_taken k [] = refl
  none_taken k (n ∷ ns) = λ i. not_taken k n i || none_taken k ns i

  -- no listing of an earlier sort is for a later one, or has the name of one of its elements
  abbrev pub AreEarlier : ℕ → List (List ℕ × ℕ) → Type 0
  AreEarlier k listings = AllByRecursion (λ (l : List ℕ × ℕ). (l.1 < k) × ((n : ℕ) → same_text l.0 (name k n) ≡ false)) listings

  no_other_closure : (k : ℕ) (listings : List (List ℕ × ℕ)) → AreEarlier k listings → list_any (λ (l : List ℕ × ℕ). nat_eq l.1 k) listings ≡ false
  no_other_closure k [] h = refl
  no_other_closure k (l ∷ ls) h = λ i. lt-neqb l.1 k h.0.0 i || no_other_closure k ls h.1 i

  not_listed : (k n : ℕ) (listings : List (List ℕ × ℕ)) → AreEarlier k listings → has same_text (name k n) (map (λ (l : List ℕ × ℕ). l.0) listings) ≡ false
  not_listed k n [] h = refl
  not_listed k n (l ∷ ls) h = λ i. h.0.1 n i || not_listed k n ls h.1 i

  none_listed : (k : ℕ) (ns : List ℕ) (listings : List (List ℕ × ℕ)) → AreEarlier k listings → list_any (λ x. has same_text x (map (λ (l : List ℕ × ℕ). l.0) listings)) (map (name k) ns) ≡ false
  none_listed k [] listings h = refl
  none_listed k (n ∷ ns) listings h = λ i. not_listed k n listings h i || none_listed k ns listings h i

  pub sort_closed : (before : List Part) (k n : ℕ) → k < length csig.sorts → AreEarlier k (listings_before C before)
      → part_fault C before (Closes (classical_sort_at csig.sorts k) (element_names csig.sorts k n)) ≡ None
  sort_closed before k n h earlier =
      let s = classical_sort_at csig.sorts k in
      let known = sort_known csig sizes apart different k h in
      let names = element_names csig.sorts k n in
      let listings = listings_before C before in
      (λ i. unless_dropped (no_extra_sort s k known i) (tried false (is_none (known i)) false (closure_clash C before (known i) names)))
      ∙ (λ i. tried false false false
      (no_other_closure k listings earlier i
      || none_listed k (numbers_below n) listings earlier i
      || not (names_differ k (numbers_below n) h (numbers_apart n) i)
      || none_taken k (numbers_below n) i))

  -- ---- elements that differ

  elements_named : (k : ℕ) (ns : List ℕ) → k < length csig.sorts → AllByRecursion (λ n. n < size_at sizes k) ns → elements_of C (map Plain (map (name k) ns)) ≡ map (λ n. record { sort = k; number = n }) ns
  elements_named k [] h l = refl
  elements_named k (n ∷ ns) h l =
      let e : Element = record { sort = k; number = n } in
      (λ i. cons_option (element_is csig sizes apart different declared k n h l.0 i) (elements_of C (map Plain (map (name k) ns)))) ∙ ap (λ es. e ∷ es) (elements_named k ns h l.1)

  one_sort : (k : ℕ) (ns : List ℕ) → two_sorts (map (λ n. record { sort = k; number = n }) ns) ≡ false
  one_sort k [] = refl
  one_sort k (n ∷ ns) = all_of_it ns
    where
      all_of_it : (ms : List ℕ) → list_any (λ (d : Element). not (nat_eq d.sort k)) (map (λ m. record { sort = k; number = m }) ms) ≡ false
      all_of_it [] = refl
      all_of_it (m ∷ ms) = λ i. not (eq-eqb k k refl i) || all_of_it ms i

  none_extra : (k : ℕ) (ns : List ℕ) → k < length csig.sorts → AllByRecursion (λ n. n < size_at sizes k) ns → list_any (has_extra_head C) (map Plain (map (name k) ns)) ≡ false
  none_extra k [] h l = refl
  none_extra k (n ∷ ns) h l = λ i. listed_not_extra (name k n) (record { sort = k; number = n }) (element_is csig sizes apart different declared k n h l.0) i || none_extra k ns h l.1 i

  none_unlisted : (k : ℕ) (ns : List ℕ) → k < length csig.sorts → AllByRecursion (λ n. n < size_at sizes k) ns → list_any (is_unlisted C) (map Plain (map (name k) ns)) ≡ false
  none_unlisted k [] h l = refl
  none_unlisted k (n ∷ ns) h l = λ i. is_none (element_is csig sizes apart different declared k n h l.0 i) || none_unlisted k ns h l.1 i

  all_plain : (xs : List (List ℕ)) → list_all is_plain (map Plain xs) ≡ true
  all_plain [] = refl
  all_plain (x ∷ xs) = all_plain xs

  pub elements_told_apart : (before : List Part) (k : ℕ) → k < length csig.sorts → part_fault C before (AllDiffer (plain_elements csig.sorts k (size_at sizes k))) ≡ None
  elements_told_apart before k h =
      let ns = numbers_below (size_at sizes k) in
      let below = numbers_are_below (size_at sizes k) in
      let es : List Element = map (λ n. record { sort = k; number = n }) ns in
      (λ i. unless_dropped (none_extra k ns h below i)
      (tried (not (all_plain (map (name k) ns) i)) false (none_unlisted k ns h below i) (differ_clash (elements_named k ns h below i))))
      ∙ (λ i. tried false false false (one_sort k ns i || not (elements_differ k ns (numbers_apart (size_at sizes k)) i)))

  -- ---- rows

  pub record RowRead (args row : List ℕ) : Type 0 where
    pub elements : elements_of C (row_arguments csig.sorts args row) ≡ map (λ (p : ℕ × ℕ). record { sort = p.0; number = p.1 }) (beside args row)
    pub sorts : sorts_of (elements_of C (row_arguments csig.sorts args row)) ≡ args
    pub numbers : numbers_of (elements_of C (row_arguments csig.sorts args row)) ≡ row
    pub plain : list_all is_plain (row_arguments csig.sorts args row) ≡ true
    pub listed : list_any (is_unlisted C) (row_arguments csig.sorts args row) ≡ false
    pub long : length (row_arguments csig.sorts args row) ≡ length args

  pub row_read : (args row : List ℕ) → AllBelow (length csig.sorts) args → InRange (map (size_at sizes) args) row → RowRead args row
  row_read [] [] h r = record { elements = refl; sorts = refl; numbers = refl; plain = refl; listed = refl; long = refl }
  row_read [] (x ∷ row) h r = absurd r
  row_read (k ∷ args) [] h r = absurd r
  row_read (k ∷ args) (x ∷ row) h r =
      let rest = row_read args row h.1 r.1 in
      let e : Element = record { sort = k; number = x } in
      let is = element_is csig sizes apart different declared k x h.0 r.0 in
      let more = elements_of C (row_arguments csig.sorts args row) in
      let first : elements_of C (row_arguments csig.sorts (k ∷ args) (x ∷ row)) ≡ e ∷ more = λ i. cons_option (is i) more in
      record {
        elements = first ∙ ap (λ es. e ∷ es) rest.elements;
        sorts = ap sorts_of first ∙ ap (λ ks. k ∷ ks) rest.sorts;
        numbers = ap numbers_of first ∙ ap (λ ns. x ∷ ns) rest.numbers;
        plain = rest.plain;
        listed = λ i. is_none (is i) || rest.listed i;
        long = ap suc rest.long;
      }

  no_row_clash : (given : List Given) (t : ℕ) (entry : TableEntry) (row : List ℕ) (v : ℕ) → RowRead entry.args row → value_in given t row ≡ None
      → row_clash given (t, entry) (elements_of C (row_arguments csig.sorts entry.args row)) v ≡ false
  no_row_clash given t entry row v read new =
      (λ i. not (same_text (read.sorts i) entry.args) || is_other (value_in given t (read.numbers i)) v)
      ∙ (λ i. not (same_text-refl entry.args i) || is_other (new i) v)

  count_right : (entry : TableEntry) (row : List ℕ) → RowRead entry.args row → nat_eq (length entry.args) (length (row_arguments csig.sorts entry.args row)) ≡ true
  count_right entry row read = eq-eqb (length entry.args) (length (row_arguments csig.sorts entry.args row)) (sym read.long)

  pub atom_read : (before : List Part) (truth : Bool) (t : ℕ) (entry : TableEntry) (row : List ℕ) → t < length (symbols_of csig) → get_or (symbols_of csig) t entry ≡ entry → entry.gives ≡ None
      → RowRead entry.args row → value_in (given_by C before) t row ≡ None → part_fault C before (Applies truth entry.name (row_arguments csig.sorts entry.args row)) ≡ None
  atom_read before truth t entry row h is none read new =
      let given = given_by C before in
      let p = entry.name in
      let args = row_arguments csig.sorts entry.args row in
      let known = symbol_known csig sizes apart different t entry h is in
      (λ i. unless_dropped (known_not_extra p (t, entry) known i) (atom_tried C (known i) p args (atom_clash given (known i) (elements_of C args) (bit truth))))
      ∙ (λ i. tried
      (not (read.plain i) || is_some (symbol_no_element csig sizes apart different declared t entry h is i) || is_some (symbol_no_sort csig sizes apart different t entry h is i)
      || (is_some (none i) || not (count_right entry row read i)))
      (known_not_unknown p (t, entry) known i) (read.listed i) (no_row_clash given t entry row (bit truth) read new i))

  pub equation_read : (before : List Part) (t : ℕ) (entry : TableEntry) (row : List ℕ) (sort v : ℕ) → t < length (symbols_of csig) → get_or (symbols_of csig) t entry ≡ entry → entry.gives ≡ Some sort
      → sort < length csig.sorts → v < size_at sizes sort
      → RowRead entry.args row → value_in (given_by C before) t row ≡ None → part_fault C before (Equates entry.name (row_arguments csig.sorts entry.args row) (Plain (name sort v))) ≡ None
  equation_read before t entry row sort v h is some in_range below read new =
      let given = given_by C before in
      let f = entry.name in
      let args = row_arguments csig.sorts entry.args row in
      let value = Plain (name sort v) in
      let known = symbol_known csig sizes apart different t entry h is in
      let e = element_is csig sizes apart different declared sort v in_range below in
      (λ i. unless_dropped (known_not_extra f (t, entry) known i) (equation_tried C (known i) f args value (equation_clash given (known i) (elements_of C args) (e i))))
      ∙ (λ i. tried
      (not (read.plain i) || not true || is_some (symbol_no_sort csig sizes apart different t entry h is i)
      || (is_none (some i) || not (count_right entry row read i)))
      (known_not_unknown f (t, entry) known i) (read.listed i || is_none (e i))
      (value_clash given (t, entry) (some i) (elements_of C args) (Some (record { sort = sort; number = v }))))
      ∙ (λ i. tried false false false (not (eq-eqb sort sort refl i) || no_row_clash given t entry row v read new i))
