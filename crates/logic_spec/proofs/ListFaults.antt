-- The first fault of a list, by what was seen of the items before each.
use Rattle.std.proofs.Common.{◌≡◌, ℕ, Bool, true, false, List, [], ◌∷◌, ◌++◌, Option, None, Some, refl, sym, ap, ◌∙◌}
use Rattle.std.specs.Prelude.{◌&&◌, ◌||◌, if◌then◌else◌}
use Rattle.std.specs.Option.{option_or, option_map}
use Rattle.std.specs.List.{list_all}
use Rattle.std.proofs.lemmas.List.{append-nil}
use Rattle.std.proofs.lemmas.List.Folds.{list_all-append, list_any-append}
use Rattle.nxf_base.specs.declared.status.SpecKind.{SpecKind}
use Rattle.nxf_base.specs.declared.status.SpecKind.TheVariants.{UnknownValue}
use Rattle.nxf_tree.specs.declared.tree.Setting.{Setting}
use Rattle.nxf_tree.specs.declared.tree.SpecKey.{SpecKey}
use Rattle.nxf_tree.specs.declared.tree.SpecEntry.{SpecEntry}
use Rattle.nxf_tree.specs.declared.tree.SpecValue.{SpecValue}
use Rattle.nxf_tree.specs.declared.tree.SpecItem.{SpecItem, SpecItem-F, out-SpecItem}
use Rattle.nxf_tree.specs.declared.tree.SpecItem.TheOpen as opened
use Rattle.nxf_tree.specs.Faults.{first_fault}
use Rattle.nxf_tree.specs.SpecificationWords.{joins}
use Rattle.nxf_tree.specs.Specification.{same_key, setting_name, and_word, words_of, and_override, overrides_of, is_empty, has_key, item_fault}
use Rattle.logic_spec.specs.declared.seen.Seen.{Seen}
use Rattle.logic_spec.specs.steps.Seen.{Before, before, fault_after, and_item, is_seen, known}
use Rattle.logic_spec.proofs.Choices.{and_true, choice_with}
use Rattle.logic_spec.proofs.FirstFaults.{walked, walked_is}

abbrev Opened : Type 0
Opened = SpecItem-F SpecItem SpecValue SpecEntry

abbrev pub judge_in : Setting → List SpecItem → SpecItem → Option SpecKind
judge_in setting items x = item_fault setting items (out-SpecItem x)

-- the first fault of the items after items of which this holds
abbrev pub fault_from : Setting → Before → List SpecItem → Option SpecKind
fault_from setting b [] = None
fault_from setting b (x ∷ xs) = option_or (fault_after setting b (out-SpecItem x)) (fault_from setting (and_item setting b (out-SpecItem x)) xs)

or_false : (b : Bool) → (b || false) ≡ b
or_false true = refl
or_false false = refl

not_empty : {A : Type 0} (xs : List A) (x : A) → is_empty (xs ++ x ∷ []) ≡ false
not_empty [] x = refl
not_empty (y ∷ ys) x = refl

word_then : (o : Opened) (words more : List (List ℕ)) → and_word o (words ++ more) ≡ and_word o words ++ more
word_then (opened.SpecItem::Word word) words more = refl
word_then (opened.Entry entry) words more = refl

override_then : (o : Opened) (entries more : List SpecEntry) → and_override o (entries ++ more) ≡ and_override o entries ++ more
override_then (opened.SpecItem::Word word) entries more = refl
override_then (opened.Entry entry) entries more = refl

words_and : (items : List SpecItem) (x : SpecItem) → words_of (items ++ x ∷ []) ≡ words_of items ++ and_word (out-SpecItem x) []
words_and [] x = refl
words_and (y ∷ items) x = ap (and_word (out-SpecItem y)) (words_and items x) ∙ word_then (out-SpecItem y) (words_of items) (and_word (out-SpecItem x) [])

overrides_and : (items : List SpecItem) (x : SpecItem) → overrides_of (items ++ x ∷ []) ≡ overrides_of items ++ and_override (out-SpecItem x) []
overrides_and [] x = refl
overrides_and (y ∷ items) x = ap (and_override (out-SpecItem y)) (overrides_and items x) ∙ override_then (out-SpecItem y) (overrides_of items) (and_override (out-SpecItem x) [])

module _ (setting : Setting) where
  noted : (o : Opened) (words words2 : List (List ℕ)) (entries entries2 : List SpecEntry) → words2 ≡ words ++ and_word o [] → entries2 ≡ entries ++ and_override o []
      → ◌≡◌ {A = Before} (record { no_word = is_empty words2; all_join = list_all (joins setting) words2; has_override = has_key entries2 })
      (and_item setting (record { no_word = is_empty words; all_join = list_all (joins setting) words; has_override = has_key entries }) o)
  noted (opened.SpecItem::Word word) words words2 entries entries2 hw he =
      let empty : is_empty words2 ≡ false = ap is_empty hw ∙ not_empty words word in
      let all : list_all (joins setting) words2 ≡ (list_all (joins setting) words && joins setting word) =
      ap (list_all (joins setting)) hw ∙ list_all-append (joins setting) words (word ∷ []) ∙ ap (λ b. list_all (joins setting) words && b) (and_true (joins setting word)) in
      let same : entries2 ≡ entries = he ∙ append-nil entries in
      λ i. record { no_word = empty i; all_join = all i; has_override = has_key (same i) }
  noted (opened.Entry entry) words words2 entries entries2 hw he =
      let same : words2 ≡ words = hw ∙ append-nil words in
      let any : (key : SpecKey) → has_key entries2 key ≡ (has_key entries key || same_key entry.key key) =
      λ key. ap (λ es. has_key es key) he ∙ list_any-append (λ (e : SpecEntry). same_key e.key key) entries (entry ∷ []) ∙ ap (λ b. has_key entries key || b) (or_false (same_key entry.key key)) in
      λ i. record { no_word = is_empty (same i); all_join = list_all (joins setting) (same i); has_override = λ key. any key i }

  before_and : (items : List SpecItem) (x : SpecItem) → before setting (items ++ x ∷ []) ≡ and_item setting (before setting items) (out-SpecItem x)
  before_and items x = noted (out-SpecItem x) (words_of items) (words_of (items ++ x ∷ [])) (overrides_of items) (overrides_of (items ++ x ∷ [])) (words_and items x) (overrides_and items x)

  fault_is : (items : List SpecItem) (o : Opened) → item_fault setting items o ≡ fault_after setting (before setting items) o
  fault_is items (opened.SpecItem::Word word) = ap (λ b. if b then None else Some (UnknownValue (setting_name setting))) (choice_with setting (words_of items) word)
  fault_is items (opened.Entry entry) = refl

  walked_from : (items xs : List SpecItem) → walked (judge_in setting) items xs ≡ fault_from setting (before setting items) xs
  walked_from items [] = refl
  walked_from items (x ∷ xs) =
      ap (λ fault. option_or fault (walked (judge_in setting) (items ++ x ∷ []) xs)) (fault_is items (out-SpecItem x))
      ∙ ap (λ rest. option_or (fault_after setting (before setting items) (out-SpecItem x)) rest) (walked_from (items ++ x ∷ []) xs ∙ ap (λ b. fault_from setting b xs) (before_and items x))

  -- the first fault of a list is that after nothing was seen
  pub from_start : (seen : Seen) → seen.no_word ≡ true → seen.all_join ≡ true → ((key : SpecKey) → is_seen seen.keys key ≡ false) → (items : List SpecItem)
      → option_map (λ (fault : ℕ × SpecKind). fault.1) (first_fault (judge_in setting) 0 [] items) ≡ fault_from setting (known seen) items
  from_start seen none all unseen items =
      let start : before setting [] ≡ known seen = λ i. record { no_word = sym none i; all_join = sym all i; has_override = λ key. sym (unseen key) i } in
      walked_is (judge_in setting) 0 [] items ∙ walked_from [] items ∙ ap (λ b. fault_from setting b items) start
