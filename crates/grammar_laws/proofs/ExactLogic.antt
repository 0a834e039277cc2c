-- The descent and the grammar agree on logic statements.
use Rattle.std.proofs.Common.{◌≡◌, ℕ, zero, suc, ◌+◌, ◌≤◌, ◌<◌, Bool, true, false, List, [], ◌∷◌, ◌++◌, length, Some, refl, sym, ap, subst, ◌∙◌, append_assoc, arith}
use Rattle.nxf_terminals.specs.declared.sign.Sign.{Sign}
use Rattle.nxf_terminals.specs.declared.sign.Sign.TheVariants as sign
use Rattle.tptp_lex.specs.Texts.{token_text}
use Rattle.nxf_terminals.specs.Signs.{same_sign, is_dollar}
use Rattle.nxf_terminals.specs.Input.{Spelling, Input, Parser, and_then, kind, sees, expect, refuse, pure}
use Rattle.nxf_terminals.proofs.CallerLemmas.{bound, moved, expected, with_bound, with_expected, end_is_no_hash, end_is_no_right_bracket, end_is_no_left_bracket, end_is_no_is, end_is_no_boxes}
use Rattle.nxf_tree.specs.declared.tree.IndexName.{IndexName}
use Rattle.nxf_tree.specs.declared.tree.IndexName.TheVariants as index
use Rattle.nxf_tree.specs.declared.tree.SpecKey.{SpecKey}
use Rattle.nxf_tree.specs.declared.tree.SpecKey.TheVariants as key
use Rattle.nxf_tree.specs.declared.tree.SpecValue.{SpecValue}
use Rattle.nxf_tree.specs.declared.tree.SpecValue.TheVariants as value
use Rattle.nxf_tree.specs.declared.tree.SpecItem.{SpecItem}
use Rattle.nxf_tree.specs.declared.tree.SpecItem.TheVariants as item
use Rattle.nxf_tree.specs.declared.tree.SpecEntry.{SpecEntry}
use Rattle.nxf_tree.specs.declared.tree.LogicSpec.{LogicSpec}
use Rattle.syntax_definitions.specs.Formulas.{IsIndex, IsLongIndex}
use Rattle.syntax_definitions.specs.steps.ReadFormulas.{index_text, long_index}
use Rattle.grammar_laws.proofs.Complete.{index_found, long_found, index_shorter, long_shorter}
use Rattle.grammar_laws.proofs.Sound.{index_sound, long_index_sound}
use Rattle.syntax_definitions.specs.Logic.{IsKey, IsValue, AreItems, IsItem, IsEntry, AreEntries, IsLogic, entry_of, logic_of}
use Rattle.syntax_definitions.specs.Logic as g
use Rattle.syntax_definitions.specs.steps.ReadLists.{list_from}
use Rattle.syntax_definitions.specs.steps.ReadLogic.{dollar_key, key_by, spec_key, entry_with, alone_by, stands_alone, item_if, item_of, dollar_value, items_by, value_by, value_of, inner_entry, entries_by, logic_if, logic_spec}
use Rattle.syntax_definitions.proofs.CallerLemmas.{value_is}
use Rattle.grammar_laws.proofs.Lists.{list_sound}

-- ---- each reading takes a token

key_shorter : {xs rest : Input} {k : SpecKey} → IsKey xs k rest → length rest < length xs
key_shorter (g.dollar h) = omega arith
key_shorter g.name = omega arith
key_shorter g.box = omega arith
key_shorter (g.box_of d) = omega (arith, index_shorter d)
key_shorter (g.long d) = omega (arith, long_shorter d)

mutual
  value_shorter : {n : ℕ} {xs rest : Input} {v : SpecValue} → IsValue n xs v rest → length rest < length xs
  value_shorter (g.word h) = omega arith
  value_shorter g.none = omega arith
  value_shorter (g.items d) = omega (arith, items_shorter d)

  items_shorter : {n : ℕ} {xs rest : Input} {is : List SpecItem} → AreItems n xs is rest → length is + length rest < length xs
  items_shorter (g.last_item d) = omega (arith, item_shorter d)
  items_shorter (g.more_items d ds) = omega (arith, item_shorter d, items_shorter ds)

  item_shorter : {n : ℕ} {xs rest : Input} {i : SpecItem} → IsItem n xs i rest → length rest < length xs
  item_shorter (g.word_item h) = omega arith
  item_shorter (g.entry_item d) = entry_shorter d

  entry_shorter : {n : ℕ} {xs rest : Input} {e : SpecEntry} → IsEntry n xs e rest → length rest < length xs
  entry_shorter (g.entry k v) = omega (arith, key_shorter k, value_shorter v)

entries_shorter : {n : ℕ} {xs rest : Input} {es : List SpecEntry} → AreEntries n xs es rest → length es + length rest < length xs
entries_shorter (g.last_entry d) = omega (arith, entry_shorter d)
entries_shorter (g.more_entries d ds) = omega (arith, entry_shorter d, entries_shorter ds)

-- ---- what the grammar reads is read

dollar_key_at : (s : Sign) (i : Input) → is_dollar s ≡ true → key_by s i ≡ dollar_key true i
dollar_key_at sign.Name i h = absurd cc
dollar_key_at sign.Box i h = absurd cc
dollar_key_at sign.LeftBracket i h = absurd cc
dollar_key_at sign.LeftBrace i h = absurd cc
dollar_key_at s i h = ap (λ b. dollar_key b i) h

long_key : {xs rest : Input} {i : IndexName} → IsLongIndex xs i rest → and_then (long_index xs) (λ i. pure (key.Index i)) ≡ Some (key.Index i, rest)
long_key d = rw (long_found d) refl

key_found : {xs rest : Input} {k : SpecKey} → IsKey xs k rest → spec_key xs ≡ Some (k, rest)
unfolding spec_key expect sees same_sign
key_found (g.dollar {j = j} {a = a} {rest = rest} h) = dollar_key_at j ((j, a) ∷ rest) h
key_found g.name = refl
key_found g.box = refl
key_found (g.box_of d) = rw (index_found d) refl
key_found (g.long d) = long_key d

dollar_value_at : (one : Parser SpecItem) (s : Sign) (i : Input) → is_dollar s ≡ true → value_by one s i ≡ dollar_value true i
dollar_value_at one sign.LeftBracket i h = absurd cc
dollar_value_at one s i h = ap (λ b. dollar_value b i) h

-- no `==` goes on with an item
abbrev ends_item : Sign → Bool
ends_item sign.Is = false
ends_item _ = true

word_alone : (first second : Sign) → is_dollar first ≡ true → ends_item second ≡ true → alone_by first second ≡ true
word_alone first sign.Is h e = absurd cc
word_alone first _ h e = h

word_alone_here : (j : Sign) (a : Spelling) (rest : Input) → is_dollar j ≡ true → ends_item (kind rest) ≡ true → stands_alone ((j, a) ∷ rest) ≡ true
unfolding stands_alone
word_alone_here j a rest h e = word_alone j (kind rest) h e

key_not_alone : {n : ℕ} {xs rest : Input} {e : SpecEntry} → IsEntry n xs e rest → stands_alone xs ≡ false
unfolding stands_alone
key_not_alone (g.entry (g.dollar h) v) = refl
key_not_alone (g.entry g.name v) = refl
key_not_alone (g.entry g.box v) = refl
key_not_alone (g.entry (g.box_of d) v) = refl
key_not_alone (g.entry (g.long {b = b} {w = w} {xs = xs} d) v) = refl

word_begins : (j : Sign) (a : Spelling) (rest : Input) → is_dollar j ≡ true → (one : Parser SpecItem) → items_by one j ((j, a) ∷ rest) ≡ and_then (list_from one (length ((j, a) ∷ rest)) [] ((j, a) ∷ rest)) (λ is. pure (value.Items is))
word_begins sign.RightBracket a rest h one = absurd cc
word_begins j a rest h one = refl

item_begins : {n : ℕ} {xs rest : Input} {i : SpecItem} → IsItem n xs i rest → (one : Parser SpecItem) → items_by one (kind xs) xs ≡ and_then (list_from one (length xs) [] xs) (λ is. pure (value.Items is))
item_begins (g.word_item {j = j} {a = a} {rest = rest} h) one = word_begins j a rest h one
item_begins (g.entry_item (g.entry (g.dollar {j = j} {a = a} {rest = rest} h) v)) one = word_begins j a rest h one
item_begins (g.entry_item (g.entry g.name v)) one = refl
item_begins (g.entry_item (g.entry g.box v)) one = refl
item_begins (g.entry_item (g.entry (g.box_of d) v)) one = refl
item_begins (g.entry_item (g.entry (g.long d) v)) one = refl

no_item_begins : {n : ℕ} {xs rest : Input} {is : List SpecItem} → AreItems n xs is rest → (one : Parser SpecItem) → items_by one (kind xs) xs ≡ and_then (list_from one (length xs) [] xs) (λ is. pure (value.Items is))
no_item_begins (g.last_item d) one = item_begins d one
no_item_begins (g.more_items d ds) one = item_begins d one

mutual
  unfolding list_from item_of expect sees same_sign

  value_found : {n : ℕ} {xs rest : Input} {v : SpecValue} → IsValue n xs v rest → value_of n xs ≡ Some (v, rest)
  value_found {n = n} {xs = xs} (g.word {j = j} h) = value_is n xs ∙ dollar_value_at (item_of (inner_entry n)) j xs h
  value_found {n = n} {xs = xs} g.none = value_is n xs
  value_found {n = n} {xs = xs} (g.items {xs = ys} d) = value_is n xs ∙ no_item_begins d (item_of (inner_entry n)) ∙ rw (items_found d (length ys) [] (omega (arith, items_shorter d))) refl

  items_found : {n : ℕ} {xs rest : Input} {is : List SpecItem} → AreItems n xs is rest → (k : ℕ) (found : List SpecItem) → length is ≤ k → list_from (item_of (inner_entry n)) k found xs ≡ Some (found ++ is, rest)
  items_found (g.last_item d) zero found fits = absurd (omega arith)
  items_found (g.last_item d) (suc k) found fits = rw (item_found d refl) refl
  items_found (g.more_items d ds) zero found fits = absurd (omega arith)
  items_found (g.more_items {rest = rest} {i = i} {is = is} d ds) (suc k) found fits = rw (item_found d refl) (items_found ds k (found ++ i ∷ []) (omega arith) ∙ ap (λ (x : List SpecItem). Some (x, rest)) (append_assoc found (i ∷ []) is))

  item_found : {n : ℕ} {xs rest : Input} {i : SpecItem} → IsItem n xs i rest → ends_item (kind rest) ≡ true → item_of (inner_entry n) xs ≡ Some (i, rest)
  item_found {n = n} {xs = xs} {rest = rest} (g.word_item {j = j} {a = a} h) e = ap (λ b. item_if (inner_entry n) b xs) (word_alone_here j a rest h e)
  item_found {xs = xs} (g.entry_item {n = m} d) e = ap (λ b. item_if (entry_with (value_of m)) b xs) (key_not_alone d) ∙ rw (entry_found d) refl

  entry_found : {n : ℕ} {xs rest : Input} {e : SpecEntry} → IsEntry n xs e rest → entry_with (value_of n) xs ≡ Some (e, rest)
  entry_found (g.entry k v) = rw (key_found k) (rw (value_found v) refl)

entries_found : {n : ℕ} {xs rest : Input} {es : List SpecEntry} → AreEntries n xs es rest → (k : ℕ) (found : List SpecEntry) → length es ≤ k → list_from (entry_with (value_of n)) k found xs ≡ Some (found ++ es, rest)
unfolding list_from
entries_found (g.last_entry d) zero found fits = absurd (omega arith)
entries_found (g.last_entry d) (suc k) found fits = rw (entry_found d) refl
entries_found (g.more_entries d ds) zero found fits = absurd (omega arith)
entries_found (g.more_entries {rest = rest} {e = e} {es = es} d ds) (suc k) found fits = rw (entry_found d) (entries_found ds k (found ++ e ∷ []) (omega arith) ∙ ap (λ (x : List SpecEntry). Some (x, rest)) (append_assoc found (e ∷ []) es))

dollar_begins : (j : Sign) (b : Spelling) (rest : Input) → is_dollar j ≡ true → (one : Parser SpecEntry) (a : Spelling) → entries_by one a j ((j, b) ∷ rest) ≡ and_then (list_from one (length ((j, b) ∷ rest)) [] ((j, b) ∷ rest)) (λ es. pure (logic_of a es))
dollar_begins sign.RightBracket b rest h one a = absurd cc
dollar_begins j b rest h one a = refl

key_begins : {xs rest : Input} {k : SpecKey} → IsKey xs k rest → (one : Parser SpecEntry) (a : Spelling) → entries_by one a (kind xs) xs ≡ and_then (list_from one (length xs) [] xs) (λ es. pure (logic_of a es))
key_begins (g.dollar {j = j} {a = b} {rest = rest} h) one a = dollar_begins j b rest h one a
key_begins g.name one a = refl
key_begins g.box one a = refl
key_begins (g.box_of d) one a = refl
key_begins (g.long d) one a = refl

entry_begins : {n : ℕ} {xs rest : Input} {e : SpecEntry} → IsEntry n xs e rest → (one : Parser SpecEntry) (a : Spelling) → entries_by one a (kind xs) xs ≡ and_then (list_from one (length xs) [] xs) (λ es. pure (logic_of a es))
entry_begins (g.entry k v) one a = key_begins k one a

entries_begin : {n : ℕ} {xs rest : Input} {es : List SpecEntry} → AreEntries n xs es rest → (one : Parser SpecEntry) (a : Spelling) → entries_by one a (kind xs) xs ≡ and_then (list_from one (length xs) [] xs) (λ es. pure (logic_of a es))
entries_begin (g.last_entry d) one a = entry_begins d one a
entries_begin (g.more_entries d ds) one a = entry_begins d one a

pub logic_found : {n : ℕ} {xs rest : Input} {l : LogicSpec} → IsLogic n xs l rest → logic_spec n xs ≡ Some (l, rest)
unfolding logic_spec expect sees same_sign
logic_found {n = n} {xs = xs} (g.no_entries h) = ap (λ b. logic_if (entry_with (value_of n)) b xs) h
logic_found {n = n} {xs = xs} (g.entries {a = a} {xs = ys} h d) =
    ap (λ b. logic_if (entry_with (value_of n)) b xs) h ∙ entries_begin d (entry_with (value_of n)) a ∙ rw (entries_found d (length ys) [] (omega (arith, entries_shorter d))) refl

-- ---- what is read, the grammar reads

dollar_key_sound : (j : Sign) (a : Spelling) (ys : Input) (b : Bool) (k : SpecKey) (rest : Input) → is_dollar j ≡ b → dollar_key b ((j, a) ∷ ys) ≡ Some (k, rest) → IsKey ((j, a) ∷ ys) k rest
dollar_key_sound j a ys true k rest is h = moved (λ (x : SpecKey) r. IsKey ((j, a) ∷ ys) x r) (key.Dollar a, ys) (k, rest) h (g.dollar is)
dollar_key_sound j a ys false k rest is h = absurd cc

index_key : (v h : Spelling) (xs i : Input) (a : Spelling) (k : SpecKey) (rest : Input) → IsIndex xs a i → and_then (expect sign.RightBracket i) (λ u. pure (key.Index (index.Named a))) ≡ Some (k, rest) → IsKey ((sign.LeftBracket, v) ∷ (sign.Hash, h) ∷ xs) k rest
index_key v h xs i a k rest d e =
    let b = bound (expect sign.RightBracket i) (λ u. pure (key.Index (index.Named a))) (k, rest) e in
    let close = expected sign.RightBracket i b.value b.rest b.first end_is_no_right_bracket in
    moved (λ (x : SpecKey) r. IsKey ((sign.LeftBracket, v) ∷ (sign.Hash, h) ∷ xs) x r) (key.Index (index.Named a), b.rest) (k, rest) b.then (g.box_of (subst (λ (m : Input). IsIndex xs a m) close.is d))

key_at : (s : Sign) (v : Spelling) (ys : Input) (k : SpecKey) (rest : Input) → key_by s ((s, v) ∷ ys) ≡ Some (k, rest) → IsKey ((s, v) ∷ ys) k rest
key_at sign.Name v ys k rest h = moved (λ (x : SpecKey) r. IsKey ((sign.Name, v) ∷ ys) x r) (key.Name (token_text v), ys) (k, rest) h g.name
key_at sign.Box v ys k rest h = moved (λ (x : SpecKey) r. IsKey ((sign.Box, v) ∷ ys) x r) (key.Index index.Plain, ys) (k, rest) h g.box
key_at sign.LeftBracket v ys k rest h =
    with_expected (λ (x : Input). IsKey ((sign.LeftBracket, v) ∷ x) k rest) sign.Hash ys (λ i. and_then (index_text i) (λ a i. and_then (expect sign.RightBracket i) (λ u. pure (key.Index (index.Named a))))) (k, rest) end_is_no_hash
    (λ hash xs e. with_bound (IsKey ((sign.LeftBracket, v) ∷ (sign.Hash, hash) ∷ xs) k rest) (index_text xs) (λ a i. and_then (expect sign.RightBracket i) (λ u. pure (key.Index (index.Named a)))) (k, rest)
    (λ a i e1 e2. index_key v hash xs i a k rest (index_sound xs a i e1) e2) e) h
key_at sign.LeftBrace v ys k rest h =
    with_expected (λ (x : Input). IsKey ((sign.LeftBrace, v) ∷ x) k rest) sign.Boxes ys (λ i. and_then (long_index i) (λ a. pure (key.Index a))) (k, rest) end_is_no_boxes
    (λ w xs e.
    let b = bound (long_index xs) (λ a. pure (key.Index a)) (k, rest) e in
    moved (λ (x : SpecKey) r. IsKey ((sign.LeftBrace, v) ∷ (sign.Boxes, w) ∷ xs) x r) (key.Index b.value, b.rest) (k, rest) b.then (g.long (long_index_sound xs b.value b.rest b.first))) h
key_at s v ys k rest h = dollar_key_sound s v ys (is_dollar s) k rest refl h

key_sound : (xs : Input) (k : SpecKey) (rest : Input) → spec_key xs ≡ Some (k, rest) → IsKey xs k rest
unfolding spec_key
key_sound [] k rest h = absurd cc
key_sound (x ∷ ys) k rest h = key_at x.0 x.1 ys k rest h

abbrev SoundValue : ℕ → Parser SpecValue → Type 0
SoundValue n one = (xs : Input) (v : SpecValue) (rest : Input) → one xs ≡ Some (v, rest) → IsValue n xs v rest

entry_then : (n : ℕ) (one : Parser SpecValue) → SoundValue n one → (xs mid : Input) (k : SpecKey) (e : SpecEntry) (rest : Input) → IsKey xs k mid → and_then (expect sign.Is mid) (λ u i. and_then (one i) (λ v. pure (entry_of k v))) ≡ Some (e, rest) → IsEntry n xs e rest
entry_then n one sound xs mid k e rest d h =
    let b = bound (expect sign.Is mid) (λ u i. and_then (one i) (λ v. pure (entry_of k v))) (e, rest) h in
    let c = bound (one b.rest) (λ v. pure (entry_of k v)) (e, rest) b.then in
    let is = expected sign.Is mid b.value b.rest b.first end_is_no_is in
    moved (λ (x : SpecEntry) r. IsEntry n xs x r) (entry_of k c.value, c.rest) (e, rest) c.then
    (g.entry (subst (λ (m : Input). IsKey xs k m) is.is d) (sound b.rest c.value c.rest c.first))

entry_sound : (n : ℕ) (one : Parser SpecValue) → SoundValue n one → (xs : Input) (e : SpecEntry) (rest : Input) → entry_with one xs ≡ Some (e, rest) → IsEntry n xs e rest
entry_sound n one sound xs e rest h =
    let b = bound (spec_key xs) (λ k i. and_then (expect sign.Is i) (λ u i. and_then (one i) (λ v. pure (entry_of k v)))) (e, rest) h in
    entry_then n one sound xs b.rest b.value e rest (key_sound xs b.value b.rest b.first) b.then

-- a word that stands alone
alone_is_dollar : (first second : Sign) → alone_by first second ≡ true → is_dollar first ≡ true
alone_is_dollar first sign.Is h = absurd cc
alone_is_dollar first _ h = h

no_word_at_end : stands_alone [] ≡ false
unfolding stands_alone
no_word_at_end = refl

word_is_dollar : (x : Sign × Spelling) (ys : Input) → stands_alone (x ∷ ys) ≡ true → is_dollar x.0 ≡ true
unfolding stands_alone
word_is_dollar x ys h = alone_is_dollar x.0 (kind ys) h

module _ (n : ℕ) (inner : Parser SpecEntry) (sound : (xs : Input) (e : SpecEntry) (rest : Input) → inner xs ≡ Some (e, rest) → IsItem n xs (item.Entry e) rest) where
  item_by : (xs : Input) (i : SpecItem) (rest : Input) (b : Bool) → stands_alone xs ≡ b → item_if inner b xs ≡ Some (i, rest) → IsItem n xs i rest
  item_by [] i rest true is h = let none : false ≡ true = sym no_word_at_end ∙ is in absurd cc
  item_by (x ∷ ys) i rest true is h = moved (λ (y : SpecItem) r. IsItem n (x ∷ ys) y r) (item.Word x.1, ys) (i, rest) h (g.word_item (word_is_dollar x ys is))
  item_by xs i rest false is h =
      let b = bound (inner xs) (λ e. pure (item.Entry e)) (i, rest) h in
      moved (λ (y : SpecItem) r. IsItem n xs y r) (item.Entry b.value, b.rest) (i, rest) b.then (sound xs b.value b.rest b.first)

  item_sound : (xs : Input) (i : SpecItem) (rest : Input) → item_of inner xs ≡ Some (i, rest) → IsItem n xs i rest
  unfolding item_of
  item_sound xs i rest h = item_by xs i rest (stands_alone xs) refl h

module _ (n : ℕ) (one : Parser SpecItem) (sound : (xs : Input) (i : SpecItem) (rest : Input) → one xs ≡ Some (i, rest) → IsItem n xs i rest) where
  items_sound : (xs : Input) (is : List SpecItem) (rest : Input) → list_from one (length xs) [] xs ≡ Some (is, rest) → AreItems n xs is rest
  items_sound xs is rest h =
      let r = list_sound (IsItem n) (AreItems n) (λ c xs rest a d. g.last_item d) (λ c xs mid rest a others d ds. g.more_items d ds) one sound (length xs) [] xs is rest h in
      subst (λ (x : List SpecItem). AreItems n xs x rest) (sym r.out_is) r.are

  items_at : (v : Spelling) (s : Sign) (w : Spelling) (ys : Input) (x : SpecValue) (rest : Input) → items_by one s ((s, w) ∷ ys) ≡ Some (x, rest) → IsValue n ((sign.LeftBracket, v) ∷ (s, w) ∷ ys) x rest
  items_at v sign.RightBracket w ys x rest h = moved (λ (y : SpecValue) r. IsValue n ((sign.LeftBracket, v) ∷ (sign.RightBracket, w) ∷ ys) y r) (value.Items [], ys) (x, rest) h g.none
  items_at v s w ys x rest h =
      let b = bound (list_from one (length ((s, w) ∷ ys)) [] ((s, w) ∷ ys)) (λ is. pure (value.Items is)) (x, rest) h in
      moved (λ (y : SpecValue) r. IsValue n ((sign.LeftBracket, v) ∷ (s, w) ∷ ys) y r) (value.Items b.value, b.rest) (x, rest) b.then (g.items (items_sound ((s, w) ∷ ys) b.value b.rest b.first))

  items_then : (v : Spelling) (xs : Input) (x : SpecValue) (rest : Input) → items_by one (kind xs) xs ≡ Some (x, rest) → IsValue n ((sign.LeftBracket, v) ∷ xs) x rest
  items_then v [] x rest h =
      let b = bound (list_from one (length {A = Sign × Spelling} []) [] []) (λ is. pure (value.Items is)) (x, rest) h in
      moved (λ (y : SpecValue) r. IsValue n ((sign.LeftBracket, v) ∷ []) y r) (value.Items b.value, b.rest) (x, rest) b.then (g.items (items_sound [] b.value b.rest b.first))
  items_then v (y ∷ ys) x rest h = items_at v y.0 y.1 ys x rest h

  value_word : (j : Sign) (a : Spelling) (ys : Input) (b : Bool) (x : SpecValue) (rest : Input) → is_dollar j ≡ b → dollar_value b ((j, a) ∷ ys) ≡ Some (x, rest) → IsValue n ((j, a) ∷ ys) x rest
  value_word j a ys true x rest is h = moved (λ (y : SpecValue) r. IsValue n ((j, a) ∷ ys) y r) (value.Word a, ys) (x, rest) h (g.word is)
  value_word j a ys false x rest is h = absurd cc

  value_at : (s : Sign) (v : Spelling) (ys : Input) (x : SpecValue) (rest : Input) → value_by one s ((s, v) ∷ ys) ≡ Some (x, rest) → IsValue n ((s, v) ∷ ys) x rest
  value_at sign.LeftBracket v ys x rest h = items_then v ys x rest h
  value_at s v ys x rest h = value_word s v ys (is_dollar s) x rest refl h

  value_input : (xs : Input) (x : SpecValue) (rest : Input) → value_by one (kind xs) xs ≡ Some (x, rest) → IsValue n xs x rest
  value_input [] x rest h = absurd cc
  value_input (y ∷ ys) x rest h = value_at y.0 y.1 ys x rest h

value_sound : (n : ℕ) → SoundValue n (value_of n)
unfolding value_of
value_sound zero xs x rest h = value_input zero (item_of refuse) (item_sound zero refuse (λ xs e r h. absurd cc)) xs x rest h
value_sound (suc n) xs x rest h = value_input (suc n) (item_of (entry_with (value_of n))) (item_sound (suc n) (entry_with (value_of n)) (λ xs e r h. g.entry_item (entry_sound n (value_of n) (value_sound n) xs e r h))) xs x rest h

entries_sound : (n : ℕ) (xs : Input) (es : List SpecEntry) (rest : Input) → list_from (entry_with (value_of n)) (length xs) [] xs ≡ Some (es, rest) → AreEntries n xs es rest
entries_sound n xs es rest h =
    let r = list_sound (IsEntry n) (AreEntries n) (λ c xs rest a d. g.last_entry d) (λ c xs mid rest a others d ds. g.more_entries d ds) (entry_with (value_of n)) (λ xs e r h. entry_sound n (value_of n) (value_sound n) xs e r h) (length xs) [] xs es rest h in
    subst (λ (x : List SpecEntry). AreEntries n xs x rest) (sym r.out_is) r.are

logic_end : (n : ℕ) (j : Sign) (a s b : Spelling) (k : Sign) (w : Spelling) (ys : Input) (l : LogicSpec) (rest : Input) → is_dollar j ≡ true → entries_by (entry_with (value_of n)) a k ((k, w) ∷ ys) ≡ Some (l, rest) → IsLogic n ((j, a) ∷ (sign.Is, s) ∷ (sign.LeftBracket, b) ∷ (k, w) ∷ ys) l rest
logic_end n j a s b sign.RightBracket w ys l rest is h = moved (λ (x : LogicSpec) r. IsLogic n ((j, a) ∷ (sign.Is, s) ∷ (sign.LeftBracket, b) ∷ (sign.RightBracket, w) ∷ ys) x r) (logic_of a [], ys) (l, rest) h (g.no_entries is)
logic_end n j a s b k w ys l rest is h =
    let c = bound (list_from (entry_with (value_of n)) (length ((k, w) ∷ ys)) [] ((k, w) ∷ ys)) (λ es. pure (logic_of a es)) (l, rest) h in
    moved (λ (x : LogicSpec) r. IsLogic n ((j, a) ∷ (sign.Is, s) ∷ (sign.LeftBracket, b) ∷ (k, w) ∷ ys) x r) (logic_of a c.value, c.rest) (l, rest) c.then (g.entries is (entries_sound n ((k, w) ∷ ys) c.value c.rest c.first))

logic_last : (n : ℕ) (j : Sign) (a s b : Spelling) (xs : Input) (l : LogicSpec) (rest : Input) → is_dollar j ≡ true → entries_by (entry_with (value_of n)) a (kind xs) xs ≡ Some (l, rest) → IsLogic n ((j, a) ∷ (sign.Is, s) ∷ (sign.LeftBracket, b) ∷ xs) l rest
logic_last n j a s b [] l rest is h =
    let c = bound (list_from (entry_with (value_of n)) (length {A = Sign × Spelling} []) [] []) (λ es. pure (logic_of a es)) (l, rest) h in
    moved (λ (x : LogicSpec) r. IsLogic n ((j, a) ∷ (sign.Is, s) ∷ (sign.LeftBracket, b) ∷ []) x r) (logic_of a c.value, c.rest) (l, rest) c.then (g.entries is (entries_sound n [] c.value c.rest c.first))
logic_last n j a s b (y ∷ ys) l rest is h = logic_end n j a s b y.0 y.1 ys l rest is h

logic_by : (n : ℕ) (j : Sign) (a : Spelling) (ys : Input) (b : Bool) (l : LogicSpec) (rest : Input) → is_dollar j ≡ b → logic_if (entry_with (value_of n)) b ((j, a) ∷ ys) ≡ Some (l, rest) → IsLogic n ((j, a) ∷ ys) l rest
logic_by n j a ys false l rest is h = absurd cc
logic_by n j a ys true l rest is h =
    with_expected (λ (x : Input). IsLogic n ((j, a) ∷ x) l rest) sign.Is ys (λ i. and_then (expect sign.LeftBracket i) (λ u i. entries_by (entry_with (value_of n)) a (kind i) i)) (l, rest) end_is_no_is
    (λ s xs e. with_expected (λ (x : Input). IsLogic n ((j, a) ∷ (sign.Is, s) ∷ x) l rest) sign.LeftBracket xs (λ i. entries_by (entry_with (value_of n)) a (kind i) i) (l, rest) end_is_no_left_bracket
    (λ b zs e. logic_last n j a s b zs l rest is e) e) h

pub logic_sound : (n : ℕ) (xs : Input) (l : LogicSpec) (rest : Input) → logic_spec n xs ≡ Some (l, rest) → IsLogic n xs l rest
unfolding logic_spec
logic_sound n [] l rest h = absurd cc
logic_sound n (x ∷ ys) l rest h = logic_by n x.0 x.1 ys (is_dollar x.0) l rest refl h
