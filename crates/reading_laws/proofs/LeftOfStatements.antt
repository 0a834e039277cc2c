-- What is left after a part of a statement is an end of what was there: what holds of each item holds of each that is left.
use Rattle.std.proofs.Common.{◌≢◌, ℕ, Bool, List, Option, refl}
use Rattle.std.specs.List.{AllByRecursion}
use Rattle.nxf_terminals.specs.declared.sign.Sign.TheVariants as sign
use Rattle.nxf_terminals.specs.Input.{Spelling, Item, Input}
use Rattle.reading_laws.proofs.LeftOfFormulas.{sort_left, index_left, long_left, formula_left}
use Rattle.nxf_tree.specs.declared.tree.SortName.{SortName}
use Rattle.nxf_tree.specs.declared.tree.Typing.{Typing}
use Rattle.nxf_tree.specs.declared.tree.SpecKey.{SpecKey}
use Rattle.nxf_tree.specs.declared.tree.SpecValue.{SpecValue}
use Rattle.nxf_tree.specs.declared.tree.SpecItem.{SpecItem}
use Rattle.nxf_tree.specs.declared.tree.SpecEntry.{SpecEntry}
use Rattle.nxf_tree.specs.declared.tree.LogicSpec.{LogicSpec}
use Rattle.nxf_tree.specs.declared.tree.Role.{Role}
use Rattle.nxf_tree.specs.declared.tree.Body.{Body}
use Rattle.nxf_tree.specs.declared.tree.Statement.{Statement}
use Rattle.nxf_tree.specs.declared.tree.BodyKind.{BodyKind}
use Rattle.syntax_definitions.specs.Typings.{IsResult, of_sort, truth, AreSorts, last_sort, more_sorts, IsType, plain, of_one, of_sorts, brackets, IsTyping, in_brackets}
use Rattle.syntax_definitions.specs.Typings as t
use Rattle.syntax_definitions.specs.Logic.{IsKey, dollar, name, box, box_of, long, IsValue, word, none, items, AreItems, last_item, more_items, IsItem, word_item, entry_item, IsEntry, entry, AreEntries, last_entry, more_entries, IsLogic, no_entries, entries}
use Rattle.syntax_definitions.specs.Statements.{IsWord, IsName, IsRole, of_word, with_suffix, IsBody, typing, logic, formula, AreLabels, last_label, more_labels, IsStatement, annotated, noted, include, include_some}
use Rattle.syntax_definitions.specs.Statements as s
use Rattle.syntax_definitions.specs.Annotations.{Open, Balances, balanced, token, IsAnnotation}

module _ (Q : Item → Type 0) where
  -- ---- typings

  pub result_left : {xs rest : Input} {r : Option SortName} → IsResult xs r rest → AllByRecursion Q xs → AllByRecursion Q rest
  result_left (of_sort d) q = sort_left Q d q
  result_left truth q = q.1

  pub sorts_left : {k : ℕ} {xs rest : Input} {ss : List SortName} → AreSorts k xs ss rest → AllByRecursion Q xs → AllByRecursion Q rest
  sorts_left (last_sort d) q = let r = sort_left Q d q in r.1
  sorts_left (more_sorts d ds) q = let r = sort_left Q d q in sorts_left ds r.1

  pub type_left : {most : ℕ} {f : Spelling} {n : ℕ} {xs rest : Input} {t : Typing} → IsType most f n xs t rest → AllByRecursion Q xs → AllByRecursion Q rest
  type_left (plain d) q = result_left d q
  type_left (of_one d e) q = let r = sort_left Q d q in result_left e r.1
  type_left (of_sorts d e) q = let r = sorts_left d q.1 in result_left e r.1
  type_left (brackets d) q = let r = type_left d q.1 in r.1

  pub typing_left : {most n : ℕ} {xs rest : Input} {t : Typing} → IsTyping most n xs t rest → AllByRecursion Q xs → AllByRecursion Q rest
  typing_left t.individual q = q.1.1.1
  typing_left t.sort q = q.1.1.1
  typing_left (t.symbol d) q = type_left d q.1.1
  typing_left (in_brackets d) q = let r = typing_left d q.1 in r.1

  -- ---- logic statements

  pub key_left : {xs rest : Input} {k : SpecKey} → IsKey xs k rest → AllByRecursion Q xs → AllByRecursion Q rest
  key_left (dollar e) q = q.1
  key_left name q = q.1
  key_left box q = q.1
  key_left (box_of d) q = let r = index_left Q d q.1.1 in r.1
  key_left (long d) q = long_left Q d q.1.1

  mutual
    pub value_left : {n : ℕ} {xs rest : Input} {v : SpecValue} → IsValue n xs v rest → AllByRecursion Q xs → AllByRecursion Q rest
    value_left (word e) q = q.1
    value_left none q = q.1.1
    value_left (items ds) q = items_left ds q.1

    pub items_left : {n : ℕ} {xs rest : Input} {is : List SpecItem} → AreItems n xs is rest → AllByRecursion Q xs → AllByRecursion Q rest
    items_left (last_item d) q = let r = item_left d q in r.1
    items_left (more_items d ds) q = let r = item_left d q in items_left ds r.1

    pub item_left : {n : ℕ} {xs rest : Input} {i : SpecItem} → IsItem n xs i rest → AllByRecursion Q xs → AllByRecursion Q rest
    item_left (word_item e) q = q.1
    item_left (entry_item d) q = entry_left d q

    pub entry_left : {n : ℕ} {xs rest : Input} {e : SpecEntry} → IsEntry n xs e rest → AllByRecursion Q xs → AllByRecursion Q rest
    entry_left (entry k v) q = let r = key_left k q in value_left v r.1

  pub entries_left : {n : ℕ} {xs rest : Input} {es : List SpecEntry} → AreEntries n xs es rest → AllByRecursion Q xs → AllByRecursion Q rest
  entries_left (last_entry d) q = let r = entry_left d q in r.1
  entries_left (more_entries d ds) q = let r = entry_left d q in entries_left ds r.1

  pub logic_left : {n : ℕ} {xs rest : Input} {l : LogicSpec} → IsLogic n xs l rest → AllByRecursion Q xs → AllByRecursion Q rest
  logic_left (no_entries e) q = q.1.1.1.1
  logic_left (entries e ds) q = entries_left ds q.1.1.1

  -- ---- statements

  pub word_left : {xs rest : Input} {a : Spelling} → IsWord xs a rest → AllByRecursion Q xs → AllByRecursion Q rest
  word_left (s.word e) q = q.1

  pub name_left : {xs rest : Input} {a : Spelling} → IsName xs a rest → AllByRecursion Q xs → AllByRecursion Q rest
  name_left s.name q = q.1

  pub role_left : {xs rest : Input} {r : Role} → IsRole xs r rest → AllByRecursion Q xs → AllByRecursion Q rest
  role_left (of_word d) q = word_left d q
  role_left (with_suffix d e) q = let r = word_left d q in word_left e r.1

  pub body_left : {most n : ℕ} {k : BodyKind} {xs rest : Input} {b : Body} → IsBody most n k xs b rest → AllByRecursion Q xs → AllByRecursion Q rest
  body_left (typing d) q = typing_left d q
  body_left (logic d) q = logic_left d q
  body_left (formula d) q = formula_left Q d q

  pub labels_left : {xs rest : Input} {ls : List Spelling} → AreLabels xs ls rest → AllByRecursion Q xs → AllByRecursion Q rest
  labels_left (last_label d) q = let r = index_left Q d q in r.1
  labels_left (more_labels d ds) q = let r = index_left Q d q in labels_left ds r.1

  balances_left : {o : Open} {xs rest : Input} → Balances o xs rest → AllByRecursion Q xs → AllByRecursion Q rest
  balances_left balanced q = q
  balances_left (token e d) q = balances_left d q.1

  pub annotation_left : {xs rest : Input} → IsAnnotation xs rest → AllByRecursion Q xs → AllByRecursion Q rest
  annotation_left d q = balances_left d.balances q

-- no full stop
abbrev IsNoStop : Item → Type 0
IsNoStop x = x.0 ≢ sign.Stop

-- a statement has a full stop
pub stop_needed : {w : Bool} {most n : ℕ} {xs rest : Input} {s : Statement} → IsStatement w most n xs s rest → AllByRecursion IsNoStop xs → ⊥
stop_needed (annotated e i r b) q =
    let after_label = index_left IsNoStop i q.1.1 in
    let after_role = role_left IsNoStop r after_label.1 in
    let after_body = body_left IsNoStop b after_role.1 in
    after_body.1.0 refl
stop_needed (noted e i r b a) q =
    let after_label = index_left IsNoStop i q.1.1 in
    let after_role = role_left IsNoStop r after_label.1 in
    let after_body = body_left IsNoStop b after_role.1 in
    let after_note = annotation_left IsNoStop a after_body.1 in
    after_note.1.0 refl
stop_needed (include e d) q = let after_name = name_left IsNoStop d q.1.1 in after_name.1.0 refl
stop_needed (include_some e d ds) q =
    let after_name = name_left IsNoStop d q.1.1 in
    let after_labels = labels_left IsNoStop ds after_name.1.1 in
    after_labels.1.0 refl
