-- Statements that are read are regular, no deeper than their levels allow, and no heavier than the tokens that they take.
use Rattle.std.proofs.Common.{◌≡◌, ℕ, ◌+◌, ◌≤◌, Bool, true, false, cond, ◌&&◌, List, [], ◌∷◌, length, Option, refl, ap, ◌∙◌, arith}
use Rattle.std.specs.Prelude.{nat_le, codes}
use Rattle.std.specs.List.{AllByRecursion, list_all}
use Rattle.std.specs.Str.{bytes_eq}
use Rattle.std.proofs.lemmas.Bool.{and_from, le-leb}
use Rattle.nxf_terminals.specs.Input.{Spelling, Input}
use Rattle.nxf_tree.specs.Profiles.{Allowed}
use Rattle.nxf_base.specs.Bytes.{is_printable_text, is_word_text}
use Rattle.nxf_terminals.specs.Spelled.{IsSpelled}
use Rattle.nxf_terminals.proofs.CallerLemmas.{name_printable, name_word}
use Rattle.nxf_tree.specs.declared.tree.SortName.{SortName}
use Rattle.nxf_tree.specs.declared.tree.Typing.{Typing}
use Rattle.nxf_tree.specs.declared.tree.SpecKey.{SpecKey}
use Rattle.nxf_tree.specs.declared.tree.SpecValue.{SpecValue, Items}
use Rattle.nxf_tree.specs.declared.tree.SpecItem.{SpecItem, Entry}
use Rattle.nxf_tree.specs.declared.tree.SpecItem.TheBlock.{Row_of-SpecItem, end_of-SpecItem, more_of-SpecItem, hidden-the_row-SpecItem-0, items-the_row-SpecItem, items_hidden-the_row-SpecItem-0}
use Rattle.nxf_tree.specs.declared.tree.SpecEntry.{SpecEntry}
use Rattle.nxf_tree.specs.declared.tree.LogicSpec.{LogicSpec}
use Rattle.nxf_tree.specs.declared.tree.Role.{Role}
use Rattle.nxf_tree.specs.declared.tree.Body.{Body}
use Rattle.nxf_tree.specs.declared.tree.Statement.{Statement}
use Rattle.nxf_tree.specs.declared.tree.BodyKind.{BodyKind}
use Rattle.syntax_definitions.specs.Typings.{IsResult, of_sort, truth, AreSorts, last_sort, more_sorts, IsType, plain, of_one, of_sorts, brackets, IsTyping, in_brackets}
use Rattle.syntax_definitions.specs.Typings as t
use Rattle.syntax_definitions.specs.Logic.{IsKey, dollar, name, box, box_of, long, IsValue, word, none, items, AreItems, last_item, more_items, IsItem, word_item, entry_item, IsEntry, entry, AreEntries, last_entry, more_entries, IsLogic, no_entries, entries}
use Rattle.syntax_definitions.specs.Statements.{IsWord, IsName, IsRole, of_word, with_suffix, IsBody, typing, logic, formula, AreLabels, last_label, more_labels, IsStatement, annotated, noted, include, include_some}
use Rattle.syntax_definitions.specs.Statements as s
use Rattle.nxf_tree.specs.declared.tree.Body.TheVariants as body
use Rattle.nxf_tree.specs.declared.tree.Statement.TheVariants as statement
use Rattle.nxf_tree.specs.Depth.{formula_depth}
use Rattle.nxf_tree.specs.FileDepth.{statement_depth}
use Rattle.nxf_tree.specs.Weight.{value_weight, item_weight, entry_weight, item_list_weight, entry_list_weight, body_weight, statement_weight}
use Rattle.reading_laws.proofs.Weights.{value_weight_of_Items, item_weight_of_Entry}
use Rattle.nxf_tree.specs.RegularFormulas.{is_regular_sort}
use Rattle.reading_laws.proofs.LeftOfFormulas.{sort_left, index_left}
use Rattle.reading_laws.proofs.FineFormulas.{Fine, FineList, sort_shorter, sort_regular, index_shorter, index_regular, long_shorter, long_regular, formula_fine}
use Rattle.syntax_definitions.specs.declared.keyword.Keyword.TheVariants as keyword
use Rattle.nxf_tree.specs.Regular.{body_kind}
use Rattle.syntax_definitions.specs.Statements.{keyword_of}
use Rattle.nxf_tree.specs.Regular.{is_regular_result, is_regular_typing, is_regular_key, is_regular_value, is_regular_item, are_regular_items, is_regular_entry, is_regular_role, is_body_of, is_regular_body, is_regular_statement}
use Rattle.reading_laws.proofs.LeftOfStatements.{sorts_left, key_left, item_left, entry_left, word_left, name_left, role_left}

-- ---- values

item_row : {m : _} (is : Row_of-SpecItem m) → are_regular_items is ≡ list_all is_regular_item (items-the_row-SpecItem _ is)
item_row end_of-SpecItem = refl
item_row (more_of-SpecItem i is) = ap (λ b. is_regular_item i && b) (item_row is)

regular_Items : (is : List SpecItem) → is_regular_value (Items is) ≡ list_all is_regular_item is
regular_Items is = item_row (hidden-the_row-SpecItem-0 is) ∙ ap (list_all is_regular_item) (items_hidden-the_row-SpecItem-0 is)

regular_Entry : (e : SpecEntry) → is_regular_item (Entry e) ≡ is_regular_entry e
regular_Entry e = refl

-- a body is of the kind that its role asks for
kind_of_body : {most n : ℕ} {k : BodyKind} {xs rest : Input} {b : Body} → IsBody most n k xs b rest → is_body_of k b ≡ true
kind_of_body (typing d) = refl
kind_of_body (logic d) = refl
kind_of_body (formula d) = refl

include_by : (t i w : Bool) → cond t keyword.Tff (cond i (cond w keyword.Include keyword.Other) keyword.Other) ≡ keyword.Include → w ≡ true
include_by true i w e = absurd cc
include_by false true true e = refl
include_by false true false e = absurd cc
include_by false false w e = absurd cc

include_allowed : (w : Bool) (a : Spelling) → keyword_of w a ≡ keyword.Include → w ≡ true
include_allowed w a e = include_by (bytes_eq a (codes "tff")) (bytes_eq a (codes "include")) w e

module _ (l : Allowed) where
  -- ---- typings

  result_shorter : {xs rest : Input} {r : Option SortName} → IsResult xs r rest → 1 + length rest ≤ length xs
  result_shorter (of_sort d) = omega (arith, sort_shorter l d)
  result_shorter truth = omega arith

  result_regular : {xs rest : Input} {r : Option SortName} → IsResult xs r rest → AllByRecursion (IsSpelled l) xs → is_regular_result r ≡ true
  result_regular (of_sort d) q = sort_regular l d q
  result_regular truth q = refl

  sorts_fine : {k : ℕ} {xs rest : Input} {ss : List SortName} → AreSorts k xs ss rest → AllByRecursion (IsSpelled l) xs → FineList 0 0 0 (list_all is_regular_sort ss) (length ss) 1 k xs rest
  sorts_fine (last_sort {s = s} d) q = record { shallow = omega arith; light = omega (arith, sort_shorter l d); is_regular = and_from (is_regular_sort s) true (sort_regular l d q) refl; some = omega arith; few = omega arith }
  sorts_fine (more_sorts {s = s} {ss = ss} d ds) q =
      let left = sort_left (IsSpelled l) d q in
      let rs = sorts_fine ds left.1 in
      record { shallow = omega arith; light = omega (arith, sort_shorter l d, rs.light); is_regular = and_from (is_regular_sort s) (list_all is_regular_sort ss) (sort_regular l d q) rs.is_regular; some = omega arith; few = omega (arith, rs.few) }

  -- ---- logic statements

  key_shorter : {xs rest : Input} {k : SpecKey} → IsKey xs k rest → 1 + length rest ≤ length xs
  key_shorter (dollar e) = omega arith
  key_shorter name = omega arith
  key_shorter box = omega arith
  key_shorter (box_of d) = omega (arith, index_shorter l d)
  key_shorter (long d) = omega (arith, long_shorter l d)

  key_regular : {xs rest : Input} {k : SpecKey} → IsKey xs k rest → AllByRecursion (IsSpelled l) xs → is_regular_key k ≡ true
  key_regular (dollar e) q = refl
  key_regular (name {a = a}) q = name_printable a q.0
  key_regular box q = refl
  key_regular (box_of d) q = index_regular l d q.1.1
  key_regular (long d) q = long_regular l d q.1.1

  mutual
    value_fine : {n : ℕ} {xs rest : Input} {v : SpecValue} → IsValue n xs v rest → AllByRecursion (IsSpelled l) xs → Fine 0 0 (value_weight v) (is_regular_value v) xs rest
    value_fine (word e) q = record { shallow = omega arith; light = omega arith; is_regular = refl }
    value_fine none q = record { shallow = omega arith; light = omega (arith, value_weight_of_Items []); is_regular = regular_Items [] }
    value_fine (items {is = is} ds) q =
        let r = items_fine ds q.1 in
        record { shallow = omega arith; light = omega (arith, value_weight_of_Items is, r.light); is_regular = regular_Items is ∙ r.is_regular }

    items_fine : {n : ℕ} {xs rest : Input} {is : List SpecItem} → AreItems n xs is rest → AllByRecursion (IsSpelled l) xs → Fine 0 0 (item_list_weight is) (list_all is_regular_item is) xs rest
    items_fine (last_item {i = i} d) q =
        let r = item_fine d q in
        record { shallow = omega arith; light = omega (arith, r.light); is_regular = and_from (is_regular_item i) true r.is_regular refl }
    items_fine (more_items {i = i} {is = is} d ds) q =
        let r = item_fine d q in
        let left = item_left (IsSpelled l) d q in
        let rs = items_fine ds left.1 in
        record { shallow = omega arith; light = omega (arith, r.light, rs.light); is_regular = and_from (is_regular_item i) (list_all is_regular_item is) r.is_regular rs.is_regular }

    item_fine : {n : ℕ} {xs rest : Input} {i : SpecItem} → IsItem n xs i rest → AllByRecursion (IsSpelled l) xs → Fine 0 0 (item_weight i) (is_regular_item i) xs rest
    item_fine (word_item e) q = record { shallow = omega arith; light = omega arith; is_regular = refl }
    item_fine (entry_item {e = e} d) q =
        let r = entry_fine d q in
        record { shallow = omega arith; light = omega (arith, item_weight_of_Entry e, r.light); is_regular = regular_Entry e ∙ r.is_regular }

    entry_fine : {n : ℕ} {xs rest : Input} {e : SpecEntry} → IsEntry n xs e rest → AllByRecursion (IsSpelled l) xs → Fine 0 0 (entry_weight e) (is_regular_entry e) xs rest
    entry_fine (entry {k = k} {v = v} d e) q =
        let left = key_left (IsSpelled l) d q in
        let r = value_fine e left.1 in
        record { shallow = omega arith; light = omega (arith, key_shorter d, r.light); is_regular = and_from (is_regular_key k) (is_regular_value v) (key_regular d q) r.is_regular }

  entries_fine : {n : ℕ} {xs rest : Input} {es : List SpecEntry} → AreEntries n xs es rest → AllByRecursion (IsSpelled l) xs → Fine 0 0 (entry_list_weight es) (list_all is_regular_entry es) xs rest
  entries_fine (last_entry {e = e} d) q =
      let r = entry_fine d q in
      record { shallow = omega arith; light = omega (arith, r.light); is_regular = and_from (is_regular_entry e) true r.is_regular refl }
  entries_fine (more_entries {e = e} {es = es} d ds) q =
      let r = entry_fine d q in
      let left = entry_left (IsSpelled l) d q in
      let rs = entries_fine ds left.1 in
      record { shallow = omega arith; light = omega (arith, r.light, rs.light); is_regular = and_from (is_regular_entry e) (list_all is_regular_entry es) r.is_regular rs.is_regular }

  -- a logic statement needs `==`, which is allowed where modalities are
  logic_fine : {n : ℕ} {xs rest : Input} {s : LogicSpec} → IsLogic n xs s rest → AllByRecursion (IsSpelled l) xs → Fine 0 0 (entry_list_weight s.entries) (l.modal && list_all is_regular_entry s.entries) xs rest
  logic_fine (no_entries e) q = record { shallow = omega arith; light = omega arith; is_regular = and_from l.modal true q.1.0 refl }
  logic_fine (entries {es = es} e ds) q =
      let r = entries_fine ds q.1.1.1 in
      record { shallow = omega arith; light = omega (arith, r.light); is_regular = and_from l.modal (list_all is_regular_entry es) q.1.0 r.is_regular }

  -- ---- statements

  word_shorter : {xs rest : Input} {a : Spelling} → IsWord xs a rest → 1 + length rest ≤ length xs
  word_shorter (s.word e) = omega arith

  word_regular : {xs rest : Input} {a : Spelling} → IsWord xs a rest → AllByRecursion (IsSpelled l) xs → is_word_text a ≡ true
  word_regular (s.word {a = a} e) q = name_word a q.0 e

  role_shorter : {xs rest : Input} {r : Role} → IsRole xs r rest → 1 + length rest ≤ length xs
  role_shorter (of_word d) = word_shorter d
  role_shorter (with_suffix d e) = omega (arith, word_shorter d, word_shorter e)

  role_regular : {xs rest : Input} {r : Role} → IsRole xs r rest → AllByRecursion (IsSpelled l) xs → is_regular_role r ≡ true
  role_regular (of_word {a = a} d) q = and_from (is_word_text a) true (word_regular d q) refl
  role_regular (with_suffix {a = a} {b = b} d e) q =
      let left = word_left (IsSpelled l) d q in
      and_from (is_word_text a) (is_word_text b) (word_regular d q) (word_regular e left.1)

  labels_shorter : {xs rest : Input} {ls : List Spelling} → AreLabels xs ls rest → 1 + length rest ≤ length xs
  labels_shorter (last_label d) = omega (arith, index_shorter l d)
  labels_shorter (more_labels d ds) = omega (arith, index_shorter l d, labels_shorter ds)

  labels_regular : {xs rest : Input} {ls : List Spelling} → AreLabels xs ls rest → AllByRecursion (IsSpelled l) xs → list_all is_printable_text ls ≡ true
  labels_regular (last_label {a = a} d) q = and_from _ true (index_regular l d q) refl
  labels_regular (more_labels {a = a} {others = others} d ds) q =
      let left = index_left (IsSpelled l) d q in
      and_from (is_printable_text a) (list_all is_printable_text others) (index_regular l d q) (labels_regular ds left.1)

  name_shorter : {xs rest : Input} {a : Spelling} → IsName xs a rest → 1 + length rest ≤ length xs
  name_shorter s.name = omega arith

  name_regular : {xs rest : Input} {a : Spelling} → IsName xs a rest → AllByRecursion (IsSpelled l) xs → is_printable_text a ≡ true
  name_regular (s.name {a = a}) q = name_printable a q.0

  module _ (most : ℕ) (enough : most ≤ l.arguments) where
    symbol_regular : (f : Spelling) (ss : List SortName) (r : Option SortName) → is_printable_text f ≡ true → length ss ≤ most → list_all is_regular_sort ss ≡ true → is_regular_result r ≡ true → (is_printable_text f && (nat_le (length ss) l.arguments && (list_all is_regular_sort ss && is_regular_result r))) ≡ true
    symbol_regular f ss r named few sorts result =
        and_from (is_printable_text f) (nat_le (length ss) l.arguments && (list_all is_regular_sort ss && is_regular_result r)) named
        (and_from (nat_le (length ss) l.arguments) (list_all is_regular_sort ss && is_regular_result r) (le-leb (length ss) l.arguments (omega (arith, few, enough)))
        (and_from (list_all is_regular_sort ss) (is_regular_result r) sorts result))

    type_fine : {f : Spelling} {n : ℕ} {xs rest : Input} {t : Typing} → IsType most f n xs t rest → 1 ≤ most → is_printable_text f ≡ true → AllByRecursion (IsSpelled l) xs → Fine 0 0 0 (is_regular_typing l t) xs rest
    type_fine {f} (plain {r = r} d) one named q = record { shallow = omega arith; light = omega (arith, result_shorter d); is_regular = symbol_regular f [] r named (omega arith) refl (result_regular d q) }
    type_fine {f} (of_one {s = s} {r = r} d e) one named q =
        let left = sort_left (IsSpelled l) d q in
        record { shallow = omega arith; light = omega (arith, sort_shorter l d, result_shorter e); is_regular = symbol_regular f (s ∷ []) r named (omega (arith, one)) (and_from (is_regular_sort s) true (sort_regular l d q) refl) (result_regular e left.1) }
    type_fine {f} (of_sorts {ss = ss} {r = r} ds e) one named q =
        let rs = sorts_fine ds q.1 in
        let left = sorts_left (IsSpelled l) ds q.1 in
        record { shallow = omega arith; light = omega (arith, rs.light, result_shorter e); is_regular = symbol_regular f ss r named rs.few rs.is_regular (result_regular e left.1) }
    type_fine (brackets d) one named q =
        let r = type_fine d one named q.1 in
        record { shallow = omega arith; light = omega (arith, r.light); is_regular = r.is_regular }

    typing_fine : {n : ℕ} {xs rest : Input} {t : Typing} → IsTyping most n xs t rest → 1 ≤ most → AllByRecursion (IsSpelled l) xs → Fine 0 0 0 (is_regular_typing l t) xs rest
    typing_fine t.individual one q = record { shallow = omega arith; light = omega arith; is_regular = refl }
    typing_fine (t.sort {a = a}) one q = record { shallow = omega arith; light = omega arith; is_regular = name_printable a q.0 }
    typing_fine (t.symbol {a = a} d) one q =
        let r = type_fine d one (name_printable a q.0) q.1.1 in
        record { shallow = omega arith; light = omega (arith, r.light); is_regular = r.is_regular }
    typing_fine (in_brackets d) one q =
        let r = typing_fine d one q.1 in
        record { shallow = omega arith; light = omega (arith, r.light); is_regular = r.is_regular }

    -- how deep a body goes
    abbrev body_depth : Body → ℕ
    body_depth (body.Formula f) = formula_depth f
    body_depth (body.Typing t) = 0
    body_depth (body.Logic s) = 0

    body_fine : {n : ℕ} {k : BodyKind} {xs rest : Input} {b : Body} → IsBody most n k xs b rest → 1 ≤ most → AllByRecursion (IsSpelled l) xs → Fine (body_depth b) (n + n + 3) (body_weight b) (is_regular_body l b) xs rest
    body_fine (typing d) one q = let r = typing_fine d one q in record { shallow = omega arith; light = r.light; is_regular = r.is_regular }
    body_fine (logic d) one q = let r = logic_fine d q in record { shallow = omega arith; light = r.light; is_regular = r.is_regular }
    body_fine (formula d) one q = formula_fine l most enough d q

    statement_deep : (name : Spelling) (r : Role) (b : Body) → statement_depth (statement.Annotated name r b) ≡ body_depth b
    statement_deep label r (body.Formula f) = refl
    statement_deep label r (body.Typing t) = refl
    statement_deep label r (body.Logic s) = refl

    annotated_regular : (name : Spelling) (r : Role) (b : Body) → is_printable_text name ≡ true → is_regular_role r ≡ true → is_body_of (body_kind r.word) b ≡ true → is_regular_body l b ≡ true → is_regular_statement l (statement.Annotated name r b) ≡ true
    annotated_regular label r b named role kind regular =
        and_from (is_printable_text label) (is_regular_role r && (is_body_of (body_kind r.word) b && is_regular_body l b)) named
        (and_from (is_regular_role r) (is_body_of (body_kind r.word) b && is_regular_body l b) role
        (and_from (is_body_of (body_kind r.word) b) (is_regular_body l b) kind regular))

    pub statement_fine : {w : Bool} {n : ℕ} {xs rest : Input} {s : Statement} → IsStatement w most n xs s rest → 1 ≤ most → (w ≡ true → l.modal ≡ true) → AllByRecursion (IsSpelled l) xs → Fine (statement_depth s) (n + n + 3) (statement_weight s) (is_regular_statement l s) xs rest
    statement_fine (annotated {label = label} {r = r} {b = b} e i d u) one modal q =
        let after_label = index_left (IsSpelled l) i q.1.1 in
        let after_role = role_left (IsSpelled l) d after_label.1 in
        let f = body_fine u one after_role.1 in
        record {
          shallow = omega (arith, statement_deep label r b, f.shallow);
          light = omega (arith, index_shorter l i, role_shorter d, f.light);
          is_regular = annotated_regular label r b (index_regular l i q.1.1) (role_regular d after_label.1) (kind_of_body u) f.is_regular;
        }
    statement_fine (noted {label = label} {r = r} {b = b} e i d u a) one modal q =
        let after_label = index_left (IsSpelled l) i q.1.1 in
        let after_role = role_left (IsSpelled l) d after_label.1 in
        let f = body_fine u one after_role.1 in
        record {
          shallow = omega (arith, statement_deep label r b, f.shallow);
          light = omega (arith, index_shorter l i, role_shorter d, f.light, a.some);
          is_regular = annotated_regular label r b (index_regular l i q.1.1) (role_regular d after_label.1) (kind_of_body u) f.is_regular;
        }
    statement_fine {w} (include {a = a} {file = file} e d) one modal q = record {
      shallow = omega arith;
      light = omega (arith, name_shorter d);
      is_regular = and_from l.modal (is_printable_text file && true) (modal (include_allowed w a e)) (and_from (is_printable_text file) true (name_regular d q.1.1) refl);
    }
    statement_fine {w} (include_some {a = a} {file = file} {names = names} e d ds) one modal q =
        let after_name = name_left (IsSpelled l) d q.1.1 in
        record {
          shallow = omega arith;
          light = omega (arith, name_shorter d, labels_shorter ds);
          is_regular = and_from l.modal (is_printable_text file && list_all is_printable_text names) (modal (include_allowed w a e)) (and_from (is_printable_text file) (list_all is_printable_text names) (name_regular d q.1.1) (labels_regular ds after_name.1.1));
        }
