-- What is known after one part more.
use Rattle.std.proofs.Common.{◌≡◌, ◌<◌, ℕ, ◌+◌, Bool, List, [], ◌∷◌, ◌++◌, take, drop, length, get_or, Option, None, Some, refl, ap, ◌∙◌, sym, subst, arith}
use Rattle.std.specs.Prelude.{flat_map, Result, Ok, Err, OnOk}
use Rattle.std.specs.Option.{option_or, option_map}
use Rattle.std.proofs.lemmas.List.{append-nil, append_assoc, at_drop_more, take_more}
use Rattle.nxf_tree.specs.declared.tree.SortName.{SortName}
use Rattle.interpretation_definitions.specs.declared.error.InterpError.{InterpError}
use Rattle.interpretation_definitions.specs.declared.error.InterpError.TheVariants as error
use Rattle.interpretation_definitions.specs.declared.fault.PartFault.{PartFault}
use Rattle.interpretation_definitions.specs.Context.{Context, listings_of}
use Rattle.interpretation_definitions.specs.Given.{given_by, own_rows, stated}
use Rattle.interpretation_definitions.specs.Judging.{listings_before, part_fault}
use Rattle.interpretation_definitions.specs.Parts.{Part, Closes}
use Rattle.interpretation_parts.specs.declared.closures.Closures.{Closures}
use Rattle.interpretation_parts.specs.declared.items.Item.{Item}
use Rattle.interpretation_parts.specs.steps.After.{IsAfter, RefusesFault}
use Rattle.interpretation_parts.specs.steps.Closed.{AreNoted}
use Rattle.interpretation_parts.specs.steps.Held.{HasRows}
use Rattle.interpretation_parts.specs.steps.Items.{item_fault, items_in, parts_in_items, said_part}
use Rattle.interpretation_parts.proofs.ItemLemmas.{flat_map-append, parts_in_items-last}

pub given-last : (c : Context) (parts : List Part) (part : Part) → given_by c (parts ++ part ∷ []) ≡ given_by c parts ++ stated c part
given-last c parts part =
    ap (λ l. own_rows c ++ l) (flat_map-append (stated c) parts (part ∷ []) ∙ ap (λ l. flat_map (stated c) parts ++ l) (append-nil (stated c part)))
    ∙ sym (append_assoc (own_rows c) (flat_map (stated c) parts) (stated c part))

pub listings-last : (c : Context) (parts : List Part) (part : Part) → listings_before c (parts ++ part ∷ []) ≡ listings_before c parts ++ listings_of c.sorts part
listings-last c parts part = flat_map-append (listings_of c.sorts) parts (part ∷ []) ∙ ap (λ l. listings_before c parts ++ l) (append-nil (listings_of c.sorts part))

-- a part that states rows
pub after_row : (c : Context) (rows new : List (List ℕ × ℕ)) (closures : Closures) (parts : List Part) (part : Part) → IsAfter c rows closures parts
    → listings_of c.sorts part ≡ [] → HasRows new (given_by c parts ++ stated c part) → IsAfter c new closures (parts ++ part ∷ [])
after_row c rows new closures parts part after none has = record {
  given = subst (HasRows new) (sym (given-last c parts part)) has;
  noted = subst (λ ls. AreNoted ls closures) (sym (listings-last c parts part ∙ ap (λ l. listings_before c parts ++ l) none ∙ append-nil (listings_before c parts))) after.noted;
  count = after.count;
}

-- a part that states and lists nothing
pub after_nothing : (c : Context) (rows : List (List ℕ × ℕ)) (closures : Closures) (parts : List Part) (part : Part) → IsAfter c rows closures parts
    → listings_of c.sorts part ≡ [] → stated c part ≡ [] → IsAfter c rows closures (parts ++ part ∷ [])
after_nothing c rows closures parts part after none no_rows =
    after_row c rows rows closures parts part after none (subst (HasRows rows) (sym (ap (λ l. given_by c parts ++ l) no_rows ∙ append-nil (given_by c parts))) after.given)

-- a closure
pub after_closure : (c : Context) (rows : List (List ℕ × ℕ)) (closures new : Closures) (parts : List Part) (s : SortName) (names : List (List ℕ)) → IsAfter c rows closures parts
    → AreNoted (listings_before c parts ++ listings_of c.sorts (Closes s names)) new → length new.closed.items ≡ length closures.closed.items → IsAfter c rows new (parts ++ Closes s names ∷ [])
after_closure c rows closures new parts s names after noted count = record {
  given = subst (HasRows rows) (sym (given-last c parts (Closes s names) ∙ append-nil (given_by c parts))) after.given;
  noted = subst (λ ls. AreNoted ls new) (sym (listings-last c parts (Closes s names))) noted;
  count = count ∙ after.count;
}

pub on_ok : {T E : Type 0} (r : Result T E) {P Q : Type 0} → (P → Q) → OnOk r P → OnOk r Q
on_ok (Ok x) f p = f p
on_ok (Err e) f p = p

-- one item more
step : (c : Context) (before : List Part) (x : Item) (rest : List (ℕ × Part)) (part : Part) (o : Option PartFault) → part ≡ said_part x.said → part_fault c before part ≡ o
    → item_fault c before ((x.statement, said_part x.said) ∷ rest) ≡ option_or (option_map (λ fault. (x.statement, fault)) o) (item_fault c (before ++ part ∷ []) rest)
step c before x rest part o is fault =
    ap (λ p. option_or (option_map (λ fault. (x.statement, fault)) (part_fault c before p)) (item_fault c (before ++ p ∷ []) rest)) (sym is)
    ∙ ap (λ q. option_or (option_map (λ fault. (x.statement, fault)) q) (item_fault c (before ++ part ∷ []) rest)) fault

pub parts-next : (items : List Item) (i : ℕ) (d : Item) (part : Part) → i < length items → part ≡ said_part (get_or items i d).said
    → parts_in_items (take (i + 1) items) ≡ parts_in_items (take i items) ++ part ∷ []
parts-next items i d part lt is = ap parts_in_items (take_more items i d lt) ∙ parts_in_items-last (take i items) (get_or items i d) part is

-- an item without a fault
pub judged_next : (c : Context) (items : List Item) (i : ℕ) (d : Item) (part : Part) → i < length items → part ≡ said_part (get_or items i d).said
    → part_fault c (parts_in_items (take i items)) part ≡ None
    → item_fault c (parts_in_items (take i items)) (items_in (drop i items)) ≡ item_fault c (parts_in_items (take (i + 1) items)) (items_in (drop (i + 1) items))
judged_next c items i d part lt is fault =
    at_drop_more (λ xs. item_fault c (parts_in_items (take i items)) (items_in xs)) items i d lt
    ∙ step c (parts_in_items (take i items)) (get_or items i d) (items_in (drop (i + 1) items)) part None is fault
    ∙ ap (λ ps. item_fault c ps (items_in (drop (i + 1) items))) (sym (parts-next items i d part lt is))

-- an item at which the refusal is given
pub judged_refused : (c : Context) (items : List Item) (i : ℕ) (d : Item) (part : Part) (e : InterpError) → i < length items → part ≡ said_part (get_or items i d).said
    → RefusesFault (option_map (λ fault. ((get_or items i d).statement, fault)) (part_fault c (parts_in_items (take i items)) part)) e
    → RefusesFault (item_fault c (parts_in_items (take i items)) (items_in (drop i items))) e
judged_refused c items i d part e lt is refuses =
    subst (λ o. RefusesFault o e)
    (sym (at_drop_more (λ xs. item_fault c (parts_in_items (take i items)) (items_in xs)) items i d lt
    ∙ step c (parts_in_items (take i items)) (get_or items i d) (items_in (drop (i + 1) items)) part (part_fault c (parts_in_items (take i items)) part) is refl))
    (weaker (part_fault c (parts_in_items (take i items)) part) (item_fault c (parts_in_items (take i items) ++ part ∷ []) (items_in (drop (i + 1) items))) e refuses)
  where
    weaker : (o : Option PartFault) (rest : Option (ℕ × PartFault)) (e : InterpError) → RefusesFault (option_map (λ fault. ((get_or items i d).statement, fault)) o) e
        → RefusesFault (option_or (option_map (λ fault. ((get_or items i d).statement, fault)) o) rest) e
    weaker (Some f) rest e h = h
    weaker None rest (error.Kind kind) h = cc
    weaker None rest (error.TooManyWorlds worlds) h = h
    weaker None rest (error.TooBig cells) h = h
    weaker None rest error.Memory h = h

pub always : {T E : Type 0} (r : Result T E) {P : Type 0} → P → OnOk r P
always (Ok x) p = p
always (Err e) p = tt
