-- A whole file: its sizes, its context, and the rows that its parts give.
use Rattle.std.proofs.Common.{◌≡◌, ◌<◌, ℕ, suc, ◌+◌, List, [], ◌∷◌, ◌++◌, map, length, get_or, max, Option, None, Some, Result, Err, refl, ap, ap₂, ◌∙◌, sym, subst, arith}
use Rattle.std.specs.Prelude.{flat_map, slice_index, unwrap_or}
use Rattle.std.specs.Option.{option_map}
use Rattle.std.proofs.lemmas.List.{append-nil}
use Rattle.nxf_base.specs.declared.status.InterpKind.{InterpKind}
use Rattle.nxf_tree.specs.declared.tree.File.{File}
use Rattle.nxf_tree.specs.declared.tree.SortName.{SortName}
use Rattle.nxf_tree.specs.declared.tree.Statement.{Statement}
use Rattle.nxf_tree.specs.declared.tree.ClassicalSignature.{ClassicalSignature}
use Rattle.nxf_tree.specs.Rows.{AreSizes, size_at}
use Rattle.classical_signature_laws.specs.ClassicalSignatures.{HasSorts}
use Rattle.fin_struct.specs.Cells.{bound_of}
use Rattle.fin_struct.specs.StructureTables.{StructureTables}
use Rattle.interpretation_definitions.specs.declared.element.Element.{Element}
use Rattle.interpretation_definitions.specs.declared.error.InterpError.{InterpError}
use Rattle.interpretation_definitions.specs.declared.error.InterpError.TheVariants as error
use Rattle.interpretation_definitions.specs.declared.fault.PartFault.{PartFault}
use Rattle.interpretation_definitions.specs.Parts.{Part, all_parts, parts_of}
use Rattle.interpretation_definitions.specs.Context.{Context, actual_entry, context_of, count_for, elements_listed, listings_of, symbols_of}
use Rattle.interpretation_definitions.specs.Given.{Given, given_by, own_rows}
use Rattle.interpretation_definitions.specs.Interpretation.{interpretation_of, sizes_from, sizes_of, unless_fault, within_limits}
use Rattle.interpretation_parts.specs.declared.items.Item.{Item}
use Rattle.interpretation_parts.specs.steps.After.{RefusesFault}
use Rattle.interpretation_parts.specs.steps.Held.{HasRows}
use Rattle.interpretation_parts.specs.steps.Items.{item_fault, items_in, numbered, numbered_parts, parts_in_items}
use Rattle.interpretation_parts.proofs.CallerLemmas.{AllBelow, IsContextOf, found_below, given_below, listings_counted, fault_of_items, map-append}
use Rattle.interp_reader.specs.Refusals.{Refuses}
use Rattle.interp_reader.specs.steps.Filling.{AreBelow, rows_in}
use Rattle.interp_reader.specs.steps.Whole.{faultless, items_give, parts_of_items}
use Rattle.interp_reader.proofs.GivenLemmas.{same_rows}

-- the sizes of the sorts
sizes_counted : (elements : List (List ℕ × Element)) (k : ℕ) (counts : List ℕ) (sorts : List SortName) → length counts ≡ length sorts
    → ((j : ℕ) → j < length counts → slice_index counts j ≡ count_for (j + k) elements) → map (max 1) counts ≡ sizes_from k elements sorts
sizes_counted elements k [] [] same counted = refl
sizes_counted elements k [] (s ∷ sorts) same counted = absurd (omega (arith, same))
sizes_counted elements k (c ∷ counts) [] same counted = absurd (omega (arith, same))
sizes_counted elements k (c ∷ counts) (s ∷ sorts) same counted =
    ap₂ ◌∷◌
    (ap (max 1) (counted 0 (omega arith) ∙ ap (λ n. count_for n elements) (omega arith)))
    (sizes_counted elements (suc k) counts sorts (omega (arith, same)) (λ j lt. counted (suc j) (omega (arith, lt)) ∙ ap (λ n. count_for n elements) (omega arith)))

pub sizes_are : (elements : List (List ℕ × Element)) (counts : List ℕ) (sorts : List SortName) → length counts ≡ length sorts
    → ((j : ℕ) → j < length counts → slice_index counts j ≡ count_for j elements) → map (max 1) counts ≡ sizes_from 0 elements sorts
sizes_are elements counts sorts same counted =
    sizes_counted elements 0 counts sorts same (λ j lt. counted j lt ∙ ap (λ n. count_for n elements) (omega arith))

-- each sort has an element
pub sizes_fit : (k : ℕ) (elements : List (List ℕ × Element)) (sorts : List SortName) → AreSizes sorts (sizes_from k elements sorts)
sizes_fit k elements [] = tt
sizes_fit k elements (s ∷ sorts) = (omega arith, sizes_fit (suc k) elements sorts)

-- the context of parts is one of the signature
pub context_fits : (csig : ClassicalSignature) (parts : List Part) → IsContextOf csig (context_of csig parts)
context_fits csig parts = record { sorts = refl; symbols = refl; counted = listings_counted (flat_map (listings_of csig.sorts) parts) }

-- each value in the map is below its bound
pub rows_below : (csig : ClassicalSignature) (sizes : List ℕ) (entries : List (List ℕ × ℕ)) (given : List Given) → AllBelow csig sizes given → HasRows entries given → AreBelow csig sizes entries
rows_below csig sizes entries given below has = record {
  worlds = λ value is. found_below csig sizes given 0 [] value actual_entry below (omega arith) (sym (has 0 []) ∙ is);
  values = λ t d row value lt is.
      let next : t + 1 ≡ suc t = omega arith in
      subst (λ k. value < bound_of (option_map (size_at sizes) (get_or (symbols_of csig) k d).gives)) next
      (found_below csig sizes given (t + 1) row value d below (omega (arith, lt)) (sym (has (t + 1) row) ∙ is));
}

pub faultless_below : (csig : ClassicalSignature) (items : List (ℕ × Part)) (entries : List (List ℕ × ℕ)) → HasSorts csig → item_fault (context_of csig (parts_of_items items)) [] items ≡ None
    → HasRows entries (given_by (context_of csig (parts_of_items items)) (parts_of_items items)) → AreBelow csig (sizes_of (context_of csig (parts_of_items items))) entries
faultless_below csig items entries sorts none has =
    let context = context_of csig (parts_of_items items) in
    rows_below csig (sizes_of context) entries (given_by context (parts_of_items items))
    (given_below csig context (context_fits csig (parts_of_items items)) sorts items none) has

-- before any part there are the rows that closures give
pub rows_first : (c : Context) (entries : List (List ℕ × ℕ)) → HasRows entries (own_rows c) → HasRows entries (given_by c [])
rows_first c entries has = subst (HasRows entries) (sym (append-nil (own_rows c))) has

-- the parts of the items are those of the statements
parts_numbered : (k : ℕ) (parts : List Part) → parts_of_items (numbered k parts) ≡ parts
parts_numbered k [] = refl
parts_numbered k (p ∷ parts) = ap (λ ps. p ∷ ps) (parts_numbered k parts)

pub parts_are : (k : ℕ) (ss : List Statement) → parts_of_items (numbered_parts k ss) ≡ all_parts ss
parts_are k [] = refl
parts_are k (s ∷ ss) =
    map-append (λ (p : ℕ × Part). p.1) (numbered k (parts_of s)) (numbered_parts (suc k) ss)
    ∙ ap₂ ◌++◌ (parts_numbered k (parts_of s)) (parts_are (suc k) ss)

-- a file gives what its items give
pub file_gives : (csig : ClassicalSignature) (file : File) → items_give csig (numbered_parts 1 file.statements) ≡ interpretation_of csig file
file_gives csig file =
    ap (λ parts. told (context_of csig parts) parts) (parts_are 1 file.statements)
    ∙ ap (λ o. unless_fault o (faultless csig (context_of csig (all_parts file.statements)) (all_parts file.statements)))
    (sym (fault_of_items (context_of csig (all_parts file.statements)) file.statements))
  where
    told : Context → List Part → Result StructureTables InterpError
    told context parts = unless_fault (item_fault context [] (numbered_parts 1 file.statements)) (faultless csig context parts)

-- a fault refuses the whole
pub fault_refuses : (fault : Option (ℕ × PartFault)) (more : Result StructureTables InterpError) (e : InterpError) → RefusesFault fault e → Refuses (unless_fault fault more) e
fault_refuses None more (error.Kind k) h = cc
fault_refuses (Some f) more (error.Kind k) h = ap (λ (o : Option InterpKind). Err (error.Kind (unwrap_or o k))) h
fault_refuses fault more (error.TooManyWorlds n) h = absurd h
fault_refuses fault more (error.TooBig n) h = absurd h
fault_refuses fault more error.Memory h = tt

-- what parts without a fault give
pub answered : (csig : ClassicalSignature) (items : List (ℕ × Part)) (sizes : List ℕ) (entries : List (List ℕ × ℕ)) → item_fault (context_of csig (parts_of_items items)) [] items ≡ None
    → HasRows entries (given_by (context_of csig (parts_of_items items)) (parts_of_items items)) → sizes ≡ sizes_of (context_of csig (parts_of_items items))
    → within_limits sizes (rows_in entries) csig ≡ items_give csig items
answered csig items sizes entries none has is =
    let context = context_of csig (parts_of_items items) in
    ap (λ ss. within_limits ss (rows_in entries) csig) is
    ∙ ap (λ rows. within_limits (sizes_of context) rows csig) (same_rows entries (given_by context (parts_of_items items)) has)
    ∙ ap (λ o. unless_fault o (faultless csig context (parts_of_items items))) (sym none)

-- the sizes of the elements that were listed are those of the context
pub frame_sizes : (csig known : ClassicalSignature) (parts : List Part) (elements : List (List ℕ × Element)) (counts slice sizes : List ℕ) → known ≡ csig → elements ≡ elements_listed known.sorts parts
    → length counts ≡ length known.sorts → ((j : ℕ) → j < length counts → slice_index counts j ≡ count_for j elements) → slice ≡ counts → sizes ≡ map (max 1) slice
    → sizes ≡ sizes_of (context_of csig parts)
frame_sizes csig known parts elements counts slice sizes own listed same counted lent is =
    is ∙ ap (map (max 1)) lent ∙ sizes_are elements counts known.sorts same counted
    ∙ ap (λ es. sizes_from 0 es known.sorts) listed
    ∙ ap (λ (k : ClassicalSignature). sizes_from 0 (elements_listed k.sorts parts) k.sorts) own

-- the limits of the sizes and rows that were read are the rest of the definition
pub whole_read : (csig : ClassicalSignature) (file : File) (items others : List Item) (held : Context) (sizes : List ℕ) (entries : List (List ℕ × ℕ)) → others ≡ items
    → items_in items ≡ numbered_parts 1 file.statements → held ≡ context_of csig (parts_in_items items) → sizes ≡ sizes_of (context_of csig (parts_in_items items))
    → item_fault held [] (items_in others) ≡ None → HasRows entries (given_by held (parts_in_items others)) → within_limits sizes (rows_in entries) csig ≡ interpretation_of csig file
whole_read csig file items others held sizes entries same numbers context is none has =
    answered csig (items_in items) sizes entries
    (subst (λ x. item_fault x [] (items_in items) ≡ None) context (subst (λ xs. item_fault held [] (items_in xs) ≡ None) same none))
    (subst (λ x. HasRows entries (given_by x (parts_in_items items))) context (subst (λ xs. HasRows entries (given_by held (parts_in_items xs))) same has))
    is
    ∙ ap (items_give csig) numbers ∙ file_gives csig file
