-- What is read so far can be completed to a whole structure.
use Rattle.std.proofs.Common.{◌≡◌, ℕ, zero, suc, ◌<◌, Bool, true, false, cond, List, [], ◌∷◌, ◌++◌, map, Option, None, Some, refl, sym, ap, ap₂, subst, ◌∙◌, append_assoc, arith}
use Rattle.std.specs.Option.{option_map}
use Rattle.std.specs.List.{list_all}
use Rattle.std.proofs.lemmas.Bool.{and_parts}
use Rattle.std.proofs.lemmas.List.{map-append}
use Rattle.nxf_tree.specs.declared.tree.Signature.{Signature}
use Rattle.nxf_tree.specs.declared.tree.SortEntry.{SortEntry}
use Rattle.nxf_tree.specs.declared.tree.SymbolEntry.{SymbolEntry}
use Rattle.nxf_tree.specs.declared.tree.IndexEntry.{IndexEntry}
use Rattle.nxf_tree.specs.Signature.{constant_regime, sort_names}
use Rattle.nxf_tree.specs.Sorting.{in_range, gives_in_range}
use Rattle.nxf_tree.specs.WellFormed.{HasSortsInRange, has_sorts_in_range}
use Rattle.nxf_tree.specs.Rows.{Table, Rows, Values, Shape, IsTableOf, AreTables, AreSizes, AllBelow, all_rows, those_in, size_at}
use Rattle.nxf_tree.specs.Structures.{KripkeStructure, IsOver, relation_shapes, existence_shapes, symbol_shapes, tables_with}
use Rattle.fin_struct.specs.KripkeTables.{kripke_shapes}
use Rattle.plain_tokens.specs.PlainTokens.{Plain}
use Rattle.plain_tokens.specs.Marks.{Mark, plains}
use Rattle.kripke_text_definitions.specs.KripkeText as text
use Rattle.kripke_text_definitions.specs.KripkeText.{Label}
use Rattle.kripke_text_definitions.specs.Reading.{BeginsSome}
use Rattle.kripke_text_laws.specs.steps.FirstParts.{AreFirstSizes, AreFirst}

-- ---- tables of shapes one after the other

record Split (shapes others : List Shape) (tables : List Table) : Type 0 where
  pub front : List Table
  pub back : List Table
  pub parts : tables ≡ front ++ back
  pub first : AreTables shapes front
  pub second : AreTables others back

split_tables : (shapes others : List Shape) (tables : List Table) → AreTables (shapes ++ others) tables → Split shapes others tables
split_tables [] others tables h = record { front = []; back = tables; parts = refl; first = tt; second = h }
split_tables (s ∷ shapes) others [] h = absurd h
split_tables (s ∷ shapes) others (t ∷ tables) h =
    let r = split_tables shapes others tables h.1 in
    record { front = t ∷ r.front; back = r.back; parts = ap (λ (ts : List Table). t ∷ ts) r.parts; first = (h.0, r.first); second = r.second }

AllRelations : List Shape → Type 0
AllRelations [] = Unit {0}
AllRelations (s ∷ shapes) = (s.values ≡ None) × AllRelations shapes

one_rows : (s : Shape) (t : Table) (v : Option ℕ) → s.values ≡ v → v ≡ None → IsTableOf s.sizes v t → (rows : List (List ℕ)) × (t ≡ Rows rows)
one_rows s (Rows rows) v e n h = (rows, refl)
one_rows s (Values rows) None e n h = absurd h
one_rows s (Values rows) (Some b) e n h = absurd cc

only_rows : (shapes : List Shape) (tables : List Table) → AllRelations shapes → AreTables shapes tables → (rows : List (List (List ℕ))) × (tables ≡ map Rows rows)
unfolding AllRelations
only_rows [] [] n h = ([], refl)
only_rows [] (t ∷ tables) n h = absurd h
only_rows (s ∷ shapes) [] n h = absurd h
only_rows (s ∷ shapes) (t ∷ tables) n h =
    let one = one_rows s t s.values refl n.0 h.0 in
    let more = only_rows shapes tables n.1 h.1 in
    (one.0 ∷ more.0, ap₂ ◌∷◌ one.1 more.1)

relations_none : (worlds : ℕ) (entries : List IndexEntry) → AllRelations (relation_shapes worlds entries)
unfolding AllRelations
relations_none worlds [] = tt
relations_none worlds (e ∷ entries) = (refl, relations_none worlds entries)

existence_none_by : (worlds : ℕ) (sizes : List ℕ) (k : ℕ) (entries : List SortEntry) (t : Bool) → AllRelations (existence_shapes worlds sizes (suc k) entries) → AllRelations (cond t (existence_shapes worlds sizes (suc k) entries) (record { sizes = worlds ∷ size_at sizes k ∷ []; values = None } ∷ existence_shapes worlds sizes (suc k) entries))
unfolding AllRelations
existence_none_by worlds sizes k entries true h = h
existence_none_by worlds sizes k entries false h = (refl, h)

existence_none : (worlds : ℕ) (sizes : List ℕ) (k : ℕ) (entries : List SortEntry) → AllRelations (existence_shapes worlds sizes k entries)
unfolding AllRelations
existence_none worlds sizes k [] = tt
existence_none worlds sizes k (e ∷ entries) = existence_none_by worlds sizes k entries (constant_regime e.regime) (existence_none worlds sizes (suc k) entries)

-- a structure over the signature with these parts
pub record Made (sig : Signature) (n w : ℕ) (sizes : List ℕ) (tables : List Table) : Type 0 where
  pub K : KripkeStructure
  pub over : IsOver sig K
  pub worlds : K.worlds ≡ n
  pub actual : K.actual ≡ w
  pub sizes_are : K.sizes ≡ sizes
  pub tables_are : tables_with K ≡ tables

pub structure_of : (sig : Signature) (n w : ℕ) (sizes : List ℕ) (tables : List Table) → w < n → AreSizes sig.sorts sizes → AreTables (kripke_shapes sig n sizes) tables → Made sig n w sizes tables
structure_of sig n w sizes tables h k t =
    let one = split_tables (relation_shapes n sig.indexes) (existence_shapes n sizes 0 sig.sorts ++ symbol_shapes n sizes sig.symbols) tables t in
    let two = split_tables (existence_shapes n sizes 0 sig.sorts) (symbol_shapes n sizes sig.symbols) one.back one.second in
    let relations = only_rows (relation_shapes n sig.indexes) one.front (relations_none n sig.indexes) one.first in
    let existing = only_rows (existence_shapes n sizes 0 sig.sorts) two.front (existence_none n sizes 0 sig.sorts) two.first in
    record {
      K = record { worlds = n; actual = w; relations = relations.0; sizes = sizes; existing = existing.0; symbols = two.back };
      over = record {
        actual = h;
        sizes = k;
        relations = subst (λ (ts : List Table). AreTables (relation_shapes n sig.indexes) ts) relations.1 one.first;
        existing = subst (λ (ts : List Table). AreTables (existence_shapes n sizes 0 sig.sorts) ts) existing.1 two.first;
        symbols = two.second;
      };
      worlds = refl;
      actual = refl;
      sizes_are = refl;
      tables_are = ap₂ ◌++◌ (sym relations.1) (ap (λ (ts : List Table). ts ++ two.back) (sym existing.1) ∙ sym two.parts) ∙ sym one.parts;
    }

-- ---- empty tables

-- a table that has values has room for 0
abbrev pub HasRoom : Option ℕ → Type 0
HasRoom None = Unit {0}
HasRoom (Some bound) = 0 < bound

abbrev pub AllRoom : List Shape → Type 0
AllRoom [] = Unit {0}
AllRoom (s ∷ shapes) = HasRoom s.values × AllRoom shapes

abbrev zeros : List (List ℕ) → List (List ℕ × ℕ)
zeros [] = []
zeros (row ∷ rows) = (row, 0) ∷ zeros rows

abbrev blank_of : List ℕ → Option ℕ → Table
blank_of sizes None = Rows []
blank_of sizes (Some bound) = Values (zeros (all_rows sizes))

none_in : (rows : List (List ℕ)) → [] ≡ those_in [] rows
none_in [] = refl
none_in (row ∷ rows) = none_in rows

zeros_rows : (rows : List (List ℕ)) → map (λ (r : List ℕ × ℕ). r.0) (zeros rows) ≡ rows
zeros_rows [] = refl
zeros_rows (row ∷ rows) = ap (λ (r : List (List ℕ)). row ∷ r) (zeros_rows rows)

zeros_below : (bound : ℕ) (rows : List (List ℕ)) → 0 < bound → AllBelow bound (map (λ (r : List ℕ × ℕ). r.1) (zeros rows))
zeros_below bound [] h = tt
zeros_below bound (row ∷ rows) h = (h, zeros_below bound rows h)

blank_is : (sizes : List ℕ) (values : Option ℕ) → HasRoom values → IsTableOf sizes values (blank_of sizes values)
blank_is sizes None h = none_in (all_rows sizes)
blank_is sizes (Some bound) h = record { total = zeros_rows (all_rows sizes); below = zeros_below bound (all_rows sizes) h }

pub record Completed (shapes : List Shape) (labels : List Label) (given : List Table) : Type 0 where
  pub tables : List Table
  pub are : AreTables shapes tables
  pub rest : List (List Mark)
  pub begins : text.table_statements labels tables ≡ text.table_statements labels given ++ rest

pub complete_tables : (shapes : List Shape) (labels : List Label) (given : List Table) → AllRoom shapes → AreFirst shapes given → Completed shapes labels given
complete_tables [] [] [] room h = record { tables = []; are = tt; rest = []; begins = refl }
complete_tables [] (l ∷ labels) [] room h = record { tables = []; are = tt; rest = []; begins = refl }
complete_tables [] labels (t ∷ given) room h = absurd h
complete_tables (s ∷ shapes) [] [] room h =
    let r = complete_tables shapes [] [] room.1 tt in
    record { tables = blank_of s.sizes s.values ∷ r.tables; are = (blank_is s.sizes s.values room.0, r.are); rest = []; begins = refl }
complete_tables (s ∷ shapes) (l ∷ labels) [] room h =
    let r = complete_tables shapes labels [] room.1 tt in
    let tables = blank_of s.sizes s.values ∷ r.tables in
    record { tables = tables; are = (blank_is s.sizes s.values room.0, r.are); rest = text.table_statements (l ∷ labels) tables; begins = refl }
complete_tables (s ∷ shapes) [] (t ∷ given) room h =
    let r = complete_tables shapes [] given room.1 h.1 in
    record { tables = t ∷ r.tables; are = (h.0, r.are); rest = []; begins = refl }
complete_tables (s ∷ shapes) (l ∷ labels) (t ∷ given) room h =
    let r = complete_tables shapes labels given room.1 h.1 in
    record { tables = t ∷ r.tables; are = (h.0, r.are); rest = r.rest; begins = ap (λ (ms : List (List Mark)). text.table_statement l t ∷ ms) r.begins }

-- ---- sizes

pub record Sized (entries : List SortEntry) (given : List ℕ) : Type 0 where
  pub sizes : List ℕ
  pub are : AreSizes entries sizes
  pub rest : List (List Mark)
  pub begins : text.domain_statements (sort_names entries) sizes ≡ text.domain_statements (sort_names entries) given ++ rest

pub complete_sizes : (entries : List SortEntry) (given : List ℕ) → AreFirstSizes entries given → Sized entries given
complete_sizes [] [] h = record { sizes = []; are = tt; rest = []; begins = refl }
complete_sizes [] (n ∷ given) h = absurd h
complete_sizes (e ∷ entries) [] h =
    let r = complete_sizes entries [] tt in
    record { sizes = 1 ∷ r.sizes; are = (omega arith, r.are); rest = text.domain_statements (sort_names (e ∷ entries)) (1 ∷ r.sizes); begins = refl }
complete_sizes (e ∷ entries) (n ∷ given) h =
    let r = complete_sizes entries given h.1 in
    record { sizes = n ∷ r.sizes; are = (h.0, r.are); rest = r.rest; begins = ap (λ (ms : List (List Mark)). text.domain_statement e.name n ∷ ms) r.begins }

-- ---- room

size_some : (entries : List SortEntry) (sizes : List ℕ) (k : ℕ) → AreSizes entries sizes → in_range entries k ≡ true → 0 < size_at sizes k
size_some [] sizes k h e = absurd cc
size_some (s ∷ entries) [] k h e = absurd h
size_some (s ∷ entries) (n ∷ sizes) zero h e = h.0
size_some (s ∷ entries) (n ∷ sizes) (suc k) h e = size_some entries sizes k h.1 e

gives_room : (sorts : List SortEntry) (sizes : List ℕ) (gives : Option ℕ) → AreSizes sorts sizes → gives_in_range sorts gives ≡ true → HasRoom (option_map (size_at sizes) gives)
gives_room sorts sizes None h e = tt
gives_room sorts sizes (Some k) h e = size_some sorts sizes k h e

symbols_room : (sig : Signature) (worlds : ℕ) (sizes : List ℕ) (entries : List SymbolEntry) → AreSizes sig.sorts sizes → list_all (has_sorts_in_range sig) entries ≡ true → AllRoom (symbol_shapes worlds sizes entries)
symbols_room sig worlds sizes [] h e = tt
symbols_room sig worlds sizes (entry ∷ entries) h e =
    let t = and_parts (has_sorts_in_range sig entry) (list_all (has_sorts_in_range sig) entries) e in
    let u = and_parts (list_all (in_range sig.sorts) entry.args) (gives_in_range sig.sorts entry.gives) t.0 in
    (gives_room sig.sorts sizes entry.gives h u.1, symbols_room sig worlds sizes entries h t.1)

room-append : (shapes others : List Shape) → AllRoom shapes → AllRoom others → AllRoom (shapes ++ others)
room-append [] others h k = k
room-append (s ∷ shapes) others h k = (h.0, room-append shapes others h.1 k)

none_room : (v : Option ℕ) → v ≡ None → HasRoom v
none_room None e = tt
none_room (Some b) e = absurd cc

relations_room : (shapes : List Shape) → AllRelations shapes → AllRoom shapes
unfolding AllRelations
relations_room [] h = tt
relations_room (s ∷ shapes) h = (none_room s.values h.0, relations_room shapes h.1)

pub all_room : (sig : Signature) (n : ℕ) (sizes : List ℕ) → HasSortsInRange sig → AreSizes sig.sorts sizes → AllRoom (kripke_shapes sig n sizes)
all_room sig n sizes wf h =
    room-append (relation_shapes n sig.indexes) _ (relations_room _ (relations_none n sig.indexes))
    (room-append (existence_shapes n sizes 0 sig.sorts) _ (relations_room _ (existence_none n sizes 0 sig.sorts)) (symbols_room sig n sizes sig.symbols h wf))

-- ---- a text begins so

same_marks : (sig : Signature) (K : KripkeStructure) (n w : ℕ) (sizes : List ℕ) (tables : List Table) → K.worlds ≡ n → K.actual ≡ w → K.sizes ≡ sizes → tables_with K ≡ tables → text.marks_of sig K ≡ text.head_marks sig n w sizes ++ text.table_statements (text.labels_of sig) tables
same_marks sig K n w sizes tables a b c d = λ i. text.head_marks sig (a i) (b i) (c i) ++ text.table_statements (text.labels_of sig) (d i)

-- the whole head, and the first tables
pub begins_tables : (sig : Signature) (n w : ℕ) (sizes : List ℕ) (given : List Table) → HasSortsInRange sig → w < n → AreSizes sig.sorts sizes → AreFirst (kripke_shapes sig n sizes) given → BeginsSome sig (map plains (text.head_marks sig n w sizes ++ text.table_statements (text.labels_of sig) given))
begins_tables sig n w sizes given wf h k first =
    let c = complete_tables (kripke_shapes sig n sizes) (text.labels_of sig) given (all_room sig n sizes wf k) first in
    let m = structure_of sig n w sizes c.tables h k c.are in
    let marks = same_marks sig m.K n w sizes c.tables m.worlds m.actual m.sizes_are m.tables_are
    ∙ ap (λ (ms : List (List Mark)). text.head_marks sig n w sizes ++ ms) c.begins
    ∙ sym (append_assoc (text.head_marks sig n w sizes) (text.table_statements (text.labels_of sig) given) c.rest) in
    record {
      K = m.K;
      over = m.over;
      after = map plains c.rest;
      begins = ap (map plains) marks ∙ map-append plains (text.head_marks sig n w sizes ++ text.table_statements (text.labels_of sig) given) c.rest;
    }

-- the first of some statements that a text begins with
pub begins_less : (sig : Signature) (ss ts : List (List Plain)) → BeginsSome sig (ss ++ ts) → BeginsSome sig ss
begins_less sig ss ts b = record { K = b.K; over = b.over; after = ts ++ b.after; begins = b.begins ∙ append_assoc ss ts b.after }

-- the first two statements, and those of the first sorts
pub begins_domains : (sig : Signature) (n w : ℕ) (given : List ℕ) → HasSortsInRange sig → w < n → AreFirstSizes sig.sorts given → BeginsSome sig (map plains (text.head_marks sig n w given))
begins_domains sig n w given wf h first =
    let c = complete_sizes sig.sorts given first in
    let b = begins_tables sig n w c.sizes [] wf h c.are tt in
    let whole : List (List Mark) = text.head_marks sig n w c.sizes ++ text.table_statements (text.labels_of sig) [] in
    let rest : List (List Mark) = c.rest ++ text.table_statements (text.labels_of sig) [] in
    let e : whole ≡ text.head_marks sig n w given ++ rest =
    ap (λ (ms : List (List Mark)). (text.worlds_statement n ∷ text.local_statement w ∷ ms) ++ text.table_statements (text.labels_of sig) []) c.begins
    ∙ append_assoc (text.head_marks sig n w given) c.rest (text.table_statements (text.labels_of sig) []) in
    begins_less sig (map plains (text.head_marks sig n w given)) (map plains rest) (subst (λ (ss : List (List Plain)). BeginsSome sig ss) (ap (map plains) e ∙ map-append plains (text.head_marks sig n w given) rest) b)
