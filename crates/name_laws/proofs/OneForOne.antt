-- Structures correspond one for one.
use Rattle.std.proofs.Common.{◌≡◌, ℕ, suc, ◌<◌, Bool, true, false, List, [], ◌∷◌, ◌++◌, refl, sym, ap, subst, ◌∙◌, arith}
use Rattle.std.specs.Prelude.{if◌then◌else◌, map, Option, None, Some}
use Rattle.std.specs.Option.{option_map}
use Rattle.nxf_tree.specs.declared.tree.Signature.{Signature}
use Rattle.nxf_tree.specs.declared.tree.IndexEntry.{IndexEntry}
use Rattle.nxf_tree.specs.declared.tree.SortEntry.{SortEntry}
use Rattle.nxf_tree.specs.declared.tree.SymbolEntry.{SymbolEntry}
use Rattle.nxf_tree.specs.declared.tree.TableEntry.{TableEntry}
use Rattle.nxf_tree.specs.Names.{user_sort}
use Rattle.nxf_tree.specs.Signature.{constant_regime, takes_world, sort_names, existence_sorts, index_names}
use Rattle.nxf_tree.specs.Rows.{Table, Rows, Values, Shape, AreTables, AreSizes, size_at}
use Rattle.nxf_tree.specs.Structures.{KripkeStructure, ClassicalStructure, relation_shapes, existence_shapes, symbol_shapes, table_shapes, IsOver, IsOverClassical, Corresponds, tables_with}
use Rattle.nxf_tree.specs.ClassicalSignature.{classical_signature_of, relation_entries, existence_entries, symbol_entries}
use Rattle.name_laws.proofs.Tables.{SameLength, relations-fit, existing-fit, structure_of, corresponding}
use Rattle.name_laws.specs.NameLaws.{OneForOneLaw}

-- the shapes of the classical tables are those of the Kripke tables
relation-shapes : (n : ℕ) (ns : List ℕ) (entries : List IndexEntry) → table_shapes (n ∷ ns) (relation_entries entries) ≡ relation_shapes n entries
relation-shapes n ns [] = refl
relation-shapes n ns (entry ∷ entries) = ap (λ l. record { sizes = n ∷ n ∷ []; values = None } ∷ l) (relation-shapes n ns entries)

chosen-shapes : (b : Bool) (sizes : List ℕ) (entry : TableEntry) (entries : List TableEntry) (shapes : List Shape) → table_shapes sizes entries ≡ shapes → table_shapes sizes (if b then entries else entry ∷ entries) ≡ (if b then shapes else record { sizes = map (size_at sizes) entry.args; values = option_map (size_at sizes) entry.gives } ∷ shapes)
chosen-shapes true sizes entry entries shapes h = h
chosen-shapes false sizes entry entries shapes h = ap (λ l. record { sizes = map (size_at sizes) entry.args; values = option_map (size_at sizes) entry.gives } ∷ l) h

existence-shapes : (n : ℕ) (ns : List ℕ) (k : ℕ) (entries : List SortEntry) → table_shapes (n ∷ ns) (existence_entries k entries) ≡ existence_shapes n ns k entries
existence-shapes n ns k [] = refl
existence-shapes n ns k (entry ∷ entries) = chosen-shapes (constant_regime entry.regime) (n ∷ ns) _ _ _ (existence-shapes n ns (suc k) entries)

up-args : (n : ℕ) (ns : List ℕ) (args : List ℕ) → map (size_at (n ∷ ns)) (map suc args) ≡ map (size_at ns) args
up-args n ns [] = refl
up-args n ns (k ∷ args) = ap (λ l. size_at ns k ∷ l) (up-args n ns args)

up-gives : (n : ℕ) (ns : List ℕ) (gives : Option ℕ) → option_map (size_at (n ∷ ns)) (option_map suc gives) ≡ option_map (size_at ns) gives
up-gives n ns None = refl
up-gives n ns (Some k) = refl

chosen-args : (b : Bool) (n : ℕ) (ns : List ℕ) (args : List ℕ) → map (size_at (n ∷ ns)) (if b then 0 ∷ map suc args else map suc args) ≡ (if b then n ∷ map (size_at ns) args else map (size_at ns) args)
chosen-args true n ns args = ap (λ l. n ∷ l) (up-args n ns args)
chosen-args false n ns args = up-args n ns args

symbol-shapes : (n : ℕ) (ns : List ℕ) (entries : List SymbolEntry) → table_shapes (n ∷ ns) (symbol_entries entries) ≡ symbol_shapes n ns entries
symbol-shapes n ns [] = refl
symbol-shapes n ns (entry ∷ entries) =
    λ i. record { sizes = chosen-args (takes_world entry) n ns entry.args i; values = up-gives n ns entry.gives i } ∷ symbol-shapes n ns entries i

shapes-append : (sizes : List ℕ) (xs ys : List TableEntry) → table_shapes sizes (xs ++ ys) ≡ table_shapes sizes xs ++ table_shapes sizes ys
shapes-append sizes [] ys = refl
shapes-append sizes (x ∷ xs) ys = ap (λ l. record { sizes = map (size_at sizes) x.args; values = option_map (size_at sizes) x.gives } ∷ l) (shapes-append sizes xs ys)

abbrev kripke_shapes : Signature → ℕ → List ℕ → List Shape
kripke_shapes sig n ns = relation_shapes n sig.indexes ++ (existence_shapes n ns 0 sig.sorts ++ symbol_shapes n ns sig.symbols)

same-shapes : (sig : Signature) (n : ℕ) (ns : List ℕ) → table_shapes (n ∷ ns) (classical_signature_of sig).tables ≡ kripke_shapes sig n ns
same-shapes sig n ns =
    shapes-append (n ∷ ns) (relation_entries sig.indexes) _
    ∙ (λ i. relation-shapes n ns sig.indexes i ++ (shapes-append (n ∷ ns) (existence_entries 0 sig.sorts) (symbol_entries sig.symbols) ∙ (λ j. existence-shapes n ns 0 sig.sorts j ++ symbol-shapes n ns sig.symbols j)) i)

-- tables in parts
join : (us vs : List Shape) (xs ys : List Table) → AreTables us xs → AreTables vs ys → AreTables (us ++ vs) (xs ++ ys)
join [] vs [] ys h k = k
join [] vs (x ∷ xs) ys h k = absurd h
join (a ∷ us) vs [] ys h k = absurd h
join (a ∷ us) vs (x ∷ xs) ys h k = (h.0, join us vs xs ys h.1 k)

record Parted (us vs : List Shape) (ts : List Table) : Type 0 where
  front : List Table
  back : List Table
  whole : ts ≡ front ++ back
  fronts : AreTables us front
  backs : AreTables vs back

part : (us vs : List Shape) (ts : List Table) → AreTables (us ++ vs) ts → Parted us vs ts
part [] vs ts h = record { front = []; back = ts; whole = refl; fronts = tt; backs = h }
part (a ∷ us) vs [] h = absurd h
part (a ∷ us) vs (t ∷ ts) h = let p : Parted us vs ts = part us vs ts h.1 in
    record { front = t ∷ p.front; back = p.back; whole = ap (λ l. t ∷ l) p.whole; fronts = (h.0, p.fronts); backs = p.backs }

-- tables of relations and of existence are lists of rows
record AllRows (ts : List Table) : Type 0 where
  lists : List (List (List ℕ))
  same : ts ≡ map Rows lists

more-rows : (r : List (List ℕ)) (ts : List Table) → AllRows ts → AllRows (Rows r ∷ ts)
more-rows r ts a = record { lists = r ∷ a.lists; same = ap (λ l. Rows r ∷ l) a.same }

no-rows : AllRows []
no-rows = record { lists = []; same = refl }

relation-rows : (n : ℕ) (entries : List IndexEntry) (ts : List Table) → AreTables (relation_shapes n entries) ts → AllRows ts
relation-rows n [] [] h = no-rows
relation-rows n [] (t ∷ ts) h = absurd h
relation-rows n (entry ∷ entries) [] h = absurd h
relation-rows n (entry ∷ entries) (Rows r ∷ ts) h = more-rows r ts (relation-rows n entries ts h.1)
relation-rows n (entry ∷ entries) (Values r ∷ ts) h = absurd h.0

chosen-rows : (b : Bool) (sizes : List ℕ) (shapes : List Shape) (ts : List Table) → ((us : List Table) → AreTables shapes us → AllRows us) → AreTables (if b then shapes else record { sizes = sizes; values = None } ∷ shapes) ts → AllRows ts
chosen-rows true sizes shapes ts f h = f ts h
chosen-rows false sizes shapes [] f h = absurd h
chosen-rows false sizes shapes (Rows r ∷ ts) f h = more-rows r ts (f ts h.1)
chosen-rows false sizes shapes (Values r ∷ ts) f h = absurd h.0

existence-rows : (n : ℕ) (ns : List ℕ) (k : ℕ) (entries : List SortEntry) (ts : List Table) → AreTables (existence_shapes n ns k entries) ts → AllRows ts
existence-rows n ns k [] [] h = no-rows
existence-rows n ns k [] (t ∷ ts) h = absurd h
existence-rows n ns k (entry ∷ entries) ts h = chosen-rows (constant_regime entry.regime) _ _ ts (existence-rows n ns (suc k) entries) h

-- sizes
sizes-over : (entries : List SortEntry) (ns : List ℕ) → AreSizes entries ns → AreSizes (map user_sort (sort_names entries)) ns
sizes-over [] [] h = tt
sizes-over [] (n ∷ ns) h = h
sizes-over (entry ∷ entries) [] h = h
sizes-over (entry ∷ entries) (n ∷ ns) h = (h.0, sizes-over entries ns h.1)

sizes-back : (entries : List SortEntry) (ns : List ℕ) → AreSizes (map user_sort (sort_names entries)) ns → AreSizes entries ns
sizes-back [] [] h = tt
sizes-back [] (n ∷ ns) h = h
sizes-back (entry ∷ entries) [] h = h
sizes-back (entry ∷ entries) (n ∷ ns) h = (h.0, sizes-back entries ns h.1)

module _ (sig : Signature) where
  over-structure_of : (K : KripkeStructure) → IsOver sig K → IsOverClassical (classical_signature_of sig) (structure_of K)
  over-structure_of K over = let l : K.actual < K.worlds = over.actual in record {
    actual = over.actual;
    sizes = (omega arith, sizes-over sig.sorts K.sizes over.sizes);
    tables = subst (λ shapes. AreTables shapes (tables_with K)) (sym (same-shapes sig K.worlds K.sizes))
        (join _ _ _ _ over.relations (join _ _ _ _ over.existing over.symbols));
  }

  pub over_classical : (K : KripkeStructure) (S : ClassicalStructure) → IsOver sig K → Corresponds K S → IsOverClassical (classical_signature_of sig) S
  over_classical K S over c = subst (IsOverClassical (classical_signature_of sig)) (sym (corresponding K S c)) (over-structure_of K over)

  -- from a classical structure to its Kripke structure
  pub record Lifted (S : ClassicalStructure) : Type 0 where
    pub kripke : KripkeStructure
    pub over : IsOver sig kripke
    pub corresponds : Corresponds kripke S

  lifted-parts : (a n : ℕ) (ns : List ℕ) (ts : List Table) → a < n → AreSizes sig.sorts ns → AreTables (kripke_shapes sig n ns) ts → Lifted (record { actual = a; sizes = n ∷ ns; tables = ts })
  lifted-parts a n ns ts l s h =
      let p : Parted (relation_shapes n sig.indexes) (existence_shapes n ns 0 sig.sorts ++ symbol_shapes n ns sig.symbols) ts = part _ _ ts h in
      let q : Parted (existence_shapes n ns 0 sig.sorts) (symbol_shapes n ns sig.symbols) p.back = part _ _ p.back p.backs in
      let r : AllRows p.front = relation-rows n sig.indexes p.front p.fronts in
      let e : AllRows q.front = existence-rows n ns 0 sig.sorts q.front q.fronts in
      record {
        kripke = record { worlds = n; actual = a; relations = r.lists; sizes = ns; existing = e.lists; symbols = q.back };
        over = record {
          actual = l;
          sizes = s;
          relations = subst (AreTables (relation_shapes n sig.indexes)) r.same p.fronts;
          existing = subst (AreTables (existence_shapes n ns 0 sig.sorts)) e.same q.fronts;
          symbols = q.backs;
        };
        corresponds = record {
          actual = refl;
          sizes = refl;
          tables = p.whole ∙ (λ i. r.same i ++ (q.whole ∙ ap (λ l. l ++ q.back) e.same) i);
        };
      }

  lifted-fields : (a : ℕ) (sizes : List ℕ) (ts : List Table) → a < size_at sizes 0 → AreSizes (classical_signature_of sig).sorts sizes → AreTables (table_shapes sizes (classical_signature_of sig).tables) ts → Lifted (record { actual = a; sizes = sizes; tables = ts })
  lifted-fields a [] ts l s h = absurd s
  lifted-fields a (n ∷ ns) ts l s h =
      lifted-parts a n ns ts l (sizes-back sig.sorts ns s.1) (subst (λ shapes. AreTables shapes ts) (same-shapes sig n ns) h)

  pub lifted : (S : ClassicalStructure) → IsOverClassical (classical_signature_of sig) S → Lifted S
  lifted S over = lifted-fields S.actual S.sizes S.tables over.actual over.sizes over.tables

-- what tables say of their parts
apart : {M : Type 0} (ns : List M) (rs qs : List (List (List ℕ))) (xs ys : List Table) → SameLength ns rs → SameLength ns qs → map Rows rs ++ xs ≡ map Rows qs ++ ys → (rs ≡ qs) × (xs ≡ ys)
apart [] [] [] xs ys h k e = (refl, e)
apart [] [] (q ∷ qs) xs ys h k e = absurd k
apart [] (r ∷ rs) qs xs ys h k e = absurd h
apart (n ∷ ns) [] qs xs ys h k e = absurd h
apart (n ∷ ns) (r ∷ rs) [] xs ys h k e = absurd k
apart (n ∷ ns) (r ∷ rs) (q ∷ qs) xs ys h k e =
    let first : r ≡ q = cc in
    let rest : (rs ≡ qs) × (xs ≡ ys) = apart ns rs qs xs ys h k cc in
    ((λ i. first i ∷ rest.0 i), rest.1)

pub one_kripke : (sig : Signature) (S : ClassicalStructure) (K L : KripkeStructure) → IsOver sig K → IsOver sig L → Corresponds K S → Corresponds L S → K ≡ L
one_kripke sig S K L k l c d =
    let sizes : K.worlds ∷ K.sizes ≡ L.worlds ∷ L.sizes = sym c.sizes ∙ d.sizes in
    let n : K.worlds ≡ L.worlds = cc in
    let ns : K.sizes ≡ L.sizes = cc in
    let first : (K.relations ≡ L.relations) × (map Rows K.existing ++ K.symbols ≡ map Rows L.existing ++ L.symbols) =
    apart (index_names sig.indexes) K.relations L.relations _ _ (relations-fit sig K k) (relations-fit sig L l) (sym c.tables ∙ d.tables) in
    let second : (K.existing ≡ L.existing) × (K.symbols ≡ L.symbols) =
    apart (existence_sorts sig.sorts) K.existing L.existing _ _ (existing-fit sig K k) (existing-fit sig L l) first.1 in
    (λ i. record { worlds = n i; actual = (sym c.actual ∙ d.actual) i; relations = first.0 i; sizes = ns i; existing = second.0 i; symbols = second.1 i })

pub one_classical : (K : KripkeStructure) (S T : ClassicalStructure) → Corresponds K S → Corresponds K T → S ≡ T
one_classical K S T c d = corresponding K S c ∙ sym (corresponding K T d)

pub own_structure : (K : KripkeStructure) → Corresponds K (structure_of K)
own_structure K = record { actual = refl; sizes = refl; tables = refl }

pub one_for_one : OneForOneLaw
one_for_one sig = record {
  to_classical = λ K over. (structure_of K, over_classical sig K (structure_of K) over (own_structure K), own_structure K);
  to_kripke = λ S over. let l : Lifted sig S = lifted sig S over in (l.kripke, l.over, l.corresponds);
  one_classical = one_classical;
  one_kripke = one_kripke sig;
}
