-- Each value that is given without a fault is below the size of its sort, or below 2.
use Rattle.std.proofs.Common.{◌≡◌, ◌<◌, ◌≤◌, ◌⊎◌, inl, inr, eq-eqb, ℕ, zero, suc, ◌+◌, Bool, true, false, List, [], ◌∷◌, ◌++◌, map, length, get_or, max, nat_eq, cond, Option, None, Some, refl, ap, ◌∙◌, sym, subst, arith}
use Rattle.std.specs.Prelude.{◌||◌, ◌&&◌, not, flat_map, is_some, is_none, if◌then◌else◌}
use Rattle.std.specs.List.{list_any, list_all}
use Rattle.std.specs.Map.{lookup}
use Rattle.std.specs.Option.{option_or, option_map}
use Rattle.std.proofs.lemmas.Bool.{eqb-true}
use Rattle.nxf_tree.specs.declared.tree.SortName.{SortName}
use Rattle.nxf_tree.specs.declared.tree.TableEntry.{TableEntry}
use Rattle.nxf_tree.specs.declared.tree.ClassicalSignature.{ClassicalSignature}
use Rattle.nxf_tree.specs.Names.{same_text}
use Rattle.nxf_tree.specs.Rows.{size_at}
use Rattle.classical_signature_laws.specs.ClassicalSignatures.{HasSorts, GivesBelow}
use Rattle.fin_struct.specs.Cells.{bound_of}
use Rattle.interpretation_definitions.specs.declared.element.Element.{Element}
use Rattle.interpretation_definitions.specs.declared.fault.PartFault.{PartFault}
use Rattle.interpretation_definitions.specs.Context.{Context, actual_entry, and_listing, and_listings, count_for, element, is_extra, is_known, is_listed, is_sort, symbol, symbol_in, symbols_of}
use Rattle.interpretation_definitions.specs.Given.{Given, bit, element_of, elements_of, given_by, numbers_of, own_row, own_rows, own_rows_from, row_of, row_with, stated, value_in, valued_row}
use Rattle.interpretation_definitions.specs.Interpretation.{sizes_from, sizes_of}
use Rattle.interpretation_definitions.specs.Judging.{atom_clash, atom_fault, equation_clash, equation_fault, is_plain, is_unlisted, part_fault, row_clash, tried, unless_dropped, value_clash, wrong_function, wrong_predicate}
use Rattle.interpretation_definitions.specs.Parts.{Argument, Part, Formless, Declares, Closes, Applies, Equates, Differs, AllDiffer, SaysNothing}
use Rattle.interpretation_parts.specs.steps.Items.{item_fault}
use Rattle.interpretation_parts.proofs.DeclarationLemmas.{symbol_found}
use Rattle.interpretation_parts.proofs.RowLemmas.{extra_unknown}
use Rattle.interpretation_parts.proofs.TableLemmas.{count_for-last}

-- each element is one of those that its sort has so far
abbrev pub AreCounted : List (List ℕ × Element) → Type 0
AreCounted es = (q : List ℕ) (e : Element) → lookup (same_text q) es ≡ Some e → e.number < count_for e.sort es

lookup_by : (q : List ℕ) (y : List ℕ × Element) (es : List (List ℕ × Element)) (x : List ℕ × Element) (e : Element)
    → (lookup (same_text q) (es ++ x ∷ []) ≡ Some e → (lookup (same_text q) es ≡ Some e) ⊎ (x.1 ≡ e))
    → (b : Bool) → (if b then Some y.1 else lookup (same_text q) (es ++ x ∷ [])) ≡ Some e → ((if b then Some y.1 else lookup (same_text q) es) ≡ Some e) ⊎ (x.1 ≡ e)
lookup_by q y es x e more true k = inl k
lookup_by q y es x e more false k = more k

lookup-more : (q : List ℕ) (es : List (List ℕ × Element)) (x : List ℕ × Element) (e : Element) → lookup (same_text q) (es ++ x ∷ []) ≡ Some e
    → (lookup (same_text q) es ≡ Some e) ⊎ (x.1 ≡ e)
lookup-more q [] x e h = by (same_text q x.0) h
  where
    by : (b : Bool) → (if b then Some x.1 else None) ≡ Some e → (lookup (same_text q) [] ≡ Some e) ⊎ (x.1 ≡ e)
    by true k = inr cc
    by false k = cc
lookup-more q (y ∷ es) x e h = lookup_by q y es x e (lookup-more q es x e) (same_text q y.0) h

counted_next : (es : List (List ℕ × Element)) (listing : List ℕ × ℕ) → AreCounted es → AreCounted (and_listing es listing)
counted_next es listing counted = by (is_some (lookup (same_text listing.0) es))
  where
    new : List ℕ × Element
    new = (listing.0, record { sort = listing.1; number = count_for listing.1 es })

    more : AreCounted (es ++ new ∷ [])
    more q e h = cases (lookup-more q es new e h)
      where
        cases : (lookup (same_text q) es ≡ Some e) ⊎ (new.1 ≡ e) → e.number < count_for e.sort (es ++ new ∷ [])
        cases (inl k) = omega (arith, counted q e k, count_for-last e.sort es new)
        cases (inr k) = subst (λ (d : Element). d.number < count_for d.sort (es ++ new ∷ [])) k
            (omega (arith, count_for-last listing.1 es new, ap {B = ℕ} (λ b. cond b 1 0) (eq-eqb listing.1 listing.1 refl)))

    by : (b : Bool) → AreCounted (if b then es else es ++ new ∷ [])
    by true = counted
    by false = more

all_counted : (es : List (List ℕ × Element)) (listings : List (List ℕ × ℕ)) → AreCounted es → AreCounted (and_listings es listings)
all_counted es [] counted = counted
all_counted es (l ∷ listings) counted = all_counted (and_listing es l) listings (counted_next es l counted)

pub listings_counted : (listings : List (List ℕ × ℕ)) → AreCounted (and_listings [] listings)
listings_counted listings = all_counted [] listings (λ q e h. cc)

-- the size of a sort
pub size-at : (k j : ℕ) (es : List (List ℕ × Element)) (sorts : List SortName) → j < length sorts → size_at (sizes_from k es sorts) j ≡ max 1 (count_for (k + j) es)
size-at k j es [] h = absurd (omega arith)
size-at k zero es (s ∷ sorts) h = ap (λ n. max 1 (count_for n es)) (omega arith)
size-at k (suc j) es (s ∷ sorts) h = size-at (suc k) j es sorts (omega arith) ∙ ap (λ n. max 1 (count_for n es)) (omega arith)

-- an element is below the size of its sort
element_below : (c : Context) (q : List ℕ) (e : Element) → AreCounted c.elements → e.sort < length c.sorts → element c q ≡ Some e → e.number < size_at (sizes_of c) e.sort
element_below c q e counted lt h =
    let n = counted q e h in
    let s = size-at 0 e.sort c.elements c.sorts lt in
    let z : count_for (0 + e.sort) c.elements ≡ count_for e.sort c.elements = ap (λ m. count_for m c.elements) (omega arith) in
    omega (arith, n, s, z)

-- the value of a row is below the bound of its symbol
pub record IsBelow (csig : ClassicalSignature) (sizes : List ℕ) (g : Given) : Type 0 where
  pub value : (d : TableEntry) → g.place < length (symbols_of csig) → g.value < bound_of (option_map (size_at sizes) (get_or (symbols_of csig) g.place d).gives)

abbrev pub AllBelow : ClassicalSignature → List ℕ → List Given → Type 0
AllBelow csig sizes [] = Unit {0}
AllBelow csig sizes (g ∷ gs) = IsBelow csig sizes g × AllBelow csig sizes gs

below-append : (csig : ClassicalSignature) (sizes : List ℕ) (gs hs : List Given) → AllBelow csig sizes gs → AllBelow csig sizes hs → AllBelow csig sizes (gs ++ hs)
below-append csig sizes [] hs a b = b
below-append csig sizes (g ∷ gs) hs a b = (a.0, below-append csig sizes gs hs a.1 b)

found_by : (csig : ClassicalSignature) (sizes : List ℕ) (g : Given) (gs : List Given) (place : ℕ) (row : List ℕ) (value : ℕ) (d : TableEntry) → IsBelow csig sizes g → place < length (symbols_of csig)
    → (value_in gs place row ≡ Some value → value < bound_of (option_map (size_at sizes) (get_or (symbols_of csig) place d).gives))
    → (b : Bool) → nat_eq g.place place ≡ b → (same : Bool) → (if b && same then Some g.value else value_in gs place row) ≡ Some value
    → value < bound_of (option_map (size_at sizes) (get_or (symbols_of csig) place d).gives)
found_by csig sizes g gs place row value d below lt rest true e true k =
    let same : g.place ≡ place = eqb-true g.place place e in
    let is : g.value ≡ value = cc in
    subst (λ v. v < bound_of (option_map (size_at sizes) (get_or (symbols_of csig) place d).gives)) is
    (subst (λ p. g.value < bound_of (option_map (size_at sizes) (get_or (symbols_of csig) p d).gives)) same (below.value d (subst (λ p. p < length (symbols_of csig)) (sym same) lt)))
found_by csig sizes g gs place row value d below lt rest true e false k = rest k
found_by csig sizes g gs place row value d below lt rest false e same k = rest k

-- what is found among rows is below
pub found_below : (csig : ClassicalSignature) (sizes : List ℕ) (gs : List Given) (place : ℕ) (row : List ℕ) (value : ℕ) (d : TableEntry) → AllBelow csig sizes gs → place < length (symbols_of csig)
    → value_in gs place row ≡ Some value → value < bound_of (option_map (size_at sizes) (get_or (symbols_of csig) place d).gives)
found_below csig sizes [] place row value d below lt h = cc
found_below csig sizes (g ∷ gs) place row value d below lt h =
    found_by csig sizes g gs place row value d below.0 lt (found_below csig sizes gs place row value d below.1 lt) (nat_eq g.place place) refl (same_text g.row row) h

gives_in : (csig : ClassicalSignature) → HasSorts csig → (k : ℕ) (d : TableEntry) → k < length (symbols_of csig) → GivesBelow (length csig.sorts) (get_or (symbols_of csig) k d).gives
gives_in csig has zero d lt = has.some_sort
gives_in csig has (suc t) d lt = has.values t d (omega arith)

bound-some : (sizes : List ℕ) (gives : Option ℕ) (sort : ℕ) (value : ℕ) → gives ≡ Some sort → value < size_at sizes sort → value < bound_of (option_map (size_at sizes) gives)
bound-some sizes gives sort value h lt = subst (λ o. value < bound_of (option_map (size_at sizes) o)) (sym h) lt

-- the context is one of the signature, and its elements are counted
pub record IsContextOf (csig : ClassicalSignature) (c : Context) : Type 0 where
  pub sorts : c.sorts ≡ csig.sorts
  pub symbols : c.symbols ≡ symbols_of csig
  pub counted : AreCounted c.elements

-- an element of a symbol's sort is below its bound
valued : (csig : ClassicalSignature) (c : Context) → IsContextOf csig c → HasSorts csig → (k : ℕ) (d : TableEntry) (sort : ℕ) (q : List ℕ) (e : Element) → k < length (symbols_of csig)
    → (get_or (symbols_of csig) k d).gives ≡ Some sort → e.sort ≡ sort → element c q ≡ Some e → e.number < bound_of (option_map (size_at (sizes_of c)) (get_or (symbols_of csig) k d).gives)
valued csig c of has k d sort q e lt gives same is =
    let sort_in : sort < length csig.sorts = subst (λ o. GivesBelow (length csig.sorts) o) gives (gives_in csig has k d lt) in
    let in_c : e.sort < length c.sorts = omega (arith, sort_in, same, ap length of.sorts) in
    bound-some (sizes_of c) _ sort e.number gives (subst (λ s. e.number < size_at (sizes_of c) s) same (element_below c q e of.counted in_c is))

-- own rows
own_below : (csig : ClassicalSignature) (c : Context) → IsContextOf csig c → HasSorts csig → (k : ℕ) (entry : TableEntry) → k < length (symbols_of csig) → ((d : TableEntry) → get_or (symbols_of csig) k d ≡ entry)
    → (args : List ℕ) (gives : Option ℕ) (o : Option Element) → entry.gives ≡ gives → element c entry.name ≡ o → AllBelow csig (sizes_of c) (own_row k args gives o)
own_below csig c of has k entry lt at args gives None g e = tt
own_below csig c of has k entry lt at [] None (Some x) g e = tt
own_below csig c of has k entry lt at [] (Some sort) (Some x) g e = by (nat_eq sort x.sort) refl
  where
    by : (b : Bool) → nat_eq sort x.sort ≡ b → AllBelow csig (sizes_of c) (if b then record { place = k; row = []; value = x.number } ∷ [] else [])
    by true same = (record { value = λ d _. valued csig c of has k d sort entry.name x lt (ap (λ (t : TableEntry). t.gives) (at d) ∙ g) (sym (eqb-true sort x.sort same)) e }, tt)
    by false same = tt
own_below csig c of has k entry lt at (arg ∷ args) gives (Some x) g e = tt

own_from : (csig : ClassicalSignature) (c : Context) → IsContextOf csig c → HasSorts csig → (k : ℕ) (entries : List TableEntry) → k + length entries ≡ length (symbols_of csig)
    → ((j : ℕ) (d : TableEntry) → j < length entries → get_or (symbols_of csig) (k + j) d ≡ get_or entries j d) → AllBelow csig (sizes_of c) (own_rows_from k c entries)
own_from csig c of has k [] count at = tt
own_from csig c of has k (entry ∷ entries) count at =
    below-append csig (sizes_of c) (own_row k entry.args entry.gives (element c entry.name)) (own_rows_from (suc k) c entries)
    (own_below csig c of has k entry (omega (arith, count)) (λ d. ap (λ n. get_or (symbols_of csig) n d) (omega arith) ∙ at 0 d (omega arith)) entry.args entry.gives (element c entry.name) refl refl)
    (own_from csig c of has (suc k) entries (omega (arith, count)) (λ j d lt. ap (λ n. get_or (symbols_of csig) n d) (omega arith) ∙ at (suc j) d (omega (arith, lt))))

own_all : (csig : ClassicalSignature) (c : Context) → IsContextOf csig c → HasSorts csig → AllBelow csig (sizes_of c) (own_rows c)
own_all csig c of has =
    subst (λ ss. AllBelow csig (sizes_of c) (own_rows_from 0 c ss)) (sym of.symbols)
    (own_from csig c of has 0 (symbols_of csig) (omega arith) (λ j d lt. ap (λ n. get_or (symbols_of csig) n d) (omega arith)))

-- what the tries say where none has a fault
tried_none : (a b c d : Bool) → tried a b c d ≡ None → (a ≡ false) × (d ≡ false)
tried_none true b c d h = cc
tried_none false true c d h = cc
tried_none false false true d h = cc
tried_none false false false true h = cc
tried_none false false false false h = (refl, refl)

or_none : (a b : Bool) → a || b ≡ false → (a ≡ false) × (b ≡ false)
or_none true b h = cc
or_none false b h = (refl, h)

not_extra : (c : Context) (p : List ℕ) (known : ℕ × TableEntry) → symbol c p ≡ Some known → (b : Bool) → is_extra c p ≡ b → b ≡ false
not_extra c p known h true e = let none : symbol c p ≡ None = extra_unknown c p e in cc
not_extra c p known h false e = refl

gives_none : (o : Option ℕ) → is_some o ≡ false → o ≡ None
gives_none None h = refl
gives_none (Some x) h = cc

-- a known symbol stands under its number
stands : (csig : ClassicalSignature) (c : Context) → IsContextOf csig c → (p : List ℕ) (known : ℕ × TableEntry) → symbol c p ≡ Some known → (d : TableEntry) → get_or (symbols_of csig) known.0 d ≡ known.1
stands csig c of p known h d =
    let there : symbol_in (symbols_of csig) p ≡ Some known = ap (λ ss. symbol_in ss p) (sym of.symbols) ∙ h in
    let found = symbol_found (symbols_of csig) p known.0 d (ap (option_map (λ (q : ℕ × TableEntry). q.0)) there) in
    let same : Some (known.0, get_or (symbols_of csig) known.0 d) ≡ Some known = sym found.1 ∙ there in
    second (known.0, get_or (symbols_of csig) known.0 d) known same
  where
    or_first : Option (ℕ × TableEntry) → TableEntry → TableEntry
    or_first None t = t
    or_first (Some q) t = q.1

    second : (x y : ℕ × TableEntry) → Some x ≡ Some y → x.1 ≡ y.1
    second x y e = ap (λ o. or_first o y.1) e

-- a predicate without a fault
predicate_below : (csig : ClassicalSignature) (c : Context) → IsContextOf csig c → (p : List ℕ) (known : ℕ × TableEntry) → symbol c p ≡ Some known → known.1.gives ≡ None → (row : List ℕ) (truth : Bool)
    → AllBelow csig (sizes_of c) (row_of (Some known) row (bit truth))
predicate_below csig c of p known is gives row truth = (record { value = λ d lt. subst (λ o. bit truth < bound_of (option_map (size_at (sizes_of c)) o)) (sym (ap (λ (t : TableEntry). t.gives) (stands csig c of p known is d) ∙ gives)) (below truth) }, tt)
  where
    below : (b : Bool) → bit b < 2
    below true = omega arith
    below false = omega arith

atom_below : (csig : ClassicalSignature) (c : Context) → IsContextOf csig c → (before : List Given) (truth : Bool) (p : List ℕ) (args : List Argument) (row : List ℕ) (o : Option (ℕ × TableEntry)) → symbol c p ≡ o
    → atom_fault c before truth p args ≡ None → AllBelow csig (sizes_of c) (row_of o row (bit truth))
atom_below csig c of before truth p args row None is none = tt
atom_below csig c of before truth p args row (Some known) is none =
    predicate_below csig c of p known is (gives_none known.1.gives (or_none (is_some known.1.gives) _ (or_none _ _ (tried_none _ _ _ _ form).0).1).0) row truth
  where
    Tries : Option (ℕ × TableEntry) → Option PartFault
    Tries o = tried (not (list_all is_plain args) || is_listed c p || is_sort c p || wrong_predicate o (length args)) (not (is_known c p) && not (is_listed c p)) (list_any (is_unlisted c) args) (atom_clash before o (elements_of c args) (bit truth))

    kept : unless_dropped (is_extra c p) (Tries (symbol c p)) ≡ None
    kept = none

    form : Tries (Some known) ≡ None
    form = subst (λ o. Tries o ≡ None) is (subst (λ b. unless_dropped b (Tries (symbol c p)) ≡ None) (not_extra c p known is (is_extra c p) refl) kept)

-- a function without a fault
row_below : (csig : ClassicalSignature) (c : Context) → IsContextOf csig c → HasSorts csig → (before : List Given) (known : ℕ × TableEntry) → ((d : TableEntry) → get_or (symbols_of csig) known.0 d ≡ known.1)
    → known.0 < length (symbols_of csig) → (gives : Option ℕ) → known.1.gives ≡ gives → (value : Argument) (o : Option Element) → element_of c value ≡ o → (es : List Element) (row : List ℕ)
    → value_clash before known gives es o ≡ false → AllBelow csig (sizes_of c) (row_with known gives row o)
row_below csig c of has before known at lt None g value o is es row none = tt
row_below csig c of has before known at lt (Some sort) g value None is es row none = tt
row_below csig c of has before known at lt (Some sort) g (Argument.Plain q) (Some e) is es row none =
    (record { value = λ d _. valued csig c of has known.0 d sort q e lt (ap (λ (t : TableEntry). t.gives) (at d) ∙ g) (eqb-true e.sort sort (sure (nat_eq e.sort sort) (or_none _ _ none).0)) is }, tt)
  where
    sure : (b : Bool) → not b ≡ false → b ≡ true
    sure true h = refl
    sure false h = cc
row_below csig c of has before known at lt (Some sort) g Argument.Variable (Some e) is es row none = cc
row_below csig c of has before known at lt (Some sort) g (Argument.Deep q) (Some e) is es row none = cc

equation_below : (csig : ClassicalSignature) (c : Context) → IsContextOf csig c → HasSorts csig → (before : List Given) (f : List ℕ) (args : List Argument) (value : Argument) (row : List ℕ) (o : Option (ℕ × TableEntry)) → symbol c f ≡ o
    → equation_fault c before f args value ≡ None → AllBelow csig (sizes_of c) (valued_row o row (element_of c value))
equation_below csig c of has before f args value row None is none = tt
equation_below csig c of has before f args value row (Some known) is none =
    row_below csig c of has before known (stands csig c of f known is) within known.1.gives refl value (element_of c value) refl (elements_of c args) row (tried_none _ _ _ _ form).1
  where
    Tries : Option (ℕ × TableEntry) → Option PartFault
    Tries o = tried (not (list_all is_plain args) || not (is_plain value) || is_sort c f || wrong_function c f o (length args)) (not (is_known c f) && not (is_listed c f)) (list_any (is_unlisted c) args || is_unlisted c value) (equation_clash before o (elements_of c args) (element_of c value))

    kept : unless_dropped (is_extra c f) (Tries (symbol c f)) ≡ None
    kept = none

    form : Tries (Some known) ≡ None
    form = subst (λ o. Tries o ≡ None) is (subst (λ b. unless_dropped b (Tries (symbol c f)) ≡ None) (not_extra c f known is (is_extra c f) refl) kept)

    within : known.0 < length (symbols_of csig)
    within = (symbol_found (symbols_of csig) f known.0 actual_entry (ap (option_map (λ (q : ℕ × TableEntry). q.0)) (ap (λ ss. symbol_in ss f) (sym of.symbols) ∙ is))).0

part_below : (csig : ClassicalSignature) (c : Context) → IsContextOf csig c → HasSorts csig → (before : List Part) (part : Part) → part_fault c before part ≡ None → AllBelow csig (sizes_of c) (stated c part)
part_below csig c of has before Formless h = tt
part_below csig c of has before (Declares t) h = tt
part_below csig c of has before (Closes s names) h = tt
part_below csig c of has before (Applies truth p args) h = atom_below csig c of (given_by c before) truth p args _ (symbol c p) refl h
part_below csig c of has before (Equates f args value) h = equation_below csig c of has (given_by c before) f args value _ (symbol c f) refl h
part_below csig c of has before (Differs left right) h = tt
part_below csig c of has before (AllDiffer args) h = tt
part_below csig c of has before SaysNothing h = tt

none_either : (k : ℕ) (o : Option PartFault) (more : Option (ℕ × PartFault)) → option_or (option_map (λ fault. (k, fault)) o) more ≡ None → (o ≡ None) × (more ≡ None)
none_either k None more h = (refl, h)
none_either k (Some f) more h = cc

items_below : (csig : ClassicalSignature) (c : Context) → IsContextOf csig c → HasSorts csig → (before : List Part) (items : List (ℕ × Part)) → item_fault c before items ≡ None
    → AllBelow csig (sizes_of c) (flat_map (stated c) (map (λ (p : ℕ × Part). p.1) items))
items_below csig c of has before [] h = tt
items_below csig c of has before (x ∷ items) h =
    let both = none_either x.0 (part_fault c before x.1) (item_fault c (before ++ x.1 ∷ []) items) h in
    below-append csig (sizes_of c) (stated c x.1) (flat_map (stated c) (map (λ (p : ℕ × Part). p.1) items)) (part_below csig c of has before x.1 both.0) (items_below csig c of has (before ++ x.1 ∷ []) items both.1)

-- all rows of a file without a fault
pub given_below : (csig : ClassicalSignature) (c : Context) → IsContextOf csig c → HasSorts csig → (items : List (ℕ × Part)) → item_fault c [] items ≡ None
    → AllBelow csig (sizes_of c) (given_by c (map (λ (p : ℕ × Part). p.1) items))
given_below csig c of has items h = below-append csig (sizes_of c) (own_rows c) _ (own_all csig c of has) (items_below csig c of has [] items h)
