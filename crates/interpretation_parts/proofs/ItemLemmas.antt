-- The items of a file are the parts of its statements.
use Rattle.std.proofs.Common.{◌≡◌, ℕ, ◌+◌, suc, List, [], ◌∷◌, ◌++◌, map, length, None, refl, ap, ◌∙◌, sym, arith}
use Rattle.std.specs.Prelude.{flat_map}
use Rattle.nxf_tree.specs.declared.tree.Formula.{Formula, True, False, Atom, Same, Differ, And, And', Or', Distinct, Row_of-Formula, end_of-Formula, more_of-Formula}
use Rattle.nxf_tree.specs.declared.tree.Formula.TheBlock.{items-the_row-Formula, hidden-the_row-Formula-1, items_hidden-the_row-Formula-1}
use Rattle.nxf_tree.specs.Shapes.{Not1, Pair2, Quant1, Modal1}
use Rattle.std.proofs.lemmas.List.{append-nil}
use Rattle.std.proofs.lemmas.List.Sums.{fold-append}
use Rattle.indexmap.specs.IndexSet.{insert_all, insert_key}
use Rattle.nxf_tree.specs.declared.tree.SortName.{SortName}
use Rattle.nxf_tree.specs.Names.{same_text}
use Rattle.interpretation_definitions.specs.Context.{and_listing, and_listings, listings_of, declared_by}
use Rattle.nxf_tree.specs.declared.tree.Statement.{Statement}
use Rattle.interpretation_definitions.specs.Parts.{Part, parts_in, all_parts_in, parts_of}
use Rattle.interpretation_parts.specs.declared.items.Item.{Item}
use Rattle.interpretation_parts.specs.steps.Items.{conjuncts, leaf, item_part, items_in, numbered, numbered_parts, said_part, parts_in_items}

pub flat_map-append : {A B : Type 0} (f : A → List B) (xs ys : List A) → flat_map f (xs ++ ys) ≡ flat_map f xs ++ flat_map f ys
flat_map-append f [] ys = refl
flat_map-append f (x ∷ xs) ys = ap (λ zs. f x ++ zs) (flat_map-append f xs ys) ∙ sym (append-assoc (f x) (flat_map f xs) (flat_map f ys))
  where
    append-assoc : {B : Type 0} (a b c : List B) → (a ++ b) ++ c ≡ a ++ (b ++ c)
    append-assoc [] b c = refl
    append-assoc (x ∷ a) b c = ap (λ l. x ∷ l) (append-assoc a b c)

pub map-append : {A B : Type 0} (f : A → B) (xs ys : List A) → map f (xs ++ ys) ≡ map f xs ++ map f ys
map-append f [] ys = refl
map-append f (x ∷ xs) ys = ap (λ zs. f x ∷ zs) (map-append f xs ys)

row_parts : {m : _} (fs : Row_of-Formula m) → all_parts_in fs ≡ flat_map parts_in (items-the_row-Formula _ fs)
row_parts end_of-Formula = refl
row_parts (more_of-Formula f fs) = ap (λ ps. parts_in f ++ ps) (row_parts fs)

-- a conjunction has the parts of its members
pub parts_of_And : (fs : List Formula) → parts_in (And fs) ≡ flat_map parts_in fs
parts_of_And fs = row_parts (hidden-the_row-Formula-1 fs) ∙ ap (flat_map parts_in) (items_hidden-the_row-Formula-1 fs)

-- any other formula has one part
pub one_part : (f : Formula) → conjuncts f ≡ None → parts_in f ≡ leaf f ∷ []
one_part True h = refl
one_part False h = refl
one_part (Atom p ts) h = refl
one_part (Same t u) h = refl
one_part (Differ t u) h = refl
one_part (Not1 f) h = refl
one_part (And' shape gs) h = cc
one_part (Or' shape gs) h = refl
one_part (Pair2 op f g) h = refl
one_part (Quant1 q x s f) h = refl
one_part (Modal1 mode i f) h = refl
one_part (Distinct ts) h = refl

-- one more statement
pub numbered_parts-last : (k : ℕ) (ss : List Statement) (s : Statement) → numbered_parts k (ss ++ s ∷ []) ≡ numbered_parts k ss ++ numbered (k + length ss) (parts_of s)
numbered_parts-last k [] s = nothing (numbered k (parts_of s)) ∙ ap (λ n. numbered n (parts_of s)) (omega arith)
  where
    nothing : {A : Type 0} (xs : List A) → xs ++ [] ≡ xs
    nothing [] = refl
    nothing (x ∷ xs) = ap (λ l. x ∷ l) (nothing xs)
numbered_parts-last k (t ∷ ss) s =
    ap (λ l. numbered k (parts_of t) ++ l) (numbered_parts-last (suc k) ss s ∙ ap (λ n. numbered_parts (suc k) ss ++ numbered n (parts_of s)) (omega arith))
    ∙ sym (assoc (numbered k (parts_of t)) (numbered_parts (suc k) ss) (numbered (k + suc (length ss)) (parts_of s)))
  where
    assoc : {B : Type 0} (a b c : List B) → (a ++ b) ++ c ≡ a ++ (b ++ c)
    assoc [] b c = refl
    assoc (x ∷ a) b c = ap (λ l. x ∷ l) (assoc a b c)

-- one more item
pub items_in-last : (items : List Item) (item : Item) → items_in (items ++ item ∷ []) ≡ items_in items ++ item_part item ∷ []
items_in-last items item = map-append item_part items (item ∷ [])

-- the same, where the number is known otherwise
pub numbered_parts-next : (n : ℕ) (ss : List Statement) (s : Statement) → n ≡ length ss → numbered_parts 1 (ss ++ s ∷ []) ≡ numbered_parts 1 ss ++ numbered (n + 1) (parts_of s)
numbered_parts-next n ss s h = numbered_parts-last 1 ss s ∙ ap (λ m. numbered_parts 1 ss ++ numbered m (parts_of s)) (omega (arith, h))

-- one item more, for anything that folds what parts have
pub parts_in_items-last : (items : List Item) (item : Item) (part : Part) → part ≡ said_part item.said → parts_in_items (items ++ item ∷ []) ≡ parts_in_items items ++ part ∷ []
parts_in_items-last items item part h =
    ap (map (λ (p : ℕ × Part). p.1)) (items_in-last items item) ∙ map-append (λ (p : ℕ × Part). p.1) (items_in items) (item_part item ∷ []) ∙ ap (λ p. parts_in_items items ++ p ∷ []) (sym h)

flat-next : {A : Type 0} (f : Part → List A) (items : List Item) (item : Item) (part : Part) → part ≡ said_part item.said → flat_map f (parts_in_items (items ++ item ∷ [])) ≡ flat_map f (parts_in_items items) ++ f part
flat-next f items item part h = ap (flat_map f) (parts_in_items-last items item part h) ∙ flat_map-append f (parts_in_items items) (part ∷ []) ∙ ap (λ l. flat_map f (parts_in_items items) ++ l) (append-nil (f part))

pub listed-next : (sorts : List SortName) (items : List Item) (item : Item) (part : Part) → part ≡ said_part item.said
    → and_listings [] (flat_map (listings_of sorts) (parts_in_items (items ++ item ∷ []))) ≡ and_listings (and_listings [] (flat_map (listings_of sorts) (parts_in_items items))) (listings_of sorts part)
listed-next sorts items item part h = ap (and_listings []) (flat-next (listings_of sorts) items item part h) ∙ fold-append and_listing [] (flat_map (listings_of sorts) (parts_in_items items)) (listings_of sorts part)

pub declared-next : (items : List Item) (item : Item) (part : Part) → part ≡ said_part item.said
    → insert_all same_text [] (flat_map declared_by (parts_in_items (items ++ item ∷ []))) ≡ insert_all same_text (insert_all same_text [] (flat_map declared_by (parts_in_items items))) (declared_by part)
declared-next items item part h = ap (insert_all same_text []) (flat-next declared_by items item part h) ∙ fold-append (insert_key same_text) [] (flat_map declared_by (parts_in_items items)) (declared_by part)
