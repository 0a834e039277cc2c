-- Structures with equal tokens are equal.
use Rattle.std.proofs.Common.{◌≡◌, ℕ, suc, ◌<◌, List, [], ◌∷◌, ◌++◌, map, length, refl, sym, ap, ◌∙◌, arith}
use Rattle.std.proofs.lemmas.List.{map-append}
use Rattle.nxf_tree.specs.declared.tree.Signature.{Signature}
use Rattle.nxf_tree.specs.declared.tree.SortEntry.{SortEntry}
use Rattle.nxf_tree.specs.Signature.{sort_names}
use Rattle.nxf_tree.specs.Rows.{Rows, AreSizes}
use Rattle.nxf_tree.specs.Structures.{KripkeStructure, IsOver, tables_with, relation_shapes, existence_shapes}
use Rattle.plain_tokens.specs.PlainTokens.{Plain}
use Rattle.plain_tokens.specs.Marks.{plains}
use Rattle.kripke_text_definitions.specs.KripkeText as text
use Rattle.kripke_text_laws.specs.KripkeTextLaws.{EqualLaw}
use Rattle.kripke_text_laws.proofs.Splits.{same_statements}
use Rattle.kripke_text_laws.proofs.Whole.{all_end, tokens_joined, tables_count}
use Rattle.kripke_text_laws.proofs.Heads.{worlds_same, local_same, domain_same}
use Rattle.kripke_text_laws.proofs.Fits.{tables_fit}
use Rattle.kripke_text_laws.proofs.Tables.{tables_same}

-- fronts of one length
pub same_fronts : {A : Type 0} → (xs ys zs ws : List A) → length xs ≡ length ys → xs ++ zs ≡ ys ++ ws → (xs ≡ ys) × (zs ≡ ws)
same_fronts [] [] zs ws h e = (refl, e)
same_fronts [] (y ∷ ys) zs ws h e = absurd (omega arith)
same_fronts (x ∷ xs) [] zs ws h e = absurd (omega arith)
same_fronts (x ∷ xs) (y ∷ ys) zs ws h e =
    let a : x ≡ y = cc in
    let b : xs ++ zs ≡ ys ++ ws = cc in
    let t = same_fronts xs ys zs ws (omega arith) b in
    let c = t.0 in
    (cc, t.1)

pub domains_same : (entries : List SortEntry) (sizes others : List ℕ) → AreSizes entries sizes → AreSizes entries others → map plains (text.domain_statements (sort_names entries) sizes) ≡ map plains (text.domain_statements (sort_names entries) others) → sizes ≡ others
domains_same [] [] [] h k e = refl
domains_same [] [] (o ∷ others) h k e = absurd k
domains_same [] (n ∷ sizes) others h k e = absurd h
domains_same (s ∷ entries) [] others h k e = absurd h
domains_same (s ∷ entries) (n ∷ sizes) [] h k e = absurd k
domains_same (s ∷ entries) (n ∷ sizes) (o ∷ others) h k e =
    let a : plains (text.domain_statement s.name n) ≡ plains (text.domain_statement s.name o) = cc in
    let b : map plains (text.domain_statements (sort_names entries) sizes) ≡ map plains (text.domain_statements (sort_names entries) others) = cc in
    let c = domain_same s.name n o h.0 k.0 a in
    let d = domains_same entries sizes others h.1 k.1 b in
    cc

pub domains_long : (entries : List SortEntry) (sizes : List ℕ) → AreSizes entries sizes → length (map plains (text.domain_statements (sort_names entries) sizes)) ≡ length entries
domains_long [] [] h = refl
domains_long [] (n ∷ sizes) h = absurd h
domains_long (s ∷ entries) [] h = absurd h
domains_long (s ∷ entries) (n ∷ sizes) h = ap suc (domains_long entries sizes h.1)

some_below : (a b : ℕ) → a < b → 0 < b
some_below a b h = omega arith

-- the heads of two structures, before other statements
pub record SameHead (sig : Signature) (K L : KripkeStructure) (ss ts : List (List Plain)) : Type 0 where
  pub worlds : K.worlds ≡ L.worlds
  pub actual : K.actual ≡ L.actual
  pub sizes : K.sizes ≡ L.sizes
  pub rest : ss ≡ ts

pub head_same : (sig : Signature) (K L : KripkeStructure) (ss ts : List (List Plain)) → IsOver sig K → IsOver sig L → map plains (text.head_marks sig K.worlds K.actual K.sizes) ++ ss ≡ map plains (text.head_marks sig L.worlds L.actual L.sizes) ++ ts → SameHead sig K L ss ts
head_same sig K L ss ts over over' e =
    let a : plains (text.worlds_statement K.worlds) ≡ plains (text.worlds_statement L.worlds) = cc in
    let b : plains (text.local_statement K.actual) ≡ plains (text.local_statement L.actual) = cc in
    let mine = map plains (text.domain_statements (sort_names sig.sorts) K.sizes) in
    let theirs = map plains (text.domain_statements (sort_names sig.sorts) L.sizes) in
    let c : mine ++ ss ≡ theirs ++ ts = cc in
    let t = same_fronts mine theirs ss ts (domains_long sig.sorts K.sizes over.sizes ∙ sym (domains_long sig.sorts L.sizes over'.sizes)) c in
    record {
      worlds = worlds_same K.worlds L.worlds (some_below _ _ over.actual) (some_below _ _ over'.actual) a;
      actual = local_same K.actual L.actual b;
      sizes = domains_same sig.sorts K.sizes L.sizes over.sizes over'.sizes t.0;
      rest = t.1;
    }

map_rows_same : (xs ys : List (List (List ℕ))) → map Rows xs ≡ map Rows ys → xs ≡ ys
map_rows_same [] [] e = refl
map_rows_same [] (y ∷ ys) e = absurd cc
map_rows_same (x ∷ xs) [] e = absurd cc
map_rows_same (x ∷ xs) (y ∷ ys) e =
    let a : x ≡ y = cc in
    let b : map Rows xs ≡ map Rows ys = cc in
    let c = map_rows_same xs ys b in
    cc

same_structure : (K L : KripkeStructure) → K.worlds ≡ L.worlds → K.actual ≡ L.actual → K.relations ≡ L.relations → K.sizes ≡ L.sizes → K.existing ≡ L.existing → K.symbols ≡ L.symbols → K ≡ L
same_structure K L a b c d e f = λ i. record { worlds = a i; actual = b i; relations = c i; sizes = d i; existing = e i; symbols = f i }

shapes_long : (sig : Signature) (K L : KripkeStructure) → K.worlds ≡ L.worlds → K.sizes ≡ L.sizes → length (existence_shapes K.worlds K.sizes 0 sig.sorts) ≡ length (existence_shapes L.worlds L.sizes 0 sig.sorts)
shapes_long sig K L a b = ap (λ (n : ℕ). length (existence_shapes n K.sizes 0 sig.sorts)) a ∙ ap (λ (n : List ℕ). length (existence_shapes L.worlds n 0 sig.sorts)) b

relations_long : (sig : Signature) (K L : KripkeStructure) → K.worlds ≡ L.worlds → length (relation_shapes K.worlds sig.indexes) ≡ length (relation_shapes L.worlds sig.indexes)
relations_long sig K L a = ap (λ (n : ℕ). length (relation_shapes n sig.indexes)) a

pub statements_determine : (sig : Signature) (K L : KripkeStructure) → IsOver sig K → IsOver sig L → text.kstatements sig K ≡ text.kstatements sig L → K ≡ L
statements_determine sig K L over over' e =
    let mine = text.table_statements (text.labels_of sig) (tables_with K) in
    let theirs = text.table_statements (text.labels_of sig) (tables_with L) in
    let h = head_same sig K L (map plains mine) (map plains theirs) over over' (sym (map-append plains (text.head_marks sig K.worlds K.actual K.sizes) mine) ∙ e ∙ map-append plains (text.head_marks sig L.worlds L.actual L.sizes) theirs) in
    let tables = tables_same (text.labels_of sig) (tables_with K) (tables_with L) (tables_fit sig K over) (tables_fit sig L over') h.rest in
    let one = same_fronts (map Rows K.relations) (map Rows L.relations) _ _ (tables_count _ _ over.relations ∙ relations_long sig K L h.worlds ∙ sym (tables_count _ _ over'.relations)) tables in
    let two = same_fronts (map Rows K.existing) (map Rows L.existing) _ _ (tables_count _ _ over.existing ∙ shapes_long sig K L h.worlds h.sizes ∙ sym (tables_count _ _ over'.existing)) one.1 in
    same_structure K L h.worlds h.actual (map_rows_same K.relations L.relations one.0) h.sizes (map_rows_same K.existing L.existing two.0) two.1

pub equal-law : EqualLaw
equal-law sig K L over over' e =
    statements_determine sig K L over over' (same_statements (text.kstatements sig K) (text.kstatements sig L) (all_end sig K) (all_end sig L) (tokens_joined sig K ∙ e ∙ sym (tokens_joined sig L)))
