-- The statements of a whole text: how many there are, and that its tokens are theirs.
use Rattle.std.proofs.Common.{◌≡◌, ℕ, suc, ◌+◌, Bool, true, false, cond, List, [], ◌∷◌, ◌++◌, map, length, None, refl, sym, ap, ◌∙◌, length-append, arith}
use Rattle.std.specs.Prelude.{flat_map}
use Rattle.std.specs.List.{list_all}
use Rattle.std.proofs.lemmas.Bool.{and_from}
use Rattle.std.proofs.lemmas.List.{map-append, length-map}
use Rattle.std.proofs.lemmas.List.Folds.{list_all-append}
use Rattle.nxf_tree.specs.declared.tree.Signature.{Signature}
use Rattle.nxf_tree.specs.declared.tree.SortEntry.{SortEntry}
use Rattle.nxf_tree.specs.declared.tree.IndexEntry.{IndexEntry}
use Rattle.nxf_tree.specs.declared.tree.SortName.{SortName}
use Rattle.nxf_tree.specs.Signature.{constant_regime, existence_sorts, sort_names}
use Rattle.nxf_tree.specs.Rows.{Table, Rows, Shape, AreTables, AreSizes, size_at}
use Rattle.nxf_tree.specs.Structures.{KripkeStructure, IsOver, relation_shapes, existence_shapes, symbol_shape, symbol_shapes, tables_with}
use Rattle.plain_tokens.specs.PlainTokens.{Plain}
use Rattle.plain_tokens.specs.Marks.{Mark, plains}
use Rattle.kripke_text_definitions.specs.KripkeText as text
use Rattle.kripke_text_definitions.specs.KripkeText.{Label, Access, Exists}
use Rattle.kripke_text_definitions.specs.Reading.{head_length}
use Rattle.kripke_text_laws.specs.KripkeTextLaws.{PrefixLaw}
use Rattle.kripke_text_laws.proofs.Splits.{joined, ends_at_stop, no_proper_prefix}
use Rattle.kripke_text_laws.proofs.Stops.{head_ends, tables_end}

-- ---- each statement ends

pub all_end : (sig : Signature) (K : KripkeStructure) → list_all ends_at_stop (text.kstatements sig K) ≡ true
all_end sig K =
    let head = text.head_marks sig K.worlds K.actual K.sizes in
    let tables = text.table_statements (text.labels_of sig) (tables_with K) in
    ap (list_all ends_at_stop) (map-append plains head tables)
    ∙ list_all-append ends_at_stop (map plains head) (map plains tables)
    ∙ and_from _ _ (head_ends sig K.worlds K.actual K.sizes) (tables_end (text.labels_of sig) (tables_with K))

joined_are : (ms : List (List Mark)) → joined (map plains ms) ≡ flat_map plains ms
joined_are [] = refl
joined_are (m ∷ ms) = ap (λ (r : List Plain). plains m ++ r) (joined_are ms)

pub tokens_joined : (sig : Signature) (K : KripkeStructure) → joined (text.kstatements sig K) ≡ text.ktokens sig K
tokens_joined sig K = joined_are (text.marks_of sig K)

-- ---- how many there are

sizes_count : (entries : List SortEntry) (sizes : List ℕ) → AreSizes entries sizes → length sizes ≡ length entries
sizes_count [] [] h = refl
sizes_count [] (n ∷ sizes) h = absurd h
sizes_count (e ∷ entries) [] h = absurd h
sizes_count (e ∷ entries) (n ∷ sizes) h = ap suc (sizes_count entries sizes h.1)

pub tables_count : (shapes : List Shape) (tables : List Table) → AreTables shapes tables → length tables ≡ length shapes
tables_count [] [] h = refl
tables_count [] (t ∷ tables) h = absurd h
tables_count (s ∷ shapes) [] h = absurd h
tables_count (s ∷ shapes) (t ∷ tables) h = ap suc (tables_count shapes tables h.1)

existence_by : (worlds : ℕ) (sizes : List ℕ) (k : ℕ) (e : SortEntry) (entries : List SortEntry) (t : Bool) → length (existence_shapes worlds sizes (suc k) entries) ≡ length (existence_sorts entries) → length (cond t (existence_shapes worlds sizes (suc k) entries) (record { sizes = worlds ∷ size_at sizes k ∷ []; values = None } ∷ existence_shapes worlds sizes (suc k) entries)) ≡ length (cond t (existence_sorts entries) (e.name ∷ existence_sorts entries))
existence_by worlds sizes k e entries true ih = ih
existence_by worlds sizes k e entries false ih = ap suc ih

existence_count : (worlds : ℕ) (sizes : List ℕ) (k : ℕ) (entries : List SortEntry) → length (existence_shapes worlds sizes k entries) ≡ length (existence_sorts entries)
existence_count worlds sizes k [] = refl
existence_count worlds sizes k (e ∷ entries) = existence_by worlds sizes k e entries (constant_regime e.regime) (existence_count worlds sizes (suc k) entries)

domains_count : (ss : List SortName) (sizes : List ℕ) → length sizes ≡ length ss → length (text.domain_statements ss sizes) ≡ length ss
domains_count [] [] h = refl
domains_count [] (n ∷ sizes) h = absurd (omega arith)
domains_count (s ∷ ss) [] h = absurd (omega arith)
domains_count (s ∷ ss) (n ∷ sizes) h = ap suc (domains_count ss sizes (omega arith))

statements_count : (labels : List Label) (tables : List Table) → length tables ≡ length labels → length (text.table_statements labels tables) ≡ length labels
statements_count [] [] h = refl
statements_count [] (t ∷ tables) h = absurd (omega arith)
statements_count (l ∷ labels) [] h = absurd (omega arith)
statements_count (l ∷ labels) (t ∷ tables) h = ap suc (statements_count labels tables (omega arith))

pub tables_are : (sig : Signature) (K : KripkeStructure) → IsOver sig K → length (tables_with K) ≡ length (text.labels_of sig)
tables_are sig K over =
    let relations = tables_count (relation_shapes K.worlds sig.indexes) (map Rows K.relations) over.relations in
    let existing = tables_count (existence_shapes K.worlds K.sizes 0 sig.sorts) (map Rows K.existing) over.existing in
    let symbols = tables_count (symbol_shapes K.worlds K.sizes sig.symbols) K.symbols over.symbols in
    let counted = existence_count K.worlds K.sizes 0 sig.sorts in
    let a = length-map sig.indexes (λ (entry : IndexEntry). let s : Shape = record { sizes = K.worlds ∷ K.worlds ∷ []; values = None } in s) in
    let b = length-map sig.indexes (λ (entry : IndexEntry). Access entry.name) in
    let c = length-map (existence_sorts sig.sorts) Exists in
    let d = length-map sig.symbols (symbol_shape K.worlds K.sizes) in
    let e = length-map sig.symbols (text.symbol_label sig.sorts) in
    let f = length-append (map Rows K.relations) (map Rows K.existing ++ K.symbols) in
    let g = length-append (map Rows K.existing) K.symbols in
    let h = length-append (map (λ (entry : IndexEntry). Access entry.name) sig.indexes) (map Exists (existence_sorts sig.sorts) ++ map (text.symbol_label sig.sorts) sig.symbols) in
    let i = length-append (map Exists (existence_sorts sig.sorts)) (map (text.symbol_label sig.sorts) sig.symbols) in
    omega arith

pub statements_are : (sig : Signature) (K : KripkeStructure) → IsOver sig K → length (text.kstatements sig K) ≡ head_length sig + length (text.labels_of sig)
statements_are sig K over =
    let head = text.head_marks sig K.worlds K.actual K.sizes in
    let tables = text.table_statements (text.labels_of sig) (tables_with K) in
    let names = length-map sig.sorts (λ (entry : SortEntry). entry.name) in
    let sizes = sizes_count sig.sorts K.sizes over.sizes in
    let domains = domains_count (sort_names sig.sorts) K.sizes (omega arith) in
    let counted = statements_count (text.labels_of sig) (tables_with K) (tables_are sig K over) in
    let a = length-map (head ++ tables) plains in
    let b = length-append head tables in
    omega arith

pub prefix-law : PrefixLaw
prefix-law sig K L more over over' e =
    no_proper_prefix (text.kstatements sig K) (text.kstatements sig L) more (all_end sig K) (all_end sig L) (statements_are sig K over ∙ sym (statements_are sig L over'))
    (ap (λ (r : List Plain). r ++ more) (tokens_joined sig K) ∙ e ∙ sym (tokens_joined sig L))
