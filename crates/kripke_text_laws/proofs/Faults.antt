-- Where a text goes wrong: what is read so far, and that the next statement isn't one of those that may follow, make the fault.
use Rattle.std.proofs.Common.{◌≡◌, ℕ, suc, ◌+◌, ◌<◌, List, [], ◌∷◌, ◌++◌, map, length, refl, sym, ap, subst, ◌∙◌, append_assoc, append-nil, arith, inl, inr}
use Rattle.std.proofs.lemmas.List.{map-append}
use Rattle.std.proofs.lemmas.Bool.{cases_lt}
use Rattle.nxf_tree.specs.declared.tree.Signature.{Signature}
use Rattle.nxf_tree.specs.declared.tree.SortEntry.{SortEntry}
use Rattle.nxf_tree.specs.Signature.{sort_names}
use Rattle.nxf_tree.specs.WellFormed.{HasSortsInRange}
use Rattle.nxf_tree.specs.Rows.{Table, Rows, Shape, AreTables, AreSizes}
use Rattle.nxf_tree.specs.Structures.{KripkeStructure, IsOver, tables_with, relation_shapes, existence_shapes}
use Rattle.fin_struct.specs.KripkeTables.{kripke_shapes}
use Rattle.plain_tokens.specs.PlainTokens.{Plain}
use Rattle.kripke_text_definitions.specs.TokenStatements.{statements}
use Rattle.plain_tokens.specs.Marks.{Mark, plains}
use Rattle.kripke_text_definitions.specs.KripkeText as text
use Rattle.kripke_text_definitions.specs.KripkeText.{Label}
use Rattle.kripke_text_definitions.specs.Reading.{BeginsSome, Faults, IsFormFault}
use Rattle.kripke_text_laws.specs.steps.FirstParts.{AreFirstSizes, AreFirst, IsNextDomain, IsNextTable, IsWorlds, IsLocal, NextIsNot}
use Rattle.kripke_text_laws.proofs.Splits.{split_whole}
use Rattle.kripke_text_laws.proofs.Whole.{all_end, tokens_joined}
use Rattle.kripke_text_laws.proofs.Heads.{worlds_same}
use Rattle.kripke_text_laws.proofs.Equal.{head_same}
use Rattle.kripke_text_laws.proofs.Complete.{structure_of, complete_tables, all_room, begins_tables, begins_domains, begins_less}

first_same : (p q : List Plain) (ps qs : List (List Plain)) → p ∷ ps ≡ q ∷ qs → p ≡ q
first_same p q ps qs e = cc

rest_same : (p q : List Plain) (ps qs : List (List Plain)) → p ∷ ps ≡ q ∷ qs → ps ≡ qs
rest_same p q ps qs e = cc

none_some : (p : List Plain) (ps : List (List Plain)) → p ∷ ps ≡ [] → ⊥
none_some p ps e = cc

some_below : (a b : ℕ) → a < b → 0 < b
some_below a b h = omega arith

-- ---- the first statement

worlds_faults : (sig : Signature) (ss : List (List Plain)) → NextIsNot IsWorlds ss → Faults sig [] ss
worlds_faults sig [] h = λ w. none_some _ _ w.whole
worlds_faults sig (s ∷ ss) h = λ b. h (b.K.worlds, some_below _ _ b.over.actual, sym (first_same _ _ _ _ b.begins))

pub fault_worlds : (sig : Signature) (tokens : List Plain) (ss : List (List Plain)) → HasSortsInRange sig → statements tokens ≡ ss → NextIsNot IsWorlds ss → IsFormFault sig tokens 1
fault_worlds sig tokens ss wf e h = record {
  before = [];
  rest = ss;
  parts = e;
  number = refl;
  begins = begins_less sig [] (map plains (text.head_marks sig 1 0 [])) (begins_domains sig 1 0 [] wf (omega arith) tt);
  fault = worlds_faults sig ss h;
}

-- ---- the second

local_faults : (sig : Signature) (n : ℕ) (ss : List (List Plain)) → 0 < n → NextIsNot (IsLocal n) ss → Faults sig (plains (text.worlds_statement n) ∷ []) ss
local_faults sig n [] p h = λ w. none_some _ _ (rest_same _ _ _ _ w.whole)
local_faults sig n (s ∷ ss) p h = λ b.
    let same = worlds_same b.K.worlds n (some_below _ _ b.over.actual) p (first_same _ _ _ _ b.begins) in
    h (b.K.actual, subst (λ (m : ℕ). b.K.actual < m) same b.over.actual, sym (first_same _ _ _ _ (rest_same _ _ _ _ b.begins)))

pub fault_local : (sig : Signature) (tokens : List Plain) (n : ℕ) (ss : List (List Plain)) → HasSortsInRange sig → 0 < n → statements tokens ≡ plains (text.worlds_statement n) ∷ ss → NextIsNot (IsLocal n) ss → IsFormFault sig tokens 2
fault_local sig tokens n ss wf p e h = record {
  before = plains (text.worlds_statement n) ∷ [];
  rest = ss;
  parts = e;
  number = refl;
  begins = begins_less sig (plains (text.worlds_statement n) ∷ []) (plains (text.local_statement 0) ∷ map plains (text.domain_statements (sort_names sig.sorts) [])) (begins_domains sig n 0 [] wf p tt);
  fault = local_faults sig n ss p h;
}

-- ---- the elements of sorts

next_domain : (entries : List SortEntry) (sizes given : List ℕ) (s : List Plain) (more after : List (List Plain)) → AreSizes entries sizes → length given < length entries → map plains (text.domain_statements (sort_names entries) sizes) ++ more ≡ map plains (text.domain_statements (sort_names entries) given) ++ s ∷ after → IsNextDomain entries given s
next_domain [] sizes given s more after h k e = absurd (omega arith)
next_domain (d ∷ entries) [] given s more after h k e = absurd h
next_domain (d ∷ entries) (n ∷ sizes) [] s more after h k e = (n, h.0, sym (first_same _ _ _ _ e))
next_domain (d ∷ entries) (n ∷ sizes) (g ∷ given) s more after h k e = next_domain entries sizes given s more after h.1 (omega arith) (rest_same _ _ _ _ e)

few_domains : (entries : List SortEntry) (sizes given : List ℕ) (more : List (List Plain)) → AreSizes entries sizes → length given < length entries → map plains (text.domain_statements (sort_names entries) sizes) ++ more ≡ map plains (text.domain_statements (sort_names entries) given) → ⊥
few_domains [] sizes given more h k e = absurd (omega arith)
few_domains (d ∷ entries) [] given more h k e = absurd h
few_domains (d ∷ entries) (n ∷ sizes) [] more h k e = none_some _ _ e
few_domains (d ∷ entries) (n ∷ sizes) (g ∷ given) more h k e = few_domains entries sizes given more h.1 (omega arith) (rest_same _ _ _ _ e)

-- the statements of a structure behind the first two
behind_two : (sig : Signature) (K : KripkeStructure) → text.kstatements sig K ≡ plains (text.worlds_statement K.worlds) ∷ plains (text.local_statement K.actual) ∷ (map plains (text.domain_statements (sort_names sig.sorts) K.sizes) ++ map plains (text.table_statements (text.labels_of sig) (tables_with K)))
behind_two sig K = ap (λ (ss : List (List Plain)). plains (text.worlds_statement K.worlds) ∷ plains (text.local_statement K.actual) ∷ ss) (map-append plains (text.domain_statements (sort_names sig.sorts) K.sizes) (text.table_statements (text.labels_of sig) (tables_with K)))

domain_faults : (sig : Signature) (n w : ℕ) (given : List ℕ) (ss : List (List Plain)) → length given < length sig.sorts → NextIsNot (IsNextDomain sig.sorts given) ss → Faults sig (map plains (text.head_marks sig n w given)) ss
domain_faults sig n w given [] k h = λ v.
    few_domains sig.sorts v.K.sizes given _ v.over.sizes k (rest_same _ _ _ _ (rest_same _ _ _ _ (sym (behind_two sig v.K) ∙ v.whole)))
domain_faults sig n w given (s ∷ ss) k h = λ b.
    let e = sym (behind_two sig b.K) ∙ b.begins ∙ append_assoc (map plains (text.head_marks sig n w given)) (s ∷ []) b.after in
    h (next_domain sig.sorts b.K.sizes given s _ b.after b.over.sizes k (rest_same _ _ _ _ (rest_same _ _ _ _ e)))

domains_length : (entries : List SortEntry) (given : List ℕ) → AreFirstSizes entries given → length (map plains (text.domain_statements (sort_names entries) given)) ≡ length given
domains_length [] [] h = refl
domains_length (d ∷ entries) [] h = refl
domains_length [] (g ∷ given) h = absurd h
domains_length (d ∷ entries) (g ∷ given) h = ap suc (domains_length entries given h.1)

pub fault_domain : (sig : Signature) (tokens : List Plain) (n w : ℕ) (given : List ℕ) (ss : List (List Plain)) → HasSortsInRange sig → w < n → AreFirstSizes sig.sorts given → length given < length sig.sorts → statements tokens ≡ map plains (text.head_marks sig n w given) ++ ss → NextIsNot (IsNextDomain sig.sorts given) ss → IsFormFault sig tokens (3 + length given)
fault_domain sig tokens n w given ss wf p first k e h = record {
  before = map plains (text.head_marks sig n w given);
  rest = ss;
  parts = e;
  number = omega (arith, domains_length sig.sorts given first);
  begins = begins_domains sig n w given wf p first;
  fault = domain_faults sig n w given ss k h;
}

-- ---- the tables

are_both : (shapes others : List Shape) (tables more : List Table) → AreTables shapes tables → AreTables others more → AreTables (shapes ++ others) (tables ++ more)
are_both [] others [] more h k = k
are_both [] others (t ∷ tables) more h k = absurd h
are_both (s ∷ shapes) others [] more h k = absurd h
are_both (s ∷ shapes) others (t ∷ tables) more h k = (h.0, are_both shapes others tables more h.1 k)

pub all_tables : (sig : Signature) (K : KripkeStructure) → IsOver sig K → AreTables (kripke_shapes sig K.worlds K.sizes) (tables_with K)
all_tables sig K over =
    are_both (relation_shapes K.worlds sig.indexes) _ (map Rows K.relations) _ over.relations
    (are_both (existence_shapes K.worlds K.sizes 0 sig.sorts) _ (map Rows K.existing) _ over.existing over.symbols)

next_table : (labels : List Label) (shapes : List Shape) (tables given : List Table) (s : List Plain) (after : List (List Plain)) → AreTables shapes tables → map plains (text.table_statements labels tables) ≡ map plains (text.table_statements labels given) ++ s ∷ after → IsNextTable labels shapes given s
next_table [] shapes tables given s after h e = absurd (none_some s after (sym e))
next_table (l ∷ labels) [] [] [] s after h e = absurd (none_some s after (sym e))
next_table (l ∷ labels) [] [] (g ∷ given) s after h e = absurd (none_some _ _ (sym e))
next_table (l ∷ labels) [] (t ∷ tables) given s after h e = absurd h
next_table (l ∷ labels) (c ∷ shapes) [] given s after h e = absurd h
next_table (l ∷ labels) (c ∷ shapes) (t ∷ tables) [] s after h e = (t, h.0, sym (first_same _ _ _ _ e))
next_table (l ∷ labels) (c ∷ shapes) (t ∷ tables) (g ∷ given) s after h e = next_table labels shapes tables given s after h.1 (rest_same _ _ _ _ e)

-- the head of another structure with the same first statements
pub record Agrees (sig : Signature) (K : KripkeStructure) (n w : ℕ) (sizes : List ℕ) (ss : List (List Plain)) : Type 0 where
  pub worlds : K.worlds ≡ n
  pub sizes_are : K.sizes ≡ sizes
  pub tables : map plains (text.table_statements (text.labels_of sig) (tables_with K)) ≡ ss
  pub are : AreTables (kripke_shapes sig n sizes) (tables_with K)

pub agrees : (sig : Signature) (K : KripkeStructure) (n w : ℕ) (sizes : List ℕ) (ss : List (List Plain)) → HasSortsInRange sig → IsOver sig K → w < n → AreSizes sig.sorts sizes → text.kstatements sig K ≡ map plains (text.head_marks sig n w sizes) ++ ss → Agrees sig K n w sizes ss
agrees sig K n w sizes ss wf over p k e =
    let c = complete_tables (kripke_shapes sig n sizes) [] [] (all_room sig n sizes wf k) tt in
    let m = structure_of sig n w sizes c.tables p k c.are in
    let heads : text.head_marks sig m.K.worlds m.K.actual m.K.sizes ≡ text.head_marks sig n w sizes = λ i. text.head_marks sig (m.worlds i) (m.actual i) (m.sizes_are i) in
    let mine = map plains (text.table_statements (text.labels_of sig) (tables_with K)) in
    let same = head_same sig K m.K mine ss over m.over (sym (map-append plains (text.head_marks sig K.worlds K.actual K.sizes) (text.table_statements (text.labels_of sig) (tables_with K))) ∙ e ∙ ap (λ (ms : List (List Mark)). map plains ms ++ ss) (sym heads)) in
    let a = same.worlds ∙ m.worlds in
    let b = same.sizes ∙ m.sizes_are in
    record {
      worlds = a;
      sizes_are = b;
      tables = same.rest;
      are = subst (λ (z : List ℕ). AreTables (kripke_shapes sig n z) (tables_with K)) b (subst (λ (m : ℕ). AreTables (kripke_shapes sig m K.sizes) (tables_with K)) a (all_tables sig K over));
    }

few_tables : (labels : List Label) (shapes : List Shape) (tables given : List Table) → AreTables shapes tables → length labels ≡ length shapes → length given < length labels → map plains (text.table_statements labels tables) ≡ map plains (text.table_statements labels given) → ⊥
few_tables [] shapes tables given h len k e = absurd (omega arith)
few_tables (l ∷ labels) [] tables given h len k e = absurd (omega arith)
few_tables (l ∷ labels) (c ∷ shapes) [] given h len k e = absurd h
few_tables (l ∷ labels) (c ∷ shapes) (t ∷ tables) [] h len k e = none_some _ _ e
few_tables (l ∷ labels) (c ∷ shapes) (t ∷ tables) (g ∷ given) h len k e = few_tables labels shapes tables given h.1 (omega arith) (omega arith) (rest_same _ _ _ _ e)

-- the statements read so far
abbrev pub read_so_far : Signature → ℕ → ℕ → List ℕ → List Table → List (List Plain)
read_so_far sig n w sizes given = map plains (text.head_marks sig n w sizes ++ text.table_statements (text.labels_of sig) given)

so_far : (sig : Signature) (n w : ℕ) (sizes : List ℕ) (given : List Table) (ss : List (List Plain)) → read_so_far sig n w sizes given ++ ss ≡ map plains (text.head_marks sig n w sizes) ++ (map plains (text.table_statements (text.labels_of sig) given) ++ ss)
so_far sig n w sizes given ss =
    ap (λ (r : List (List Plain)). r ++ ss) (map-append plains (text.head_marks sig n w sizes) (text.table_statements (text.labels_of sig) given))
    ∙ append_assoc (map plains (text.head_marks sig n w sizes)) (map plains (text.table_statements (text.labels_of sig) given)) ss

-- with a next statement, or with none before all tables are read
abbrev pub IsMissing : Signature → List Table → List (List Plain) → Type 0
IsMissing sig given [] = length given < length (text.labels_of sig)
IsMissing sig given (s ∷ ss) = Unit {0}

table_faults : (sig : Signature) (n w : ℕ) (sizes : List ℕ) (given : List Table) (ss : List (List Plain)) → HasSortsInRange sig → w < n → AreSizes sig.sorts sizes → length (text.labels_of sig) ≡ length (kripke_shapes sig n sizes) → IsMissing sig given ss → NextIsNot (IsNextTable (text.labels_of sig) (kripke_shapes sig n sizes) given) ss → Faults sig (read_so_far sig n w sizes given) ss
table_faults sig n w sizes given [] wf p k len few h = λ v.
    let a = agrees sig v.K n w sizes (map plains (text.table_statements (text.labels_of sig) given)) wf v.over p k (v.whole ∙ map-append plains (text.head_marks sig n w sizes) (text.table_statements (text.labels_of sig) given)) in
    few_tables (text.labels_of sig) (kripke_shapes sig n sizes) (tables_with v.K) given a.are len few a.tables
table_faults sig n w sizes given (s ∷ ss) wf p k len few h = λ b.
    let e = b.begins ∙ append_assoc (read_so_far sig n w sizes given) (s ∷ []) b.after ∙ so_far sig n w sizes given (s ∷ b.after) in
    let a = agrees sig b.K n w sizes (map plains (text.table_statements (text.labels_of sig) given) ++ s ∷ b.after) wf b.over p k e in
    h (next_table (text.labels_of sig) (kripke_shapes sig n sizes) (tables_with b.K) given s b.after a.are a.tables)

pub fault_table : (sig : Signature) (tokens : List Plain) (n w : ℕ) (sizes : List ℕ) (given : List Table) (ss : List (List Plain)) (j : ℕ) → HasSortsInRange sig → w < n → AreSizes sig.sorts sizes → length (text.labels_of sig) ≡ length (kripke_shapes sig n sizes) → AreFirst (kripke_shapes sig n sizes) given → IsMissing sig given ss → j ≡ length (read_so_far sig n w sizes given) → statements tokens ≡ read_so_far sig n w sizes given ++ ss → NextIsNot (IsNextTable (text.labels_of sig) (kripke_shapes sig n sizes) given) ss → IsFormFault sig tokens (suc j)
fault_table sig tokens n w sizes given ss j wf p k len first few count e h = record {
  before = read_so_far sig n w sizes given;
  rest = ss;
  parts = e;
  number = ap suc count;
  begins = begins_tables sig n w sizes given wf p k first;
  fault = table_faults sig n w sizes given ss wf p k len few h;
}

-- ---- whole texts have no fault, and no text has two

no_fault : (sig : Signature) (K : KripkeStructure) (before rest : List (List Plain)) → IsOver sig K → before ++ rest ≡ text.kstatements sig K → Faults sig before rest → ⊥
no_fault sig K before [] over e f = f (record { K = K; over = over; whole = sym (sym (append-nil before) ∙ e) })
no_fault sig K before (s ∷ rest) over e f = f (record { K = K; over = over; after = rest; begins = sym e ∙ sym (append_assoc before (s ∷ []) rest) })

pub whole_is_good : (sig : Signature) (K : KripkeStructure) (tokens : List Plain) (k : ℕ) → IsOver sig K → tokens ≡ text.ktokens sig K → IsFormFault sig tokens k → ⊥
whole_is_good sig K tokens k over e f =
    no_fault sig K f.before f.rest over (sym f.parts ∙ ap statements (e ∙ sym (tokens_joined sig K)) ∙ split_whole (text.kstatements sig K) (all_end sig K)) f.fault

-- a longer good beginning leaves no fault in a shorter one
pub longer : (xs ys us vs : List (List Plain)) → xs ++ ys ≡ us ++ vs → length xs < length us → (s : List Plain) × (more rest : List (List Plain)) × (ys ≡ s ∷ rest) × (us ≡ (xs ++ s ∷ []) ++ more)
longer [] ys [] vs e h = absurd (omega arith)
longer [] ys (u ∷ us) vs e h = (u, us, us ++ vs, e, refl)
longer (x ∷ xs) ys [] vs e h = absurd (omega arith)
longer (x ∷ xs) ys (u ∷ us) vs e h =
    let a = first_same x u (xs ++ ys) (us ++ vs) e in
    let t = longer xs ys us vs (rest_same x u (xs ++ ys) (us ++ vs) e) (omega arith) in
    let b = sym a in
    (t.0, t.1, t.2, t.3, (λ i. b i ∷ t.4 i))

pub not_before : (sig : Signature) (xs ys us : List (List Plain)) (s : List Plain) (more rest : List (List Plain)) → ys ≡ s ∷ rest → us ≡ (xs ++ s ∷ []) ++ more → BeginsSome sig us → Faults sig xs ys → ⊥
not_before sig xs [] us s more rest e f b g = absurd (none_some s rest (sym e))
not_before sig xs (y ∷ ys) us s more rest e f b g =
    let same : s ≡ y = sym (first_same _ _ _ _ e) in
    g (begins_less sig (xs ++ y ∷ []) more (subst (λ (r : List (List Plain)). BeginsSome sig r) (f ∙ ap (λ (z : List Plain). (xs ++ z ∷ []) ++ more) same) b))

fault_order : (sig : Signature) (tokens : List Plain) (k l : ℕ) → (f : IsFormFault sig tokens k) → (g : IsFormFault sig tokens l) → length f.before < length g.before → ⊥
fault_order sig tokens k l f g h =
    let t = longer f.before f.rest g.before g.rest (sym f.parts ∙ g.parts) h in
    not_before sig f.before f.rest g.before t.0 t.1 t.2 t.3 t.4 g.begins f.fault

pub one_fault : (sig : Signature) (tokens : List Plain) (k l : ℕ) → IsFormFault sig tokens k → IsFormFault sig tokens l → k ≡ l
one_fault sig tokens k l f g = elim (cases_lt (length f.before) (length g.before)) [
  | inl less ↦ absurd (fault_order sig tokens k l f g less)
  | inr more ↦ elim (cases_lt (length g.before) (length f.before)) [
    | inl less ↦ absurd (fault_order sig tokens l k g f less)
    | inr same ↦ omega (arith, f.number, g.number)
  ]
]
