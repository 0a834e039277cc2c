-- Each list of tokens is the text of a structure within the limits, or it has a refusal.
use Rattle.std.proofs.Common.{◌≡◌, ℕ, zero, suc, ◌+◌, ◌<◌, ◌≤◌, List, [], ◌∷◌, ◌++◌, map, length, refl, sym, ap, subst, ◌∙◌, append_assoc, append-nil, length-append, arith}
use Rattle.std.specs.Prelude.{◌⊎◌, ◌≢◌, codes}
use mathlib.Core.Logic.{inl, inr}
use Rattle.std.proofs.lemmas.Bool.{cases_lt}
use Rattle.std.proofs.lemmas.List.{map-append}
use Rattle.std.proofs.lemmas.Grind.{flat_map-append}
use Rattle.nxf_tree.specs.declared.tree.Signature.{Signature}
use Rattle.nxf_tree.specs.declared.tree.SortEntry.{SortEntry}
use Rattle.nxf_tree.specs.Signature.{sort_names}
use Rattle.nxf_tree.specs.ClassicalSignature.{classical_signature_of}
use Rattle.nxf_tree.specs.WellFormed.{HasSortsInRange}
use Rattle.nxf_tree.specs.Rows.{Table, Shape, AreSizes, AreTables, numbers_below}
use Rattle.nxf_tree.specs.Structures.{KripkeStructure, IsOver}
use Rattle.fin_struct.specs.Limits.{cells_of}
use Rattle.fin_struct.specs.KripkeTables.{kripke_shapes}
use Rattle.plain_tokens.specs.PlainTokens.{Plain}
use Rattle.plain_tokens.specs.Marks.{Mark, Sign, Dollar, Blank, Line, plains, mark_plains}
use Rattle.kripke_text_definitions.specs.declared.error.KripkeTextError.{KripkeTextError}
use Rattle.kripke_text_definitions.specs.declared.error.KripkeTextError.TheVariants.{Form, TooManyWorlds, TooBig, Memory}
use Rattle.kripke_text_definitions.specs.TokenStatements.{statements}
use Rattle.kripke_text_definitions.specs.KripkeText as text
use Rattle.kripke_text_definitions.specs.KripkeText.{Label}
use Rattle.kripke_text_definitions.specs.Reading.{AreFew, Explains, HasHead, IsFormFault, head_length}
use Rattle.kripke_text_laws.specs.steps.FirstParts.{AreFirstSizes, AreFirst, IsNextDomain, IsNextTable, IsWorlds, IsLocal, NextIsNot}
use Rattle.kripke_text_laws.proofs.Complete.{structure_of, complete_tables, all_room}
use Rattle.kripke_text_laws.proofs.Faults.{IsMissing, read_so_far, fault_worlds, fault_local, fault_domain, fault_table}
use Rattle.kripke_text_laws.proofs.Heads.{numbered, counted}
use Rattle.kripke_text_laws.proofs.Joins.{joined_back}
use Rattle.kripke_text_laws.proofs.Refusals.{same_heads}
use Rattle.kripke_text_laws.proofs.Splits.{joined}
use Rattle.kripke_text_laws.proofs.Whole.{tokens_joined, tables_are, tables_count}
use Rattle.answer_laws.proofs.Deciding.{Decided, decided_both, is_below, SomeBelow, some_below}
use Rattle.answer_laws.proofs.DecidingTables.{tokens, table_or_not}

-- the text of a structure within the limits
pub record IsFewText (sig : Signature) (ts : List Plain) : Type 0 where
  pub K : KripkeStructure
  pub over : IsOver sig K
  pub few : AreFew sig K.worlds K.sizes
  pub tokens_are : ts ≡ text.ktokens sig K

-- such a text, or a refusal
abbrev pub TextOrRefusal : Signature → List Plain → Type 0
TextOrRefusal sig ts = IsFewText sig ts ⊎ ((e : KripkeTextError) × Explains sig ts e × (e ≢ Memory))

-- ---- statements with a number

-- no number is above the number of tokens in its statement

body_long : (name : List ℕ) (body : List Mark) → length (plains body) ≤ length (plains (text.statement name body))
body_long name body =
    let tail : List Mark = Sign (codes ")") ∷ Sign (codes ".") ∷ Line ∷ [] in
    omega (arith, ap length (flat_map-append mark_plains body tail), length-append (plains body) (plains tail))

length-numbers : (n : ℕ) → length (numbers_below n) ≡ n
length-numbers zero = refl
length-numbers (suc n) = omega (arith, length-append (numbers_below n) (n ∷ []), length-numbers n)

members_long : (variable front : List ℕ) (sort : Mark) (n : ℕ) → 0 < n → n ≤ length (plains (text.all_of variable sort (numbered front) n))
members_long variable front sort n h =
    let close : List Mark = Blank ∷ Sign (codes ")") ∷ [] in
    let some : List Mark = text.between text.or_sign (map (text.member variable (numbered front)) (numbers_below n)) in
    let behind : List Plain = plains (Sign (codes "]") ∷ Blank ∷ Sign (codes ":") ∷ Blank ∷ Sign (codes "(") ∷ Blank ∷ (some ++ close)) in
    omega (arith, length-append (mark_plains sort) behind, ap length (flat_map-append mark_plains some close), length-append (plains some) (plains close), counted variable front (numbers_below n) (omega (arith, length-numbers n)), length-numbers n)

-- whether a statement is one of those with a number that is at least 1
some_numbered : (statement : ℕ → List Mark) (s : List Plain) → ((n : ℕ) → 0 < n → n ≤ length (plains (statement n))) → Decided ((n : ℕ) × (0 < n) × (s ≡ plains (statement n)))
some_numbered statement s long = by_search (some_below (λ n. (0 < n) × (s ≡ plains (statement n))) (λ n. decided_both (is_below 0 n) (tokens s (plains (statement n)))) (suc (length s)))
  where
    by_search : SomeBelow (λ n. (0 < n) × (s ≡ plains (statement n))) (suc (length s)) → Decided ((n : ℕ) × (0 < n) × (s ≡ plains (statement n)))
    by_search (inl found) = inl (found.0, found.1.0, found.1.1)
    by_search (inr none) = inr (λ h. none h.0 (omega (arith, long h.0 h.1, ap length h.2)) (h.1, h.2))

worlds_or_not : (s : List Plain) → Decided (IsWorlds s)
worlds_or_not s =
    some_numbered text.worlds_statement s
    (λ n h. omega (arith, members_long (codes "W") (codes "w") (Dollar (codes "$world")) n h, body_long (codes "worlds") (text.all_of (codes "W") (Dollar (codes "$world")) text.world n)))

local_or_not : (n : ℕ) (s : List Plain) → Decided (IsLocal n s)
local_or_not n s = by_search (some_below (λ w. (w < n) × (s ≡ plains (text.local_statement w))) (λ w. decided_both (is_below w n) (tokens s (plains (text.local_statement w)))) n)
  where
    by_search : SomeBelow (λ w. (w < n) × (s ≡ plains (text.local_statement w))) n → Decided (IsLocal n s)
    by_search (inl found) = inl (found.0, found.1.0, found.1.1)
    by_search (inr none) = inr (λ h. none h.0 h.1 (h.1, h.2))

domain_or_not : (entries : List SortEntry) (given : List ℕ) (s : List Plain) → Decided (IsNextDomain entries given s)
domain_or_not [] given s = inr (λ h. h)
domain_or_not (entry ∷ entries) [] s =
    some_numbered (text.domain_statement entry.name) s
    (λ n h. omega (arith, members_long (codes "X") (text.prefix entry.name) (text.sort_mark entry.name) n h, body_long (codes "domain") (text.all_of (codes "X") (text.sort_mark entry.name) (text.element entry.name) n)))
domain_or_not (entry ∷ entries) (n ∷ given) s = domain_or_not entries given s

next_table_or_not : (labels : List Label) (shapes : List Shape) (given : List Table) (s : List Plain) → Decided (IsNextTable labels shapes given s)
next_table_or_not [] shapes given s = inr (λ h. h)
next_table_or_not (label ∷ labels) [] given s = inr (λ h. h)
next_table_or_not (label ∷ labels) (shape ∷ shapes) [] s = table_or_not label shape s
next_table_or_not (label ∷ labels) (shape ∷ shapes) (table ∷ given) s = next_table_or_not labels shapes given s

-- ---- one more statement

-- one more size, where the next statement is one for the next sort
record MoreSizes (entries : List SortEntry) (given : List ℕ) (s : List Plain) : Type 0 where
  size : ℕ
  first : AreFirstSizes entries (given ++ size ∷ [])
  statements_are : map plains (text.domain_statements (sort_names entries) (given ++ size ∷ [])) ≡ map plains (text.domain_statements (sort_names entries) given) ++ s ∷ []

domains_empty : (entries : List SortEntry) → text.domain_statements (sort_names entries) [] ≡ []
domains_empty [] = refl
domains_empty (entry ∷ entries) = refl

more_sizes : (entries : List SortEntry) (given : List ℕ) (s : List Plain) → AreFirstSizes entries given → IsNextDomain entries given s → MoreSizes entries given s
more_sizes [] given s first next = absurd next
more_sizes (entry ∷ entries) [] s first next = record {
  size = next.0;
  first = (next.1, tt);
  statements_are = ap (λ (rest : List (List Mark)). plains (text.domain_statement entry.name next.0) ∷ map plains rest) (domains_empty entries) ∙ ap (λ (z : List Plain). z ∷ []) (sym next.2);
}
more_sizes (entry ∷ entries) (n ∷ given) s first next =
    let more = more_sizes entries given s first.1 next in
    record {
      size = more.size;
      first = (first.0, more.first);
      statements_are = ap (λ (rest : List (List Plain)). plains (text.domain_statement entry.name n) ∷ rest) more.statements_are;
    }

-- one more table, where the next statement is one for the next label
record MoreTables (labels : List Label) (shapes : List Shape) (given : List Table) (s : List Plain) : Type 0 where
  table : Table
  first : AreFirst shapes (given ++ table ∷ [])
  statements_are : map plains (text.table_statements labels (given ++ table ∷ [])) ≡ map plains (text.table_statements labels given) ++ s ∷ []

tables_empty : (labels : List Label) → text.table_statements labels [] ≡ []
tables_empty [] = refl
tables_empty (label ∷ labels) = refl

more_tables : (labels : List Label) (shapes : List Shape) (given : List Table) (s : List Plain) → AreFirst shapes given → IsNextTable labels shapes given s → MoreTables labels shapes given s
more_tables [] shapes given s first next = absurd next
more_tables (label ∷ labels) [] given s first next = absurd next
more_tables (label ∷ labels) (shape ∷ shapes) [] s first next = record {
  table = next.0;
  first = (next.1, tt);
  statements_are = ap (λ (rest : List (List Mark)). plains (text.table_statement label next.0) ∷ map plains rest) (tables_empty labels) ∙ ap (λ (z : List Plain). z ∷ []) (sym next.2);
}
more_tables (label ∷ labels) (shape ∷ shapes) (table ∷ given) s first next =
    let more = more_tables labels shapes given s first.1 next in
    record {
      table = more.table;
      first = (first.0, more.first);
      statements_are = ap (λ (rest : List (List Plain)). plains (text.table_statement label table) ∷ rest) more.statements_are;
    }

-- ---- what is read whole

all_sizes : (entries : List SortEntry) (given : List ℕ) → AreFirstSizes entries given → length entries ≤ length given → AreSizes entries given
all_sizes [] [] h k = tt
all_sizes [] (n ∷ given) h k = absurd h
all_sizes (entry ∷ entries) [] h k = absurd (omega arith)
all_sizes (entry ∷ entries) (n ∷ given) h k = (h.0, all_sizes entries given h.1 (omega arith))

all_tables : (shapes : List Shape) (given : List Table) → AreFirst shapes given → length shapes ≤ length given → AreTables shapes given
all_tables [] [] h k = tt
all_tables [] (table ∷ given) h k = absurd h
all_tables (shape ∷ shapes) [] h k = absurd (omega arith)
all_tables (shape ∷ shapes) (table ∷ given) h k = (h.0, all_tables shapes given h.1 (omega arith))

-- ---- the tables, behind a head within the limits

module _ (sig : Signature) (ts : List Plain) (in_range : HasSortsInRange sig) (n w : ℕ) (sizes : List ℕ) (actual : w < n) (are : AreSizes sig.sorts sizes) (few : AreFew sig n sizes) where
  abbrev labels : List Label
  labels = text.labels_of sig

  abbrev shapes : List Shape
  shapes = kripke_shapes sig n sizes

  as_many : length labels ≡ length shapes
  as_many =
      let c = complete_tables shapes [] [] (all_room sig n sizes in_range are) tt in
      let m = structure_of sig n w sizes c.tables actual are c.are in
      omega (arith, tables_are sig m.K m.over, ap length m.tables_are, tables_count shapes c.tables c.are)

  -- a head of the tokens is that of this structure
  head_is_few : (rest : List (List Plain)) → statements ts ≡ map plains (text.head_marks sig n w sizes) ++ rest → (worlds : ℕ) (others : List ℕ) → HasHead sig ts worlds others → AreFew sig worlds others
  head_is_few rest begins worlds others head =
      let c = complete_tables shapes [] [] (all_room sig n sizes in_range are) tt in
      let m = structure_of sig n w sizes c.tables actual are c.are in
      let heads : text.head_marks sig m.K.worlds m.K.actual m.K.sizes ≡ text.head_marks sig n w sizes = λ i. text.head_marks sig (m.worlds i) (m.actual i) (m.sizes_are i) in
      let own : HasHead sig ts n sizes = record { K = m.K; over = m.over; worlds_are = m.worlds; sizes_are = m.sizes_are; rest = rest; begins = begins ∙ ap (λ (ms : List (List Mark)). map plains ms ++ rest) (sym heads) } in
      let same = same_heads sig ts n worlds sizes others own head in
      subst (λ (ns : List ℕ). AreFew sig worlds ns) same.1 (subst (λ (k : ℕ). AreFew sig k sizes) same.0 few)

  so_far : (given : List Table) (rest : List (List Plain)) → read_so_far sig n w sizes given ++ rest ≡ map plains (text.head_marks sig n w sizes) ++ (map plains (text.table_statements labels given) ++ rest)
  so_far given rest =
      ap (λ (r : List (List Plain)). r ++ rest) (map-append plains (text.head_marks sig n w sizes) (text.table_statements labels given))
      ∙ append_assoc (map plains (text.head_marks sig n w sizes)) (map plains (text.table_statements labels given)) rest

  refused_here : (given : List Table) (ss : List (List Plain)) → AreFirst shapes given → statements ts ≡ read_so_far sig n w sizes given ++ ss → IsMissing sig given ss → NextIsNot (IsNextTable labels shapes given) ss → TextOrRefusal sig ts
  refused_here given ss first e missing next =
      inr (Form (suc (length (read_so_far sig n w sizes given))), (fault_table sig ts n w sizes given ss _ in_range actual are as_many first missing refl e next, λ behind. head_is_few _ (e ∙ so_far given ss)), (λ is. absurd cc))

  whole : (given : List Table) → AreTables shapes given → statements ts ≡ read_so_far sig n w sizes given ++ [] → TextOrRefusal sig ts
  whole given tables e =
      let m = structure_of sig n w sizes given actual are tables in
      let marks : text.marks_of sig m.K ≡ text.head_marks sig n w sizes ++ text.table_statements labels given = λ i. text.head_marks sig (m.worlds i) (m.actual i) (m.sizes_are i) ++ text.table_statements labels (m.tables_are i) in
      inl (record {
        K = m.K;
        over = m.over;
        few = subst (λ (ns : List ℕ). AreFew sig m.K.worlds ns) (sym m.sizes_are) (subst (λ (k : ℕ). AreFew sig k sizes) (sym m.worlds) few);
        tokens_are = sym (joined_back ts) ∙ ap joined (e ∙ append-nil (read_so_far sig n w sizes given) ∙ ap (map plains) (sym marks)) ∙ tokens_joined sig m.K;
      })

  more_is : (given : List Table) (s : List Plain) (ss : List (List Plain)) → (more : MoreTables labels shapes given s) → statements ts ≡ read_so_far sig n w sizes given ++ s ∷ ss → statements ts ≡ read_so_far sig n w sizes (given ++ more.table ∷ []) ++ ss
  more_is given s ss more e =
      e ∙ so_far given (s ∷ ss)
      ∙ ap (λ (r : List (List Plain)). map plains (text.head_marks sig n w sizes) ++ r) (sym (append_assoc (map plains (text.table_statements labels given)) (s ∷ []) ss) ∙ ap (λ (r : List (List Plain)). r ++ ss) (sym more.statements_are))
      ∙ sym (so_far (given ++ more.table ∷ []) ss)

  tables_from : (ss : List (List Plain)) (given : List Table) → AreFirst shapes given → statements ts ≡ read_so_far sig n w sizes given ++ ss → TextOrRefusal sig ts
  tables_from [] given first e = elim (cases_lt (length given) (length labels)) [
    | inl missing ↦ refused_here given [] first e missing tt
    | inr all ↦ whole given (all_tables shapes given first (omega (arith, as_many))) e
  ]
  tables_from (s ∷ ss) given first e = elim (next_table_or_not labels shapes given s) [
    | inl next ↦ (let more = more_tables labels shapes given s first next in tables_from ss (given ++ more.table ∷ []) more.first (more_is given s ss more e))
    | inr never ↦ refused_here given (s ∷ ss) first e tt never
  ]

-- ---- the head, and its limits

module _ (sig : Signature) (ts : List Plain) (in_range : HasSortsInRange sig) where
  form : (k : ℕ) → IsFormFault sig ts k → k ≤ head_length sig → TextOrRefusal sig ts
  form k fault within = inr (Form k, (fault, λ behind. absurd (omega arith)), (λ is. absurd cc))

  limits : (n w : ℕ) (sizes : List ℕ) (rest : List (List Plain)) → w < n → AreSizes sig.sorts sizes → statements ts ≡ map plains (text.head_marks sig n w sizes) ++ rest → TextOrRefusal sig ts
  limits n w sizes rest actual are e =
      let c = complete_tables (kripke_shapes sig n sizes) [] [] (all_room sig n sizes in_range are) tt in
      let m = structure_of sig n w sizes c.tables actual are c.are in
      let heads : text.head_marks sig m.K.worlds m.K.actual m.K.sizes ≡ text.head_marks sig n w sizes = λ i. text.head_marks sig (m.worlds i) (m.actual i) (m.sizes_are i) in
      let head : HasHead sig ts n sizes = record { K = m.K; over = m.over; worlds_are = m.worlds; sizes_are = m.sizes_are; rest = rest; begins = e ∙ ap (λ (ms : List (List Mark)). map plains ms ++ rest) (sym heads) } in
      elim (cases_lt 65535 n) [
        | inl many ↦ inr (TooManyWorlds n, (sizes, head, many), (λ is. absurd cc))
        | inr worlds ↦ elim (cases_lt 4194304 (cells_of (classical_signature_of sig) (n ∷ sizes))) [
          | inl big ↦ inr (TooBig (cells_of (classical_signature_of sig) (n ∷ sizes)), (n, sizes, head, worlds, refl, big), (λ is. absurd cc))
          | inr cells ↦ tables_from sig ts in_range n w sizes actual are (record { few_worlds = worlds; few_cells = cells }) rest [] tt
              (e ∙ ap (λ (ms : List (List Mark)). map plains ms ++ rest) (sym (ap (λ (more : List (List Mark)). text.head_marks sig n w sizes ++ more) (tables_empty (text.labels_of sig)) ∙ append-nil (text.head_marks sig n w sizes))))
        ]
      ]

  more_domains : (n w : ℕ) (given : List ℕ) (s : List Plain) (ss : List (List Plain)) → (more : MoreSizes sig.sorts given s) → statements ts ≡ map plains (text.head_marks sig n w given) ++ s ∷ ss → statements ts ≡ map plains (text.head_marks sig n w (given ++ more.size ∷ [])) ++ ss
  more_domains n w given s ss more e =
      e
      ∙ sym (append_assoc (map plains (text.head_marks sig n w given)) (s ∷ []) ss)
      ∙ ap (λ (r : List (List Plain)). (plains (text.worlds_statement n) ∷ plains (text.local_statement w) ∷ r) ++ ss) (sym more.statements_are)

  domain_fault : (n w : ℕ) (given : List ℕ) (ss : List (List Plain)) → w < n → AreFirstSizes sig.sorts given → length given < length sig.sorts → statements ts ≡ map plains (text.head_marks sig n w given) ++ ss → NextIsNot (IsNextDomain sig.sorts given) ss → TextOrRefusal sig ts
  domain_fault n w given ss actual first less e next = form (3 + length given) (fault_domain sig ts n w given ss in_range actual first less e next) (omega arith)

  domains_from : (ss : List (List Plain)) (n w : ℕ) (given : List ℕ) → w < n → AreFirstSizes sig.sorts given → statements ts ≡ map plains (text.head_marks sig n w given) ++ ss → TextOrRefusal sig ts
  domains_from [] n w given actual first e = elim (cases_lt (length given) (length sig.sorts)) [
    | inl less ↦ domain_fault n w given [] actual first less e tt
    | inr all ↦ limits n w given [] actual (all_sizes sig.sorts given first all) e
  ]
  domains_from (s ∷ ss) n w given actual first e = elim (cases_lt (length given) (length sig.sorts)) [
    | inl less ↦ elim (domain_or_not sig.sorts given s) [
      | inl next ↦ (let more = more_sizes sig.sorts given s first next in domains_from ss n w (given ++ more.size ∷ []) actual more.first (more_domains n w given s ss more e))
      | inr never ↦ domain_fault n w given (s ∷ ss) actual first less e never
    ]
    | inr all ↦ limits n w given (s ∷ ss) actual (all_sizes sig.sorts given first all) e
  ]

  behind_worlds : (n : ℕ) (ss : List (List Plain)) → 0 < n → statements ts ≡ plains (text.worlds_statement n) ∷ ss → TextOrRefusal sig ts
  behind_worlds n [] some e = form 2 (fault_local sig ts n [] in_range some e tt) (omega arith)
  behind_worlds n (s ∷ ss) some e = elim (local_or_not n s) [
    | inl next ↦ domains_from ss n next.0 [] next.1 tt
        (e ∙ ap (λ (z : List Plain). plains (text.worlds_statement n) ∷ z ∷ ss) next.2
        ∙ ap (λ (ds : List (List Mark)). plains (text.worlds_statement n) ∷ plains (text.local_statement next.0) ∷ (map plains ds ++ ss)) (sym (domains_empty sig.sorts)))
    | inr never ↦ form 2 (fault_local sig ts n (s ∷ ss) in_range some e never) (omega arith)
  ]

  from_statements : (ss : List (List Plain)) → statements ts ≡ ss → TextOrRefusal sig ts
  from_statements [] e = form 1 (fault_worlds sig ts [] in_range e tt) (omega arith)
  from_statements (s ∷ ss) e = elim (worlds_or_not s) [
    | inl next ↦ behind_worlds next.0 ss next.1 (e ∙ ap (λ (z : List Plain). z ∷ ss) next.2)
    | inr never ↦ form 1 (fault_worlds sig ts (s ∷ ss) in_range e never) (omega arith)
  ]

  pub text_or_refusal : TextOrRefusal sig ts
  text_or_refusal = from_statements (statements ts) refl
