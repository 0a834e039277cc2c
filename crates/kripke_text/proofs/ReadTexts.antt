-- Reading the statements behind the head, one for each table.
use Rattle.std.proofs.Common.{◌≡◌, ℕ, zero, suc, ◌+◌, ◌<◌, ◌≤◌, ◌≢◌, Bool, true, false, List, [], ◌∷◌, ◌++◌, map, length, take, get_or, Option, None, Some, refl, sym, ap, ap₂, subst, ◌∙◌, append_assoc, append-nil, length-append, arith}
use Rattle.std.specs.Prelude.{is_some, IfSome}
use Rattle.std.specs.Option.{IfNone}
use Rattle.std.proofs.Math.ListN.{set, length-set}
use Rattle.std.proofs.lemmas.List.{map-append, length-map, length-take-le, get_or-map, get_or-replicate, length-replicate, get_or-set_other, take_all, take_more_set}
use Rattle.nxf_tree.specs.declared.tree.Signature.{Signature}
use Rattle.nxf_tree.specs.Rows.{Table, Shape}
use Rattle.nxf_tree.specs.WellFormed.{HasSortsInRange}
use Rattle.fin_struct.specs.Places.{rows_count}
use Rattle.fin_struct.specs.Cells.{CellTable, no_table, table_at}
use Rattle.fin_struct.specs.RowLists.{blank, blanks, listed, shape_of, shapes_of, AreFilled}
use Rattle.fin_struct.specs.KripkeTables.{KripkeTables, IsKripke, IsKripkeFor, kripke_shapes}
use Rattle.fin_struct.proofs.CallerLemmas.{lists-fit}
use Rattle.plain_tokens.specs.PlainTokens.{Plain}
use Rattle.plain_tokens.specs.Marks.{Mark, plains}
use Rattle.kripke_text_definitions.specs.declared.error.KripkeTextError.TheVariants.{Form}
use Rattle.kripke_text_definitions.specs.TokenStatements.{statements}
use Rattle.kripke_text_definitions.specs.KripkeText as text
use Rattle.kripke_text_definitions.specs.KripkeText.{Label}
use Rattle.kripke_text_definitions.specs.Reading.{IsFormFault, head_length}
use Rattle.kripke_text_laws.specs.steps.FirstParts.{AreFirst, IsNextTable, NextIsNot}
use Rattle.kripke_text_laws.proofs.Equal.{domains_long}
use Rattle.kripke_text_laws.proofs.Faults.{IsMissing, read_so_far, fault_table}
use Rattle.kripke_text.specs.declared.subject.Subject.{Subject}
use Rattle.kripke_text.specs.steps.Subjects.{IsIn, label_of, number_of, subjects_of, table_of}
use Rattle.kripke_text.specs.steps.Reading.{AreBlank, IsBlank, IsTableStatement, TakesTable, TablesRefuse}
use Rattle.kripke_text.proofs.Pages.{subject_there, tables_long}
use Rattle.kripke_text.proofs.ReadHeads.{not_next_more}
use Rattle.kripke_text.proofs.ReadTables.{table_same}
use Rattle.kripke_text.proofs.SubjectPlaces.{subjects_stand, stand_length}

-- ---- tables of zeros

zero_cells : (shape : Shape) → IsBlank (blank shape)
zero_cells shape = λ k h. get_or-replicate (rows_count shape.sizes) k 0 0 (omega (arith, length-replicate {A = ℕ} (rows_count shape.sizes) 0))

pub blank_tables : (shapes : List Shape) → AreBlank (blanks shapes)
blank_tables [] t h = absurd (omega arith)
blank_tables (shape ∷ shapes) zero h = zero_cells shape
blank_tables (shape ∷ shapes) (suc t) h = blank_tables shapes t (omega arith)

-- ---- one more table

statements_empty : (labels : List Label) → text.table_statements labels [] ≡ []
statements_empty [] = refl
statements_empty (l ∷ labels) = refl

statements_more : (labels : List Label) (tables : List Table) (k : ℕ) (table : Table) (d : Label) → length tables ≡ k → k < length labels → text.table_statements labels (tables ++ table ∷ []) ≡ text.table_statements labels tables ++ text.table_statement (get_or labels k d) table ∷ []
statements_more [] tables k table d len h = absurd (omega arith)
statements_more (l ∷ labels) [] zero table d len h = ap (λ (r : List (List Mark)). text.table_statement l table ∷ r) (statements_empty labels)
statements_more (l ∷ labels) [] (suc k) table d len h = absurd (omega arith)
statements_more (l ∷ labels) (t ∷ tables) zero table d len h = absurd (omega arith)
statements_more (l ∷ labels) (t ∷ tables) (suc k) table d len h =
    ap (λ (r : List (List Mark)). text.table_statement l t ∷ r) (statements_more labels tables k table d (omega arith) (omega arith))

statements_long : (labels : List Label) (tables : List Table) → length tables ≤ length labels → length (map plains (text.table_statements labels tables)) ≡ length tables
statements_long [] [] h = refl
statements_long [] (t ∷ tables) h = absurd (omega arith)
statements_long (l ∷ labels) [] h = refl
statements_long (l ∷ labels) (t ∷ tables) h = ap suc (statements_long labels tables (omega arith))

-- the next statement is one for the next table
is_table : (labels : List Label) (shapes : List Shape) (given : List Table) (k : ℕ) (d : Label) (e : Shape) (s : List Plain) → length given ≡ k → k < length labels → k < length shapes → IsNextTable labels shapes given s → IsTableStatement (get_or labels k d) (get_or shapes k e) s
is_table [] shapes given k d e s len h i next = absurd (omega arith)
is_table (l ∷ labels) [] given k d e s len h i next = absurd (omega arith)
is_table (l ∷ labels) (c ∷ shapes) [] zero d e s len h i next = next
is_table (l ∷ labels) (c ∷ shapes) [] (suc k) d e s len h i next = absurd (omega arith)
is_table (l ∷ labels) (c ∷ shapes) (t ∷ given) zero d e s len h i next = absurd (omega arith)
is_table (l ∷ labels) (c ∷ shapes) (t ∷ given) (suc k) d e s len h i next = is_table labels shapes given k d e s (omega arith) (omega arith) (omega arith) next

-- none is, where all are given
none_next : (labels : List Label) (shapes : List Shape) (given : List Table) (s : List Plain) → length labels ≤ length given → IsNextTable labels shapes given s → ⊥
none_next [] shapes given s h next = next
none_next (l ∷ labels) [] given s h next = next
none_next (l ∷ labels) (c ∷ shapes) [] s h next = absurd (omega arith)
none_next (l ∷ labels) (c ∷ shapes) (t ∷ given) s h next = none_next labels shapes given s (omega arith) next

are_first : (tables : List CellTable) (k : ℕ) → AreFilled tables → AreFirst (shapes_of tables) (map listed (take k tables))
are_first [] zero filled = tt
are_first [] (suc k) filled = tt
are_first (t ∷ tables) zero filled = tt
are_first (t ∷ tables) (suc k) filled = (lists-fit t (filled 0 (omega arith)), are_first tables k (λ j h. filled (suc j) (omega arith)))

-- ---- the loop

-- the statements of the first k tables are taken, and these tables are written
pub record TablesAt (sig : Signature) (view : KripkeTables) (old now : List (List Plain)) (made : KripkeTables) (k : ℕ) : Type 0 where
  pub at_in : k ≤ length made.tables
  pub kept : made ≡ record view { tables = made.tables }
  pub within : IsKripke made
  pub for_sig : IsKripkeFor sig made
  pub blank : (t : ℕ) → k ≤ t → t < length made.tables → IsBlank (table_at made.tables t)
  pub taken : old ≡ map plains (text.table_statements (text.labels_of sig) (map listed (take k made.tables))) ++ now

pub tables_begin : (sig : Signature) (view : KripkeTables) (old : List (List Plain)) → IsKripke view → IsKripkeFor sig view → AreBlank view.tables → TablesAt sig view old old view 0
tables_begin sig view old is for_sig zeros = record {
  at_in = omega arith;
  kept = refl;
  within = is;
  for_sig = for_sig;
  blank = λ t low h. zeros t h;
  taken = ap (λ (ss : List (List Mark)). map plains ss ++ old) (sym (statements_empty (text.labels_of sig)));
}

-- the table that the loop has come to
pub record TableHere (sig : Signature) (made : KripkeTables) (subject : Subject) (k : ℕ) : Type 0 where
  pub in_labels : k < length (text.labels_of sig)
  pub in_tables : k < length made.tables
  pub label_is : get_or (text.labels_of sig) k (label_of sig subject) ≡ label_of sig subject
  pub number : number_of made subject ≡ k
  pub is_in : IsIn sig subject

pub table_here : (sig : Signature) (made : KripkeTables) (subjects : List Subject) (d : Subject) (k : ℕ) → IsKripke made → IsKripkeFor sig made → subjects ≡ subjects_of sig → k < length subjects → TableHere sig made (get_or subjects k d) k
table_here sig made subjects d k is for_sig are h =
    let at = subject_there sig made subjects k d (label_of sig (get_or subjects k d)) is for_sig are h in
    let long = stand_length sig made 0 (subjects_of sig) (text.labels_of sig) (subjects_stand sig made is for_sig) in
    record {
      in_labels = omega (arith, long, ap length are);
      in_tables = omega (arith, long, ap length are, tables_long sig made is for_sig);
      label_is = sym at.label_is;
      number = at.number;
      is_in = at.is_in;
    }

pub blank_here : (sig : Signature) (view : KripkeTables) (old now : List (List Plain)) (made : KripkeTables) (k : ℕ) (subject : Subject) → TablesAt sig view old now made k → TableHere sig made subject k → IsBlank (table_of made subject)
blank_here sig view old now made k subject at here =
    subst (λ (t : ℕ). IsBlank (table_at made.tables t)) (sym here.number) (at.blank k (omega arith) here.in_tables)

other_blank : (tables : List CellTable) (k t : ℕ) (x : CellTable) → k + 1 ≤ t → IsBlank (table_at tables t) → IsBlank (table_at (set tables k x) t)
other_blank tables k t x h zeros =
    let other : t ≢ k = omega arith in
    subst IsBlank (sym (get_or-set_other tables k t x no_table other)) zeros

pub tables_next : (sig : Signature) (view : KripkeTables) (old now next : List (List Plain)) (made new : KripkeTables) (k : ℕ) (subject : Subject) (read : Bool) → TablesAt sig view old now made k → TableHere sig made subject k → read ≡ true → TakesTable (label_of sig subject) (number_of made subject) now next made new read → IsKripke new → IsKripkeFor sig new → TablesAt sig view old next new (k + 1)
tables_next sig view old now next made new k subject read at here is_read takes within for_sig =
    let label = label_of sig subject in
    let labels = text.labels_of sig in
    let t = subst (λ (j : ℕ). TakesTable label j now next made new true) here.number (subst (λ (b : Bool). TakesTable label (number_of made subject) now next made new b) is_read takes) in
    let x : CellTable = record (table_at made.tables k) { cells = t.0 } in
    let tables : new.tables ≡ set made.tables k x = ap (λ (m : KripkeTables). m.tables) t.1 in
    let there : table_at new.tables k ≡ x = ap (λ (ts : List CellTable). table_at ts k) tables ∙ table_same made.tables k x here.in_tables in
    let grown : take (k + 1) new.tables ≡ take k made.tables ++ x ∷ [] = ap (take (k + 1)) tables ∙ take_more_set made.tables k x here.in_tables in
    let given = map listed (take k made.tables) in
    let long : length given ≡ k = length-map (take k made.tables) listed ∙ length-take-le k made.tables (omega (arith, here.in_tables)) in
    let more : text.table_statements labels (map listed (take (k + 1) new.tables)) ≡ text.table_statements labels given ++ text.table_statement label (listed x) ∷ [] =
    ap (λ (ts : List CellTable). text.table_statements labels (map listed ts)) grown
    ∙ ap (text.table_statements labels) (map-append listed (take k made.tables) (x ∷ []))
    ∙ statements_more labels given k (listed x) label long here.in_labels
    ∙ ap (λ (l : Label). text.table_statements labels given ++ text.table_statement l (listed x) ∷ []) here.label_is in
    record {
      at_in = omega (arith, here.in_tables, ap length tables, length-set made.tables k x);
      kept = t.1 ∙ ap (λ (m : KripkeTables). record m { tables = set made.tables k x }) at.kept ∙ ap (λ (ts : List CellTable). record view { tables = ts }) (sym tables);
      within = within;
      for_sig = for_sig;
      blank = λ j low h.
          let long_too : length new.tables ≡ length made.tables = ap length tables ∙ length-set made.tables k x in
          subst (λ (ts : List CellTable). IsBlank (table_at ts j)) (sym tables) (other_blank made.tables k j x low (at.blank j (omega arith) (omega (arith, long_too))));
      taken =
          at.taken
          ∙ ap (λ (ss : List (List Plain)). map plains (text.table_statements labels given) ++ ss) (t.2 ∙ ap (λ (y : CellTable). plains (text.table_statement label (listed y)) ∷ next) there)
          ∙ sym (append_assoc (map plains (text.table_statements labels given)) (plains (text.table_statement label (listed x)) ∷ []) next)
          ∙ ap (λ (ss : List (List Plain)). ss ++ next) (sym (map-append plains (text.table_statements labels given) (text.table_statement label (listed x) ∷ [])))
          ∙ ap (λ (ss : List (List Mark)). map plains ss ++ next) (sym more);
    }

pub tables_done : (sig : Signature) (view : KripkeTables) (old now : List (List Plain)) (made : KripkeTables) (subjects : List Subject) (k : ℕ) → TablesAt sig view old now made k → subjects ≡ subjects_of sig → length subjects ≤ k → now ≡ [] → old ≡ map plains (text.table_statements (text.labels_of sig) (map listed made.tables))
tables_done sig view old now made subjects k at are past none =
    let long = stand_length sig made 0 (subjects_of sig) (text.labels_of sig) (subjects_stand sig made at.within at.for_sig) in
    let all : take k made.tables ≡ made.tables = take_all k made.tables (omega (arith, long, ap length are, tables_long sig made at.within at.for_sig)) in
    at.taken
    ∙ ap₂ (λ (ts : List CellTable) (ss : List (List Plain)). map plains (text.table_statements (text.labels_of sig) (map listed ts)) ++ ss) all none
    ∙ append-nil (map plains (text.table_statements (text.labels_of sig) (map listed made.tables)))

-- ---- faults

is_missing : (sig : Signature) (given : List Table) (ss : List (List Plain)) → length given < length (text.labels_of sig) → IsMissing sig given ss
is_missing sig given [] h = h
is_missing sig given (s ∷ ss) h = tt

-- what was read so far
so_far : (sig : Signature) (view : KripkeTables) (given : List Table) (tokens : List Plain) (old ss : List (List Plain)) → statements tokens ≡ map plains (text.head_marks sig view.worlds view.actual view.sizes) ++ old → old ≡ map plains (text.table_statements (text.labels_of sig) given) ++ ss → statements tokens ≡ read_so_far sig view.worlds view.actual view.sizes given ++ ss
so_far sig view given tokens old ss split taken =
    let head = text.head_marks sig view.worlds view.actual view.sizes in
    let tables = text.table_statements (text.labels_of sig) given in
    split
    ∙ ap (λ (r : List (List Plain)). map plains head ++ r) taken
    ∙ sym (append_assoc (map plains head) (map plains tables) ss)
    ∙ ap (λ (r : List (List Plain)). r ++ ss) (sym (map-append plains head tables))

far : (sig : Signature) (view : KripkeTables) (given : List Table) → IsKripkeFor sig view → length given ≤ length (text.labels_of sig) → length (read_so_far sig view.worlds view.actual view.sizes given) ≡ head_length sig + length given
far sig view given for_sig h =
    let head = text.head_marks sig view.worlds view.actual view.sizes in
    let tables = text.table_statements (text.labels_of sig) given in
    ap length (map-append plains head tables)
    ∙ length-append (map plains head) (map plains tables)
    ∙ omega (arith, domains_long sig.sorts view.sizes for_sig.sorts, statements_long (text.labels_of sig) given h)

-- the statement behind those of the first k tables is at fault
fault_at : (sig : Signature) (view : KripkeTables) (old ss : List (List Plain)) (made : KripkeTables) (k number : ℕ) → HasSortsInRange sig → IsKripke view → IsKripkeFor sig view → TablesAt sig view old ss made k → IsMissing sig (map listed (take k made.tables)) ss → NextIsNot (IsNextTable (text.labels_of sig) (shapes_of made.tables) (map listed (take k made.tables))) ss → number ≡ length sig.sorts + 3 + k → TablesRefuse sig view old (Form number)
fault_at sig view old ss made k number wf is for_sig at missing not_next number_is =
    let given = map listed (take k made.tables) in
    let labels = text.labels_of sig in
    let worlds : made.worlds ≡ view.worlds = ap (λ (m : KripkeTables). m.worlds) at.kept in
    let sizes : made.sizes ≡ view.sizes = ap (λ (m : KripkeTables). m.sizes) at.kept in
    let shapes : shapes_of made.tables ≡ kripke_shapes sig view.worlds view.sizes = at.for_sig.shapes ∙ ap₂ (kripke_shapes sig) worlds sizes in
    let all = tables_long sig made at.within at.for_sig in
    let long : length given ≡ k = length-map (take k made.tables) listed ∙ length-take-le k made.tables at.at_in in
    let place = far sig view given for_sig (omega (arith, long, all, at.at_in)) in
    let same : suc (length (read_so_far sig view.worlds view.actual view.sizes given)) ≡ number = omega (arith, place, long, number_is) in (
      omega (arith, number_is),
      λ tokens split. subst (IsFormFault sig tokens) same
          (fault_table sig tokens view.worlds view.actual view.sizes given ss (length (read_so_far sig view.worlds view.actual view.sizes given)) wf is.actual_in for_sig.sorts
          (all ∙ sym (length-map made.tables shape_of) ∙ ap length shapes)
          (subst (λ (c : List Shape). AreFirst c given) shapes (are_first made.tables k at.within.filled))
          missing refl (so_far sig view given tokens old ss split at.taken)
          (subst (λ (c : List Shape). NextIsNot (IsNextTable labels c given) ss) shapes not_next)),
    )

pub table_refused : (sig : Signature) (view : KripkeTables) (old now next : List (List Plain)) (made new : KripkeTables) (k number : ℕ) (subject : Subject) (read : Bool) → HasSortsInRange sig → IsKripke view → IsKripkeFor sig view → TablesAt sig view old now made k → TableHere sig made subject k → read ≡ false → TakesTable (label_of sig subject) (number_of made subject) now next made new read → number ≡ length sig.sorts + 3 + k → TablesRefuse sig view old (Form number)
table_refused sig view old now next made new k number subject read wf is for_sig at here is_not takes number_is =
    let label = label_of sig subject in
    let labels = text.labels_of sig in
    let given = map listed (take k made.tables) in
    let long : length given ≡ k = length-map (take k made.tables) listed ∙ length-take-le k made.tables at.at_in in
    let t = subst (λ (j : ℕ). TakesTable label j now next made new false) here.number (subst (λ (b : Bool). TakesTable label (number_of made subject) now next made new b) is_not takes) in
    let shape : get_or (shapes_of made.tables) k (shape_of no_table) ≡ shape_of (table_at made.tables k) = get_or-map shape_of made.tables k no_table (shape_of no_table) here.in_tables in
    fault_at sig view old now made k number wf is for_sig at (is_missing sig given now (omega (arith, long, here.in_labels)))
    (not_next_more (IsTableStatement label (shape_of (table_at made.tables k))) (IsNextTable labels (shapes_of made.tables) given) now (λ s follows.
    subst (λ (c : Shape). IsTableStatement label c s) shape
    (subst (λ (l : Label). IsTableStatement l (get_or (shapes_of made.tables) k (shape_of no_table)) s) here.label_is
    (is_table labels (shapes_of made.tables) given k label (shape_of no_table) s long here.in_labels (omega (arith, here.in_tables, length-map made.tables shape_of)) follows))) t)
    number_is

some_missing : (sig : Signature) (given : List Table) (s : List Plain) (ss rest : List (List Plain)) → ss ≡ s ∷ rest → IsMissing sig given ss
some_missing sig given s ss rest e = subst (IsMissing sig given) (sym e) tt

none_follows : (labels : List Label) (shapes : List Shape) (given : List Table) (ss : List (List Plain)) → length labels ≤ length given → NextIsNot (IsNextTable labels shapes given) ss
none_follows labels shapes given [] h = tt
none_follows labels shapes given (s ∷ ss) h = none_next labels shapes given s h

pub rest_refused : (sig : Signature) (view : KripkeTables) (old now rest : List (List Plain)) (s : List Plain) (made : KripkeTables) (subjects : List Subject) (k number : ℕ) → HasSortsInRange sig → IsKripke view → IsKripkeFor sig view → TablesAt sig view old now made k → subjects ≡ subjects_of sig → length subjects ≤ k → now ≡ s ∷ rest → number ≡ length sig.sorts + 3 + length subjects → TablesRefuse sig view old (Form number)
rest_refused sig view old now rest s made subjects k number wf is for_sig at are past more number_is =
    let given = map listed (take k made.tables) in
    let long : length given ≡ k = length-map (take k made.tables) listed ∙ length-take-le k made.tables at.at_in in
    let stand = stand_length sig made 0 (subjects_of sig) (text.labels_of sig) (subjects_stand sig made at.within at.for_sig) in
    let all = tables_long sig made at.within at.for_sig in
    fault_at sig view old now made k number wf is for_sig at (some_missing sig given s now rest more)
    (none_follows (text.labels_of sig) (shapes_of made.tables) given now (omega (arith, long, stand, ap length are)))
    (omega (arith, number_is, stand, all, at.at_in, ap length are))

-- ---- what is taken

pub some_has : {X : Type 0} → (r : Option X) (Q : X → Type 0) → is_some r ≡ true → IfSome r Q → (x : X) × Q x
some_has None Q e h = absurd cc
some_has (Some x) Q e h = (x, h)

pub none_has : {X : Type 0} → (r : Option X) (Q : Type 0) → is_some r ≡ false → IfNone r Q → Q
none_has None Q e h = h
none_has (Some x) Q e h = absurd cc
