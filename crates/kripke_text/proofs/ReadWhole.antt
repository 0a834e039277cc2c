-- A whole text: its head, the limits and its tables, and what is said where one of these is refused.
use Rattle.std.proofs.Common.{◌≡◌, ℕ, ◌<◌, List, [], ◌∷◌, ◌++◌, map, Result, Ok, Err, sym, ap, ap₂, subst, ◌∙◌, arith}
use Rattle.std.specs.Prelude.{IfOk, IfErr}
use Rattle.std.proofs.lemmas.List.{map-append}
use Rattle.nxf_tree.specs.declared.tree.Signature.{Signature}
use Rattle.nxf_tree.specs.declared.tree.SortEntry.{SortEntry}
use Rattle.nxf_tree.specs.Names.{user_sort}
use Rattle.nxf_tree.specs.Signature.{sort_names}
use Rattle.nxf_tree.specs.ClassicalSignature.{classical_signature_of}
use Rattle.nxf_tree.specs.Rows.{Table, AreSizes, size_at}
use Rattle.nxf_tree.specs.WellFormed.{HasSortsInRange, IsWellFormed}
use Rattle.tptp_lex.specs.declared.token.Token.{Token}
use Rattle.tptp_lex.specs.Lexing.{Lexes}
use Rattle.tptp_lex.proofs.CallerLemmas.{one_lexing}
use Rattle.structure_laws.proofs.KripkeLists.{kripke-law, kripkes-determine}
use Rattle.fin_struct.specs.RowLists.{listed}
use Rattle.fin_struct.specs.KripkeTables.{KripkeTables, IsKripke, IsKripkeFor, blank_kripke, kripke_shapes, kripke_structure, others_of}
use Rattle.fin_struct.proofs.CallerLemmas.{whole-lists}
use Rattle.plain_tokens.specs.PlainTokens.{Plain, plains_of}
use Rattle.plain_tokens.specs.Marks.{Mark, plains}
use Rattle.kripke_text_definitions.specs.declared.error.KripkeTextError.{KripkeTextError}
use Rattle.kripke_text_definitions.specs.declared.error.KripkeTextError.TheVariants.{Form, TooManyWorlds, TooBig, Memory}
use Rattle.kripke_text_definitions.specs.TokenStatements.{statements}
use Rattle.kripke_text_definitions.specs.KripkeText as text
use Rattle.kripke_text_definitions.specs.Reading.{AreFew, Explains, HasHead}
use Rattle.kripke_text_laws.proofs.Complete.{all_room, complete_tables, structure_of}
use Rattle.kripke_text_laws.proofs.Equal.{equal-law}
use Rattle.kripke_text_laws.proofs.Joins.{joined_back}
use Rattle.kripke_text_laws.proofs.Limits.{few_of}
use Rattle.kripke_text_laws.proofs.Refusals.{same_heads, no-refusal}
use Rattle.kripke_text_laws.proofs.Splits.{joined}
use Rattle.kripke_text_laws.proofs.Whole.{tokens_joined}
use Rattle.kripke_text_laws.proofs.WholeText.{lex-law}
use Rattle.kripke_text.specs.Texts.{GivesOnly, IsPrintOf, IsTextOf}
use Rattle.kripke_text.specs.steps.Reading.{AreBlank, HeadRefuses, IsHead, LimitRefuses, TablesRefuse}
use Rattle.kripke_text.proofs.ReadTexts.{blank_tables}

-- ---- sizes

sizes_named : (entries : List SortEntry) (sizes : List ℕ) → AreSizes entries sizes → AreSizes (map user_sort (sort_names entries)) sizes
sizes_named [] [] h = tt
sizes_named [] (n ∷ sizes) h = absurd h
sizes_named (e ∷ entries) [] h = absurd h
sizes_named (e ∷ entries) (n ∷ sizes) h = (h.0, sizes_named entries sizes h.1)

pub classical_sizes : (sig : Signature) (sizes : List ℕ) (actual : ℕ) → sizes ≡ size_at sizes 0 ∷ others_of sizes → actual < size_at sizes 0 → AreSizes sig.sorts (others_of sizes) → AreSizes (classical_signature_of sig).sorts sizes
classical_sizes sig sizes actual e h are = subst (λ (ns : List ℕ). AreSizes (classical_signature_of sig).sorts ns) (sym e) (some_world, sizes_named sig.sorts (others_of sizes) are)
  where
    some_world : 0 < size_at sizes 0
    some_world = omega arith

-- ---- the head

-- a head is that of some structure
has_head : (sig : Signature) (tokens : List Plain) (n w : ℕ) (sizes : List ℕ) (rest : List (List Plain)) → HasSortsInRange sig → IsHead sig n w sizes (statements tokens) rest → HasHead sig tokens n sizes
has_head sig tokens n w sizes rest wf h =
    let c = complete_tables (kripke_shapes sig n sizes) [] [] (all_room sig n sizes wf h.sizes_are) tt in
    let m = structure_of sig n w sizes c.tables h.actual_in h.sizes_are c.are in
    let heads : text.head_marks sig m.K.worlds m.K.actual m.K.sizes ≡ text.head_marks sig n w sizes = λ i. text.head_marks sig (m.worlds i) (m.actual i) (m.sizes_are i) in
    record {
      K = m.K;
      over = m.over;
      worlds_are = m.worlds;
      sizes_are = m.sizes_are;
      rest = rest;
      begins = h.taken ∙ ap (λ (ms : List (List Mark)). map plains ms ++ rest) (sym heads);
    }

-- the head as it was read
pub head_of : (sig : Signature) (n w : ℕ) (sizes : List ℕ) (tokens : List Plain) (ss rest : List (List Plain)) → ss ≡ statements tokens → IsHead sig n w sizes ss rest → IsHead sig n w sizes (statements tokens) rest
head_of sig n w sizes tokens ss rest e h = subst (λ (old : List (List Plain)). IsHead sig n w sizes old rest) e h

-- ---- refusals

pub head_explains : (sig : Signature) (tokens : List Plain) (ss : List (List Plain)) (e : KripkeTextError) → ss ≡ statements tokens → HeadRefuses sig ss e → Explains sig tokens e
head_explains sig tokens ss (Form k) is h = (h.1 tokens (sym is), λ behind worlds sizes head. absurd (omega (arith, h.0, behind)))
head_explains sig tokens ss (TooManyWorlds n) is h = absurd h
head_explains sig tokens ss (TooBig c) is h = absurd h
head_explains sig tokens ss Memory is h = tt

pub limit_explains : (sig : Signature) (tokens : List Plain) (n w : ℕ) (sizes : List ℕ) (rest : List (List Plain)) (e : KripkeTextError) → HasSortsInRange sig → IsHead sig n w sizes (statements tokens) rest → LimitRefuses sig n sizes e → Explains sig tokens e
limit_explains sig tokens n w sizes rest (Form k) wf head h = absurd h
limit_explains sig tokens n w sizes rest (TooManyWorlds m) wf head h =
    (sizes, subst (λ (k : ℕ). HasHead sig tokens k sizes) (sym h.0) (has_head sig tokens n w sizes rest wf head), subst (λ (k : ℕ). 65535 < k) (sym h.0) h.1)
limit_explains sig tokens n w sizes rest (TooBig c) wf head h =
    (n, sizes, has_head sig tokens n w sizes rest wf head, h.1, h.0, subst (λ (k : ℕ). 4194304 < k) (sym h.0) h.2)
limit_explains sig tokens n w sizes rest Memory wf head h = tt

pub tables_explain : (sig : Signature) (tokens : List Plain) (view : KripkeTables) (rest : List (List Plain)) (e : KripkeTextError) → HasSortsInRange sig → IsKripke view → IsKripkeFor sig view → IsHead sig view.worlds view.actual view.sizes (statements tokens) rest → TablesRefuse sig view rest e → Explains sig tokens e
tables_explain sig tokens view rest (Form k) wf is for_sig head h = (
  h.1 tokens head.taken,
  λ behind worlds sizes other.
      let same = same_heads sig tokens view.worlds worlds view.sizes sizes (has_head sig tokens view.worlds view.actual view.sizes rest wf head) other in
      subst (λ (ns : List ℕ). AreFew sig worlds ns) same.1 (subst (λ (n : ℕ). AreFew sig n view.sizes) same.0 (few_of sig view is for_sig)),
)
tables_explain sig tokens view rest (TooManyWorlds n) wf is for_sig head h = absurd h
tables_explain sig tokens view rest (TooBig c) wf is for_sig head h = absurd h
tables_explain sig tokens view rest Memory wf is for_sig head h = tt

-- ---- the structure of the head

-- the head of the structure that was made for it
pub made_head : (sig : Signature) (tokens : List Plain) (n w : ℕ) (sizes : List ℕ) (view : KripkeTables) (rest : List (List Plain)) → view ≡ record (blank_kripke sig n sizes) { actual = w } → IsHead sig n w sizes (statements tokens) rest → IsHead sig view.worlds view.actual view.sizes (statements tokens) rest
made_head sig tokens n w sizes view rest e h = subst (λ (m : KripkeTables). IsHead sig m.worlds m.actual m.sizes (statements tokens) rest) (sym e) h

pub made_blank : (sig : Signature) (n w : ℕ) (sizes : List ℕ) (view : KripkeTables) → view ≡ record (blank_kripke sig n sizes) { actual = w } → AreBlank view.tables
made_blank sig n w sizes view e = subst (λ (m : KripkeTables). AreBlank m.tables) (sym e) (blank_tables (kripke_shapes sig n sizes))

-- ---- the whole text

pub whole_text : (sig : Signature) (tokens : List Plain) (view made : KripkeTables) (rest : List (List Plain)) → IsKripke made → IsHead sig view.worlds view.actual view.sizes (statements tokens) rest → made ≡ record view { tables = made.tables } → rest ≡ map plains (text.table_statements (text.labels_of sig) (map listed made.tables)) → tokens ≡ text.ktokens sig (kripke_structure made)
whole_text sig tokens view made rest is head kept tables =
    let labels = text.labels_of sig in
    let ts = text.table_statements labels (map listed made.tables) in
    let split : statements tokens ≡ text.kstatements sig (kripke_structure made) =
    head.taken
    ∙ ap (λ (ss : List (List Plain)). map plains (text.head_marks sig view.worlds view.actual view.sizes) ++ ss) tables
    ∙ sym (map-append plains (text.head_marks sig view.worlds view.actual view.sizes) ts)
    ∙ ap (λ (m : KripkeTables). map plains (text.head_marks sig m.worlds m.actual m.sizes ++ ts)) (sym kept)
    ∙ ap (λ (us : List Table). map plains (text.head_marks sig made.worlds made.actual made.sizes ++ text.table_statements labels us)) (sym (whole-lists made is)) in
    sym (joined_back tokens) ∙ ap joined split ∙ tokens_joined sig (kripke_structure made)

-- ---- the only structure

pub if_err : {T E : Type 0} → (r : Result T E) (P Q : E → Type 0) → ((e : E) → P e → Q e) → IfErr r P → IfErr r Q
if_err (Ok x) P Q f h = h
if_err (Err e) P Q f h = f e h

pub only_this : (sig : Signature) (tokens : List Plain) (r : Result KripkeTables KripkeTextError) (k : KripkeTables) → IfOk r (λ made. IsTextOf sig made tokens) → IfErr r (Explains sig tokens) → IsTextOf sig k tokens → GivesOnly k r
only_this sig tokens (Ok made) k ok err h =
    kripkes-determine sig made k ok.within h.within ok.over h.over
    (equal-law sig (kripke_structure made) (kripke_structure k) (kripke-law sig made ok.within ok.over) (kripke-law sig k h.within h.over) (sym ok.tokens_are ∙ h.tokens_are))
only_this sig tokens (Err e) k ok err h = no-refusal sig (kripke_structure k) tokens e (kripke-law sig k h.within h.over) h.tokens_are (few_of sig k h.within h.over) err

-- the tokens of a printed text are those of the structure
pub print_is_text : (sig : Signature) (k : KripkeTables) (bytes : List ℕ) (tokens : List Token) → IsWellFormed sig → Lexes bytes tokens → IsPrintOf sig k bytes → IsTextOf sig k (plains_of bytes tokens)
print_is_text sig k bytes tokens wf lexed h =
    let l = lex-law sig (kripke_structure k) wf in
    let same : tokens ≡ l.0 = one_lexing (text.ktext sig (kripke_structure k)) tokens l.0 (subst (λ (b : List ℕ). Lexes b tokens) h.bytes_are lexed) l.1 in
    record { within = h.within; over = h.over; tokens_are = ap₂ plains_of h.bytes_are same ∙ l.2 }
