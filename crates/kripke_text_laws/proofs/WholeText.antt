-- The whole text lexes to its tokens.
use Rattle.std.proofs.Common.{◌≡◌, ℕ, zero, suc, Bool, true, false, cond, ◌&&◌, List, [], ◌∷◌, ◌++◌, map, Option, None, Some, refl, sym, ap, subst, ◌∙◌, append_assoc, arith}
use Rattle.std.specs.Prelude.{codes, flat_map, nat_lt}
use Rattle.std.specs.List.{list_all}
use Rattle.std.specs.Option.{option_map}
use Rattle.std.proofs.lemmas.Bool.{and_parts, and_from}
use Rattle.std.proofs.lemmas.Bool.Decides.{nat_tests}
use Rattle.std.proofs.lemmas.Grind.{flat_map-append}
use Rattle.tptp_lex.specs.declared.token.Kind.TheVariants as kind
use Rattle.tptp_lex.specs.declared.token.Lexeme.TheVariants as lexeme
use Rattle.tptp_lex.specs.Front.{front, punctuation_len}
use Rattle.tptp_lex.specs.Texts.{token_text}
use Rattle.nxf_base.specs.Bytes.{is_word_byte}
use Rattle.tptp_lex.specs.Lexing.{Lexes}
use Rattle.tptp_lex.proofs.CallerLemmas.{spelled_longest, stops}
use Rattle.nxf_tree.specs.declared.tree.Signature.{Signature}
use Rattle.nxf_tree.specs.declared.tree.SortEntry.{SortEntry}
use Rattle.nxf_tree.specs.declared.tree.SymbolEntry.{SymbolEntry}
use Rattle.nxf_tree.specs.declared.tree.IndexEntry.{IndexEntry}
use Rattle.nxf_tree.specs.declared.tree.IndexName.{IndexName}
use Rattle.nxf_tree.specs.declared.tree.IndexName.TheVariants as index
use Rattle.nxf_tree.specs.declared.tree.SortName.{SortName}
use Rattle.nxf_tree.specs.declared.tree.SortName.TheVariants as sort
use Rattle.nxf_tree.specs.Signature.{constant_regime, existence_sorts, sort_at, sort_names, symbol_names, index_names}
use Rattle.nxf_tree.specs.WellFormed.{IsWellFormed, is_name, is_sort_name, is_index_name}
use Rattle.nxf_tree.specs.Rows.{Table, numbers_below}
use Rattle.nxf_tree.specs.Structures.{tables_with}
use Rattle.plain_tokens.specs.PlainTokens.{Plain, plains_of}
use Rattle.plain_tokens.specs.Marks.{Mark, Sign, Dollar, Variable, Blank, mark_text, mark_plains, spelled, plains}
use Rattle.kripke_text_definitions.specs.KripkeText as text
use Rattle.kripke_text_definitions.specs.KripkeText.{Label, Access, Exists, Symbol}
use Rattle.kripke_text_laws.specs.KripkeTextLaws.{LexLaw}
use Rattle.nxf_base.specs.Bytes.{is_printable_byte, is_printable_text}
use Rattle.printed_text_laws.proofs.Spellings.{dollar_found, variable_found}
use Rattle.plain_tokens.proofs.MarksLexed.{Found, AllFound, both_found, marks_lex, blank, open_sign, close_sign, all_sign, name}
use Rattle.kripke_text_laws.proofs.TextLexes.{SortOk, SortsOk, GivesOk, IndexOk, LabelOk, world_found, element_found, equals_found, statement_found, table_found}

-- ---- the head

colon_sign : (r : List ℕ) → Found (Sign (codes ":")) r
unfolding front punctuation_len token_text
colon_sign r = record { lexeme = lexeme.Token kind.Punct; longest = spelled_longest (lexeme.Token kind.Punct) (58 ∷ []) r refl; is = refl }

right_sign : (r : List ℕ) → Found (Sign (codes "]")) r
unfolding front punctuation_len token_text
right_sign r = record { lexeme = lexeme.Token kind.Punct; longest = spelled_longest (lexeme.Token kind.Punct) (93 ∷ []) r refl; is = refl }

bar_sign : (r : List ℕ) → Found (Sign (codes "|")) r
unfolding front punctuation_len token_text
bar_sign r = record { lexeme = lexeme.Token kind.Punct; longest = spelled_longest (lexeme.Token kind.Punct) (124 ∷ []) r refl; is = refl }

-- a variable, and a bracket before it
pub record VariableOk (v : List ℕ) : Type 0 where
  pub bracket : (r : List ℕ) → Found (Sign (codes "[")) (v ++ r)
  pub found : (r : List ℕ) → stops is_word_byte r → Found (Variable v) r

w_variable : VariableOk (codes "W")
unfolding front punctuation_len token_text
w_variable = record {
  bracket = λ r. record { lexeme = lexeme.Token kind.Punct; longest = spelled_longest (lexeme.Token kind.Punct) (91 ∷ []) (87 ∷ r) refl; is = refl };
  found = λ r stop. record { lexeme = lexeme.Token kind.Upper; longest = spelled_longest (lexeme.Token kind.Upper) (codes "W") r (variable_found (codes "W") r refl stop); is = refl };
}

x_variable : VariableOk (codes "X")
unfolding front punctuation_len token_text
x_variable = record {
  bracket = λ r. record { lexeme = lexeme.Token kind.Punct; longest = spelled_longest (lexeme.Token kind.Punct) (91 ∷ []) (88 ∷ r) refl; is = refl };
  found = λ r stop. record { lexeme = lexeme.Token kind.Upper; longest = spelled_longest (lexeme.Token kind.Upper) (codes "X") r (variable_found (codes "X") r refl stop); is = refl };
}

world_sort : (r : List ℕ) → stops is_word_byte r → Found (Dollar (codes "$world")) r
unfolding token_text
world_sort r stop = record { lexeme = lexeme.Token kind.Dollar; longest = spelled_longest (lexeme.Token kind.Dollar) (codes "$world") r (dollar_found 119 (codes "orld") r refl refl stop); is = refl }

individual_sort : (r : List ℕ) → stops is_word_byte r → Found (Dollar (codes "$i")) r
unfolding token_text
individual_sort r stop = record { lexeme = lexeme.Token kind.Dollar; longest = spelled_longest (lexeme.Token kind.Dollar) (codes "$i") r (dollar_found 105 [] r refl refl stop); is = refl }

local_word : (r : List ℕ) → stops is_word_byte r → Found (Dollar (codes "$local_world")) r
unfolding token_text
local_word r stop = record { lexeme = lexeme.Token kind.Dollar; longest = spelled_longest (lexeme.Token kind.Dollar) (codes "$local_world") r (dollar_found 108 (codes "ocal_world") r refl refl stop); is = refl }

sort_found : (s : SortName) (r : List ℕ) → SortOk s → stops is_word_byte r → Found (text.sort_mark s) r
sort_found sort.Individual r h stop = individual_sort r stop
sort_found (sort.User s) r h stop = name s r h stop

member_found : (v : List ℕ) (object : ℕ → Mark) (n : ℕ) (r : List ℕ) → VariableOk v → ((k : ℕ) (s : List ℕ) → Found (object k) s) → AllFound (text.member v object n) r
member_found v object n r h k = (h.found _ refl, both_found text.equals (object n ∷ []) r (equals_found _) (k n r, tt))

later_members : (v : List ℕ) (object : ℕ → Mark) (ns r : List ℕ) → VariableOk v → ((k : ℕ) (s : List ℕ) → Found (object k) s) → AllFound (text.later text.or_sign (map (text.member v object) ns)) r
later_members v object [] r h k = tt
later_members v object (n ∷ ns) r h k =
    (blank _, (bar_sign _, (blank _, both_found (text.member v object n) (text.later text.or_sign (map (text.member v object) ns)) r (member_found v object n _ h k) (later_members v object ns r h k))))

members_found : (v : List ℕ) (object : ℕ → Mark) (ns r : List ℕ) → VariableOk v → ((k : ℕ) (s : List ℕ) → Found (object k) s) → AllFound (text.between text.or_sign (map (text.member v object) ns)) r
members_found v object [] r h k = tt
members_found v object (n ∷ ns) r h k =
    both_found (text.member v object n) (text.later text.or_sign (map (text.member v object) ns)) r (member_found v object n _ h k) (later_members v object ns r h k)

all_of_found : (v : List ℕ) (s : Mark) (object : ℕ → Mark) (n : ℕ) (r : List ℕ) → VariableOk v → ((q : List ℕ) → stops is_word_byte q → Found s q) → ((k : ℕ) (q : List ℕ) → Found (object k) q) → AllFound (text.all_of v s object n) r
all_of_found v s object n r h is k =
    let body = text.between text.or_sign (map (text.member v object) (numbers_below n)) in
    let behind : List Mark = Sign (codes ":") ∷ Blank ∷ s ∷ Sign (codes "]") ∷ Blank ∷ Sign (codes ":") ∷ Blank ∷ Sign (codes "(") ∷ Blank ∷ (body ++ (Blank ∷ Sign (codes ")") ∷ [])) in
    let opens = subst (λ (t : List ℕ). Found (Sign (codes "[")) t) (sym (append_assoc v (spelled behind) r)) (h.bracket (spelled behind ++ r)) in (
      all_sign _,
      (
        blank _,
        (
          opens,
          (
            h.found _ refl,
            (
              colon_sign _,
              (
                blank _,
                (
                  is _ refl,
                  (
                    right_sign _,
                    (
                      blank _,
                      (
                        colon_sign _,
                        (
                          blank _,
                          (
                            open_sign _,
                            (
                              blank _,
                              both_found body (Blank ∷ Sign (codes ")") ∷ []) r (members_found v object (numbers_below n) _ h k) (blank _, (close_sign r, tt)),
                            ),
                          ),
                        ),
                      ),
                    ),
                  ),
                ),
              ),
            ),
          ),
        ),
      ),
    )

-- ---- all statements

abbrev pub EachFound : List (List Mark) → Type 0
EachFound [] = Unit {0}
EachFound (s ∷ ss) = ((r : List ℕ) → AllFound s r) × EachFound ss

each_append : (ss ts : List (List Mark)) → EachFound ss → EachFound ts → EachFound (ss ++ ts)
each_append [] ts h k = k
each_append (s ∷ ss) ts h k = (h.0, each_append ss ts h.1 k)

abbrev all_marks : List (List Mark) → List Mark
all_marks [] = []
all_marks (s ∷ ss) = s ++ all_marks ss

each_found : (ss : List (List Mark)) → EachFound ss → AllFound (all_marks ss) []
each_found [] h = tt
each_found (s ∷ ss) h = both_found s (all_marks ss) [] (h.0 _) (each_found ss h.1)

spelled_all : (ss : List (List Mark)) → spelled (all_marks ss) ≡ flat_map spelled ss
spelled_all [] = refl
spelled_all (s ∷ ss) = flat_map-append mark_text s (all_marks ss) ∙ ap (λ (r : List ℕ). spelled s ++ r) (spelled_all ss)

plains_all : (ss : List (List Mark)) → plains (all_marks ss) ≡ flat_map plains ss
plains_all [] = refl
plains_all (s ∷ ss) = flat_map-append mark_plains s (all_marks ss) ∙ ap (λ (r : List Plain). plains s ++ r) (plains_all ss)

domains_found : (ss : List SortName) (sizes : List ℕ) → SortsOk ss → EachFound (text.domain_statements ss sizes)
domains_found [] sizes h = tt
domains_found (s ∷ ss) [] h = tt
domains_found (s ∷ ss) (n ∷ sizes) h =
    ((λ r. statement_found (codes "domain") (text.all_of (codes "X") (text.sort_mark s) (text.element s) n) r refl (λ q stop. all_of_found (codes "X") (text.sort_mark s) (text.element s) n q x_variable (λ p stops. sort_found s p h.0 stops) (λ k p. element_found s k p h.0))), domains_found ss sizes h.1)

head_found : (sig : Signature) (n w : ℕ) (sizes : List ℕ) → SortsOk (sort_names sig.sorts) → EachFound (text.head_marks sig n w sizes)
head_found sig n w sizes h = (
  (λ r. statement_found (codes "worlds") (text.all_of (codes "W") (Dollar (codes "$world")) text.world n) r refl (λ q stop. all_of_found (codes "W") (Dollar (codes "$world")) text.world n q w_variable world_sort world_found)),
  (
    (λ r. statement_found (codes "local") (Dollar (codes "$local_world") ∷ (text.equals ++ text.world w ∷ [])) r refl (λ q stop. (local_word _ refl, both_found text.equals (text.world w ∷ []) q (equals_found _) (world_found w q, tt)))),
    domains_found (sort_names sig.sorts) sizes h,
  ),
)

abbrev pub LabelsOk : List Label → Type 0
LabelsOk [] = Unit {0}
LabelsOk (l ∷ ls) = LabelOk l × LabelsOk ls

tables_found : (labels : List Label) (tables : List Table) → LabelsOk labels → EachFound (text.table_statements labels tables)
tables_found [] tables h = tt
tables_found (l ∷ labels) [] h = tt
tables_found (l ∷ labels) (t ∷ tables) h = ((λ r. table_found l t r h.0), tables_found labels tables h.1)

-- ---- names of a well-formed signature

byte_ok : (b : ℕ) → (nat_lt 31 b && nat_lt b 127) ≡ true → is_printable_byte b ≡ true
byte_ok b h = grind (arith, nat_tests)

bytes_ok : (bs : List ℕ) → list_all (λ c. nat_lt 31 c && nat_lt c 127) bs ≡ true → list_all is_printable_byte bs ≡ true
bytes_ok [] h = refl
bytes_ok (b ∷ bs) h =
    let t = and_parts (nat_lt 31 b && nat_lt b 127) (list_all (λ c. nat_lt 31 c && nat_lt c 127) bs) h in
    and_from (is_printable_byte b) (list_all is_printable_byte bs) (byte_ok b t.0) (bytes_ok bs t.1)

name_ok : (a : List ℕ) → is_name a ≡ true → is_printable_text a ≡ true
name_ok [] h = absurd cc
name_ok (b ∷ bs) h = bytes_ok (b ∷ bs) h

sort_ok : (s : SortName) → is_sort_name s ≡ true → SortOk s
sort_ok sort.Individual h = tt
sort_ok (sort.User s) h = name_ok s h

sorts_ok : (ss : List SortName) → list_all is_sort_name ss ≡ true → SortsOk ss
sorts_ok [] h = tt
sorts_ok (s ∷ ss) h = let t = and_parts (is_sort_name s) (list_all is_sort_name ss) h in (sort_ok s t.0, sorts_ok ss t.1)

sort_at_ok : (sorts : List SortEntry) (k : ℕ) → SortsOk (sort_names sorts) → SortOk (sort_at sorts k)
sort_at_ok [] k h = tt
sort_at_ok (e ∷ sorts) zero h = h.0
sort_at_ok (e ∷ sorts) (suc k) h = sort_at_ok sorts k h.1

args_ok : (sorts : List SortEntry) (args : List ℕ) → SortsOk (sort_names sorts) → SortsOk (map (sort_at sorts) args)
args_ok sorts [] h = tt
args_ok sorts (a ∷ args) h = (sort_at_ok sorts a h, args_ok sorts args h)

gives_ok : (sorts : List SortEntry) (gives : Option ℕ) → SortsOk (sort_names sorts) → GivesOk (option_map (sort_at sorts) gives)
gives_ok sorts None h = tt
gives_ok sorts (Some k) h = sort_at_ok sorts k h

symbols_ok : (sorts : List SortEntry) (entries : List SymbolEntry) → SortsOk (sort_names sorts) → list_all is_name (symbol_names entries) ≡ true → LabelsOk (map (text.symbol_label sorts) entries)
symbols_ok sorts [] h k = tt
symbols_ok sorts (e ∷ entries) h k =
    let t = and_parts (is_name e.name) (list_all is_name (symbol_names entries)) k in
    ((name_ok e.name t.0, args_ok sorts e.args h, gives_ok sorts e.gives h), symbols_ok sorts entries h t.1)

exists_by : (e : SortEntry) (entries : List SortEntry) (t : Bool) → SortOk e.name → LabelsOk (map Exists (existence_sorts entries)) → LabelsOk (map Exists (cond t (existence_sorts entries) (e.name ∷ existence_sorts entries)))
exists_by e entries true h k = k
exists_by e entries false h k = (h, k)

exists_ok : (entries : List SortEntry) → SortsOk (sort_names entries) → LabelsOk (map Exists (existence_sorts entries))
exists_ok [] h = tt
exists_ok (e ∷ entries) h = exists_by e entries (constant_regime e.regime) h.0 (exists_ok entries h.1)

index_ok : (i : IndexName) → is_index_name i ≡ true → IndexOk i
index_ok index.Plain h = tt
index_ok (index.Named a) h = name_ok a h

indexes_ok : (entries : List IndexEntry) → list_all is_index_name (index_names entries) ≡ true → LabelsOk (map (λ (entry : IndexEntry). Access entry.name) entries)
indexes_ok [] h = tt
indexes_ok (e ∷ entries) h = let t = and_parts (is_index_name e.name) (list_all is_index_name (index_names entries)) h in (index_ok e.name t.0, indexes_ok entries t.1)

labels_append : (ls ms : List Label) → LabelsOk ls → LabelsOk ms → LabelsOk (ls ++ ms)
labels_append [] ms h k = k
labels_append (l ∷ ls) ms h k = (h.0, labels_append ls ms h.1 k)

labels_ok : (sig : Signature) → IsWellFormed sig → LabelsOk (text.labels_of sig)
labels_ok sig wf =
    let s = sorts_ok (sort_names sig.sorts) wf.sort_texts in
    labels_append (map (λ (entry : IndexEntry). Access entry.name) sig.indexes) _ (indexes_ok sig.indexes wf.index_texts)
    (labels_append (map Exists (existence_sorts sig.sorts)) _ (exists_ok sig.sorts s) (symbols_ok sig.sorts sig.symbols s wf.symbol_texts))

pub lex-law : LexLaw
lex-law sig K wf =
    let ss = text.marks_of sig K in
    let s = sorts_ok (sort_names sig.sorts) wf.sort_texts in
    let all = each_append (text.head_marks sig K.worlds K.actual K.sizes) (text.table_statements (text.labels_of sig) (tables_with K)) (head_found sig K.worlds K.actual K.sizes s) (tables_found (text.labels_of sig) (tables_with K) (labels_ok sig wf)) in
    let t = marks_lex (all_marks ss) (each_found ss all) in
    let e = spelled_all ss in
    (t.0, subst (λ (b : List ℕ). Lexes b t.0) e t.1, ap (λ (b : List ℕ). plains_of b t.0) (sym e) ∙ t.2 ∙ plains_all ss)
