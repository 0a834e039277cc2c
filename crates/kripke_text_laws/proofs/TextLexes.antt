-- The text of a structure lexes to its tokens.
use Rattle.std.proofs.Common.{◌≡◌, ℕ, true, false, List, [], ◌∷◌, ◌++◌, map, Option, None, Some, refl}
use Rattle.std.specs.Prelude.{codes}
use Rattle.tptp_lex.specs.declared.token.Kind.TheVariants as kind
use Rattle.tptp_lex.specs.declared.token.Lexeme.TheVariants as lexeme
use Rattle.tptp_lex.specs.Front.{front, punctuation_len}
use Rattle.tptp_lex.specs.Texts.{token_text}
use Rattle.nxf_base.specs.Bytes.{is_word_byte}
use Rattle.tptp_lex.proofs.CallerLemmas.{spelled_longest, stops}
use Rattle.nxf_tree.specs.declared.tree.IndexName.{IndexName}
use Rattle.nxf_tree.specs.declared.tree.IndexName.TheVariants as index
use Rattle.nxf_tree.specs.declared.tree.SortName.{SortName}
use Rattle.nxf_tree.specs.declared.tree.SortName.TheVariants as sort
use Rattle.nxf_tree.specs.Names.{numeral}
use Rattle.nxf_tree.specs.Rows.{Table, Rows, Values}
use Rattle.plain_tokens.specs.Marks.{Mark, Sign, Dollar, Name, Line, spelled}
use Rattle.kripke_text_definitions.specs.KripkeText as text
use Rattle.kripke_text_definitions.specs.KripkeText.{Label, Access, Exists, Symbol, access_word, exists_word, world_word, true_word, interpretation_word}
use Rattle.nxf_base.specs.Bytes.{is_printable_text}
use Rattle.printed_text_laws.proofs.Spellings.{dollar_found}
use Rattle.plain_tokens.proofs.MarksLexed.{Found, AllFound, both_found, blank, line, open_sign, close_sign, comma_sign, and_sign, equal_sign, name, object, numbered_print}

-- ---- what names have to be

abbrev pub SortOk : SortName → Type 0
SortOk sort.Individual = Unit {0}
SortOk (sort.User s) = is_printable_text s ≡ true

abbrev pub SortsOk : List SortName → Type 0
SortsOk [] = Unit {0}
SortsOk (s ∷ ss) = SortOk s × SortsOk ss

abbrev pub GivesOk : Option SortName → Type 0
GivesOk None = Unit {0}
GivesOk (Some s) = SortOk s

abbrev pub IndexOk : IndexName → Type 0
IndexOk index.Plain = Unit {0}
IndexOk (index.Named a) = is_printable_text a ≡ true

abbrev pub LabelOk : Label → Type 0
LabelOk (Access i) = IndexOk i
LabelOk (Exists s) = SortOk s
LabelOk (Symbol f t args gives) = (is_printable_text f ≡ true) × SortsOk args × GivesOk gives

-- ---- pieces

pub world_found : (n : ℕ) (r : List ℕ) → Found (text.world n) r
world_found n r = object (codes "w" ++ numeral n) r (numbered_print (codes "w") n refl)

pub element_found : (s : SortName) (n : ℕ) (r : List ℕ) → SortOk s → Found (text.element s n) r
element_found sort.Individual n r h = object (codes "$i" ++ numeral n) r (numbered_print (codes "$i") n refl)
element_found (sort.User s) n r h = object (s ++ numeral n) r (numbered_print s n h)

hash_sign : (r : List ℕ) → Found (Sign (codes "#")) r
unfolding front punctuation_len token_text
hash_sign r = record { lexeme = lexeme.Token kind.Punct; longest = spelled_longest (lexeme.Token kind.Punct) (35 ∷ []) r refl; is = refl }

more_found : (args : List SortName) (row r : List ℕ) → SortsOk args → AllFound (text.more_elements args row) r
more_found [] row r h = tt
more_found (s ∷ ss) [] r h = tt
more_found (s ∷ ss) (x ∷ row) r h = (comma_sign _, (element_found s x _ h.0, more_found ss row r h.1))

elements_found : (args : List SortName) (row r : List ℕ) → SortsOk args → AllFound (text.elements args row) r
elements_found [] row r h = tt
elements_found (s ∷ ss) [] r h = tt
elements_found (s ∷ ss) (x ∷ row) r h = (element_found s x _ h.0, more_found ss row r h.1)

application_found : (f : List ℕ) (args : List SortName) (row r : List ℕ) → is_printable_text f ≡ true → SortsOk args → stops is_word_byte r → AllFound (text.application f args row) r
application_found f args [] r h k stop = (name f r h stop, tt)
application_found f args (x ∷ row) r h k stop =
    (name f _ h refl, (open_sign _, both_found (text.elements args (x ∷ row)) (Sign (codes ")") ∷ []) r (elements_found args (x ∷ row) _ k) (close_sign r, tt)))

pair_found : (s : SortName) (row r : List ℕ) → SortOk s → AllFound (text.pair (text.element s) row) r
pair_found s [] r h = tt
pair_found s (w ∷ []) r h = tt
pair_found s (w ∷ x ∷ row) r h = (world_found w _, (comma_sign _, (element_found s x r h, tt)))

worlds_found : (row r : List ℕ) → AllFound (text.pair text.world row) r
worlds_found [] r = tt
worlds_found (w ∷ []) r = tt
worlds_found (w ∷ x ∷ row) r = (world_found w _, (comma_sign _, (world_found x r, tt)))

access_found : (r : List ℕ) → Found (Dollar access_word) (40 ∷ r)
unfolding access_word token_text
access_found r = record { lexeme = lexeme.Token kind.Dollar; longest = spelled_longest (lexeme.Token kind.Dollar) access_word (40 ∷ r) (dollar_found 97 (codes "ccessible_world") (40 ∷ r) refl refl refl); is = refl }

exists_found : (r : List ℕ) → Found (Dollar exists_word) (40 ∷ r)
unfolding exists_word token_text
exists_found r = record { lexeme = lexeme.Token kind.Dollar; longest = spelled_longest (lexeme.Token kind.Dollar) exists_word (40 ∷ r) (dollar_found 101 (codes "xists_in_world") (40 ∷ r) refl refl refl); is = refl }

at_found : (r : List ℕ) → Found (Dollar world_word) (40 ∷ r)
unfolding world_word token_text
at_found r = record { lexeme = lexeme.Token kind.Dollar; longest = spelled_longest (lexeme.Token kind.Dollar) world_word (40 ∷ r) (dollar_found 105 (codes "n_world") (40 ∷ r) refl refl refl); is = refl }

front_access : (i : IndexName) (r : List ℕ) → IndexOk i → AllFound (text.access_front i) r
front_access index.Plain r h = (access_found r, (open_sign r, tt))
front_access (index.Named a) r h = (access_found _, (open_sign _, (hash_sign _, (name a _ h refl, (comma_sign r, tt)))))

front_at : (f : List ℕ) (args : List SortName) (row r : List ℕ) → is_printable_text f ≡ true → SortsOk args → stops is_word_byte r → AllFound (text.application_at f args row) r
front_at f args [] r h k stop = tt
front_at f args (w ∷ row) r h k stop = (at_found _, (open_sign _, (world_found w _, (comma_sign _, application_found f args row r h k stop))))

pub equals_found : (r : List ℕ) → AllFound text.equals r
equals_found r = (blank _, (equal_sign r, (blank r, tt)))

value_found : (gives : Option SortName) (v : ℕ) (r : List ℕ) → GivesOk gives → AllFound (text.value_of gives v) r
value_found None v r h = tt
value_found (Some s) v r h = both_found text.equals (text.element s v ∷ []) r (equals_found _) (element_found s v r h, tt)

-- a function's literal or a predicate's, whatever word's end follows it
pub literal_found : (label : Label) (row : List ℕ) (v : ℕ) (r : List ℕ) → LabelOk label → stops is_word_byte r → AllFound (text.literal label row v) r
literal_found (Access i) row v r h stop =
    both_found (text.front (Access i) row) (Sign (codes ")") ∷ []) r
    (both_found (text.access_front i) (text.pair text.world row) (41 ∷ r) (front_access i _ h) (worlds_found row (41 ∷ r))) (close_sign r, tt)
literal_found (Exists s) row v r h stop =
    both_found (text.front (Exists s) row) (Sign (codes ")") ∷ []) r (exists_found _, (open_sign _, pair_found s row (41 ∷ r) h)) (close_sign r, tt)
literal_found (Symbol f true args None) row v r h stop =
    both_found (text.application_at f args row) (Sign (codes ")") ∷ []) r (front_at f args row (41 ∷ r) h.0 h.1 refl) (close_sign r, tt)
literal_found (Symbol f true args (Some s)) row v r h stop =
    let value = text.value_of (Some s) v in
    both_found (text.application_at f args row) (value ++ Sign (codes ")") ∷ []) r
    (front_at f args row _ h.0 h.1 refl)
    (both_found value (Sign (codes ")") ∷ []) r (value_found (Some s) v _ h.2) (close_sign r, tt))
literal_found (Symbol f false args None) row v r h stop =
    both_found (text.application f args row) [] r (application_found f args row r h.0 h.1 stop) tt
literal_found (Symbol f false args (Some s)) row v r h stop =
    let value = text.value_of (Some s) v in
    both_found (text.application f args row) (value ++ []) r
    (application_found f args row _ h.0 h.1 refl)
    (both_found value [] r (value_found (Some s) v _ h.2) tt)

-- ---- groups

abbrev pub PartsFound : List (List Mark) → Type 0
PartsFound [] = Unit {0}
PartsFound (p ∷ ps) = ((r : List ℕ) → stops is_word_byte r → AllFound p r) × PartsFound ps

later_stops : (ps : List (List Mark)) (r : List ℕ) → stops is_word_byte r → stops is_word_byte (spelled (text.later text.and_sign ps) ++ r)
later_stops [] r stop = stop
later_stops (p ∷ ps) r stop = refl

later_found : (ps : List (List Mark)) (r : List ℕ) → PartsFound ps → stops is_word_byte r → AllFound (text.later text.and_sign ps) r
later_found [] r h stop = tt
later_found (p ∷ ps) r h stop =
    (blank _, (and_sign _, (blank _, both_found p (text.later text.and_sign ps) r (h.0 _ (later_stops ps r stop)) (later_found ps r h.1 stop))))

truth_found : (r : List ℕ) → stops is_word_byte r → Found (Dollar true_word) r
unfolding true_word token_text
truth_found r stop = record { lexeme = lexeme.Token kind.Dollar; longest = spelled_longest (lexeme.Token kind.Dollar) true_word r (dollar_found 116 (codes "rue") r refl refl stop); is = refl }

pub group_found : (ps : List (List Mark)) (r : List ℕ) → PartsFound ps → stops is_word_byte r → AllFound (text.group ps) r
group_found [] r h stop = (truth_found r stop, tt)
group_found (p ∷ ps) r h stop = both_found p (text.later text.and_sign ps) r (h.0 _ (later_stops ps r stop)) (later_found ps r h.1 stop)

rows_found : (label : Label) (rows : List (List ℕ)) → LabelOk label → PartsFound (map (λ row. text.literal label row 0) rows)
rows_found label [] h = tt
rows_found label (row ∷ rows) h = ((λ r stop. literal_found label row 0 r h stop), rows_found label rows h)

lines_found : (label : Label) (rows : List (List ℕ × ℕ)) → LabelOk label → PartsFound (map (λ q. text.literal label q.0 q.1) rows)
lines_found label [] h = tt
lines_found label (q ∷ rows) h = ((λ r stop. literal_found label q.0 q.1 r h stop), lines_found label rows h)

literals_found : (label : Label) (table : Table) → LabelOk label → PartsFound (text.literals label table)
literals_found label (Rows rows) h = rows_found label rows h
literals_found label (Values rows) h = lines_found label rows h

-- ---- statements

stop_sign : (r : List ℕ) → Found (Sign (codes ".")) r
unfolding front punctuation_len token_text
stop_sign r = record { lexeme = lexeme.Token kind.Punct; longest = spelled_longest (lexeme.Token kind.Punct) (46 ∷ []) r refl; is = refl }

role_found : (r : List ℕ) → Found (Name interpretation_word) (44 ∷ r)
unfolding interpretation_word
role_found r = name interpretation_word (44 ∷ r) refl refl

pub statement_found : (a : List ℕ) (body : List Mark) (r : List ℕ) → is_printable_text a ≡ true → ((s : List ℕ) → stops is_word_byte s → AllFound body s) → AllFound (text.statement a body) r
statement_found a body r h k = (
  name (codes "tff") _ refl refl,
  (
    open_sign _,
    (
      name a _ h refl,
      (
        comma_sign _,
        (
          role_found _,
          (
            comma_sign _,
            both_found body (Sign (codes ")") ∷ Sign (codes ".") ∷ Line ∷ []) r (k _ refl) (close_sign _, (stop_sign _, (line r, tt))),
          ),
        ),
      ),
    ),
  ),
)

label_name_ok : (label : Label) → LabelOk label → is_printable_text (text.label_name label) ≡ true
label_name_ok (Access i) h = refl
label_name_ok (Exists s) h = refl
label_name_ok (Symbol f t args gives) h = h.0

-- the statement of a table is found, whatever follows it
pub table_found : (label : Label) (table : Table) (r : List ℕ) → LabelOk label → AllFound (text.table_statement label table) r
table_found label table r h =
    statement_found (text.label_name label) (text.group (text.literals label table)) r (label_name_ok label h) (λ s stop. group_found (text.literals label table) s (literals_found label table h) stop)
