-- The text of a Kripke structure: a statement for the worlds, the actual world, the elements of each sort, and each table.
use Rattle.std.specs.Prelude.{ℕ, Bool, true, false, List, [], ◌∷◌, ◌++◌, map, flat_map, codes, Option, None, Some}
use Rattle.std.specs.Option.{option_map}
use Rattle.nxf_tree.specs.declared.tree.Signature.{Signature}
use Rattle.nxf_tree.specs.declared.tree.SortEntry.{SortEntry}
use Rattle.nxf_tree.specs.declared.tree.SymbolEntry.{SymbolEntry}
use Rattle.nxf_tree.specs.declared.tree.IndexEntry.{IndexEntry}
use Rattle.nxf_tree.specs.declared.tree.IndexName.{IndexName}
use Rattle.nxf_tree.specs.declared.tree.IndexName.TheVariants.{Plain, Named}
use Rattle.nxf_tree.specs.declared.tree.SortName.{SortName}
use Rattle.nxf_tree.specs.declared.tree.SortName.TheVariants.{Individual, User}
use Rattle.nxf_tree.specs.Names.{numeral}
use Rattle.nxf_tree.specs.Signature.{sort_at, takes_world, existence_sorts, sort_names}
use Rattle.nxf_tree.specs.Rows.{Table, Rows, Values, numbers_below}
use Rattle.nxf_tree.specs.Structures.{KripkeStructure, tables_with}
use Rattle.plain_tokens.specs.PlainTokens as token
use Rattle.plain_tokens.specs.Marks.{Mark, Sign, Dollar, Variable, Name, Object, Blank, Line, spelled, plains}

-- ---- pieces

unfoldable pub interpretation_word : List ℕ
interpretation_word = codes "interpretation"

unfoldable pub true_word : List ℕ
true_word = codes "$true"

-- `tff(NAME,interpretation,BODY).` and the end of the line
abbrev pub statement : List ℕ → List Mark → List Mark
statement name body =
    Name (codes "tff") ∷ Sign (codes "(") ∷ Name name ∷ Sign (codes ",") ∷ Name interpretation_word ∷ Sign (codes ",")
    ∷ (body ++ (Sign (codes ")") ∷ Sign (codes ".") ∷ Line ∷ []))

-- world n
abbrev pub world : ℕ → Mark
world n = Object (codes "w" ++ numeral n)

-- what the elements of a sort begin with
abbrev pub prefix : SortName → List ℕ
prefix Individual = codes "$i"
prefix (User s) = s

-- element n of a sort
abbrev pub element : SortName → ℕ → Mark
element s n = Object (prefix s ++ numeral n)

abbrev pub sort_mark : SortName → Mark
sort_mark Individual = Dollar (codes "$i")
sort_mark (User s) = Name s

-- parts behind a first one, each behind a separator
abbrev pub later : List Mark → List (List Mark) → List Mark
later separator [] = []
later separator (part ∷ parts) = separator ++ (part ++ later separator parts)

-- parts between separators
abbrev pub between : List Mark → List (List Mark) → List Mark
between separator [] = []
between separator (part ∷ parts) = part ++ later separator parts

abbrev pub or_sign : List Mark
or_sign = Blank ∷ Sign (codes "|") ∷ Blank ∷ []

abbrev pub and_sign : List Mark
and_sign = Blank ∷ Sign (codes "&") ∷ Blank ∷ []

abbrev pub equals : List Mark
equals = Blank ∷ Sign (codes "=") ∷ Blank ∷ []

-- `X = "s0"` for the object with the number
abbrev pub member : List ℕ → (ℕ → Mark) → ℕ → List Mark
member variable object n = Variable variable ∷ (equals ++ object n ∷ [])

-- `! [X: s] : ( X = "s0" | X = "s1" )` for so many objects
abbrev pub all_of : List ℕ → Mark → (ℕ → Mark) → ℕ → List Mark
all_of variable sort object n =
    Sign (codes "!") ∷ Blank ∷ Sign (codes "[") ∷ Variable variable ∷ Sign (codes ":") ∷ Blank ∷ sort ∷ Sign (codes "]") ∷ Blank ∷ Sign (codes ":") ∷ Blank ∷ Sign (codes "(") ∷ Blank
    ∷ (between or_sign (map (member variable object) (numbers_below n)) ++ (Blank ∷ Sign (codes ")") ∷ []))

-- ---- the head

abbrev pub worlds_statement : ℕ → List Mark
worlds_statement n = statement (codes "worlds") (all_of (codes "W") (Dollar (codes "$world")) world n)

abbrev pub local_statement : ℕ → List Mark
local_statement w = statement (codes "local") (Dollar (codes "$local_world") ∷ (equals ++ world w ∷ []))

abbrev pub domain_statement : SortName → ℕ → List Mark
domain_statement s n = statement (codes "domain") (all_of (codes "X") (sort_mark s) (element s) n)

abbrev pub domain_statements : List SortName → List ℕ → List (List Mark)
domain_statements [] sizes = []
domain_statements (s ∷ ss) [] = []
domain_statements (s ∷ ss) (n ∷ sizes) = domain_statement s n ∷ domain_statements ss sizes

-- ---- the tables

-- the words of literals
unfoldable pub access_word : List ℕ
access_word = codes "$accessible_world"

unfoldable pub exists_word : List ℕ
exists_word = codes "$exists_in_world"

unfoldable pub world_word : List ℕ
world_word = codes "$in_world"

-- what a table is of: an index, a sort whose elements exist at some worlds, or a symbol with the sorts of its arguments and of its values
pub data Label : Type 0 where
  Access : (index : IndexName) → Label
  Exists : (sort : SortName) → Label
  Symbol : (name : List ℕ) (with_world : Bool) (args : List SortName) (gives : Option SortName) → Label

-- objects of the sorts behind a first one
abbrev pub more_elements : List SortName → List ℕ → List Mark
more_elements [] row = []
more_elements (s ∷ ss) [] = []
more_elements (s ∷ ss) (x ∷ row) = Sign (codes ",") ∷ element s x ∷ more_elements ss row

abbrev pub elements : List SortName → List ℕ → List Mark
elements [] row = []
elements (s ∷ ss) [] = []
elements (s ∷ ss) (x ∷ row) = element s x ∷ more_elements ss row

-- `f("s0","t1")`, or `c`
abbrev pub application : List ℕ → List SortName → List ℕ → List Mark
application name args [] = Name name ∷ []
application name args (x ∷ row) = Name name ∷ Sign (codes "(") ∷ (elements args (x ∷ row) ++ (Sign (codes ")") ∷ []))

-- `$accessible_world(`, or `$accessible_world(#a,`
abbrev pub access_front : IndexName → List Mark
access_front Plain = Dollar access_word ∷ Sign (codes "(") ∷ []
access_front (Named a) = Dollar access_word ∷ Sign (codes "(") ∷ Sign (codes "#") ∷ Name a ∷ Sign (codes ",") ∷ []

-- two objects
abbrev pub pair : (ℕ → Mark) → List ℕ → List Mark
pair second [] = []
pair second (w ∷ []) = []
pair second (w ∷ x ∷ row) = world w ∷ Sign (codes ",") ∷ second x ∷ []

abbrev pub application_at : List ℕ → List SortName → List ℕ → List Mark
application_at name args [] = []
application_at name args (w ∷ row) = Dollar world_word ∷ Sign (codes "(") ∷ world w ∷ Sign (codes ",") ∷ application name args row

-- a literal up to its value
abbrev pub front : Label → List ℕ → List Mark
front (Access index) row = access_front index ++ pair world row
front (Exists sort) row = Dollar exists_word ∷ Sign (codes "(") ∷ pair (element sort) row
front (Symbol name true args gives) row = application_at name args row
front (Symbol name false args gives) row = application name args row

-- the value of a function's row
abbrev pub value_of : Option SortName → ℕ → List Mark
value_of None v = []
value_of (Some s) v = equals ++ element s v ∷ []

abbrev pub label_value : Label → ℕ → List Mark
label_value (Access index) v = []
label_value (Exists sort) v = []
label_value (Symbol name with_world args gives) v = value_of gives v

-- what ends a literal
abbrev pub back : Label → List Mark
back (Access index) = Sign (codes ")") ∷ []
back (Exists sort) = Sign (codes ")") ∷ []
back (Symbol name true args gives) = Sign (codes ")") ∷ []
back (Symbol name false args gives) = []

-- a literal with the value that it gives, where it gives one
abbrev pub literal : Label → List ℕ → ℕ → List Mark
literal label row v = front label row ++ (label_value label v ++ back label)

-- the true rows of a predicate, or the rows of a function with their values
abbrev pub literals : Label → Table → List (List Mark)
literals label (Rows rows) = map (λ row. literal label row 0) rows
literals label (Values rows) = map (λ r. literal label r.0 r.1) rows

-- literals between `&`, or `$true` where there are none
abbrev pub group : List (List Mark) → List Mark
group [] = Dollar true_word ∷ []
group (part ∷ parts) = part ++ later and_sign parts

abbrev pub label_name : Label → List ℕ
label_name (Access index) = codes "access"
label_name (Exists sort) = codes "exists"
label_name (Symbol name with_world args gives) = name

abbrev pub table_statement : Label → Table → List Mark
table_statement label table = statement (label_name label) (group (literals label table))

abbrev pub table_statements : List Label → List Table → List (List Mark)
table_statements [] tables = []
table_statements (label ∷ labels) [] = []
table_statements (label ∷ labels) (table ∷ tables) = table_statement label table ∷ table_statements labels tables

-- ---- the whole

abbrev pub symbol_label : List SortEntry → SymbolEntry → Label
symbol_label sorts entry = Symbol entry.name (takes_world entry) (map (sort_at sorts) entry.args) (option_map (sort_at sorts) entry.gives)

-- the tables of a signature in their order: relations, existence, symbols
abbrev pub labels_of : Signature → List Label
labels_of sig =
    map (λ (entry : IndexEntry). Access entry.name) sig.indexes ++ (map Exists (existence_sorts sig.sorts) ++ map (symbol_label sig.sorts) sig.symbols)

-- the statements for the worlds, the actual world and the elements of each sort
abbrev pub head_marks : Signature → ℕ → ℕ → List ℕ → List (List Mark)
head_marks sig worlds actual sizes = worlds_statement worlds ∷ local_statement actual ∷ domain_statements (sort_names sig.sorts) sizes

abbrev pub marks_of : Signature → KripkeStructure → List (List Mark)
marks_of sig K = head_marks sig K.worlds K.actual K.sizes ++ table_statements (labels_of sig) (tables_with K)

-- the bytes
abbrev pub ktext : Signature → KripkeStructure → List ℕ
ktext sig K = flat_map spelled (marks_of sig K)

-- the tokens of each statement, and all of them
abbrev pub kstatements : Signature → KripkeStructure → List (List token.Plain)
kstatements sig K = map plains (marks_of sig K)

abbrev pub ktokens : Signature → KripkeStructure → List token.Plain
ktokens sig K = flat_map plains (marks_of sig K)
