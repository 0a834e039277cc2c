-- What becomes of a printed text when a mark is put, and the pieces that statements are put together from.
use Rattle.std.specs.Prelude.{ℕ, zero, suc, drop, Bool, true, false, codes, List, [], ◌∷◌, ◌++◌, map}
use Rattle.nxf_tree.specs.declared.tree.SortName.{SortName}
use Rattle.nxf_tree.specs.Names.{numeral}
use Rattle.nxf_tree.specs.Rows.{numbers_below}
use Rattle.plain_tokens.specs.Marks.{Mark, Sign, Dollar, Variable, Name, Object, Blank, Line, mark_text}
use Rattle.kripke_text_definitions.specs.KripkeText.{elements, more_elements, and_sign, or_sign, world, between, member, equals, interpretation_word, true_word, world_word}

-- ---- a text that grows

-- the text grows by the mark's
abbrev pub printed : List ℕ → Mark → List ℕ
printed text mark = text ++ mark_text mark

-- ---- pieces of statements

-- objects with a front and a number
abbrev pub numbered : List ℕ → ℕ → Mark
numbered front n = Object (front ++ numeral n)

-- what is put of a row from a place on
abbrev pub elements_from : List SortName → List ℕ → ℕ → List Mark
elements_from sorts row zero = elements sorts row
elements_from sorts row (suc i) = more_elements (drop (suc i) sorts) (drop (suc i) row)

-- a comma, or a bar, where something stands before it
abbrev pub comma_marks : Bool → List Mark
comma_marks true = Sign (codes ",") ∷ []
comma_marks false = []

abbrev pub bar_marks : Bool → List Mark
bar_marks true = or_sign
bar_marks false = []

-- `&` before a literal that isn't the first
abbrev pub lead_marks : Bool → List Mark
lead_marks true = []
lead_marks false = and_sign

-- `$in_world("w0",` and `)`, where a literal has a world
abbrev pub place_marks : Bool → ℕ → List Mark
place_marks true n = Dollar world_word ∷ Sign (codes "(") ∷ world n ∷ Sign (codes ",") ∷ []
place_marks false n = []

abbrev pub place_end : Bool → List Mark
place_end true = Sign (codes ")") ∷ []
place_end false = []

-- what stands before the body of a statement, and what ends it
abbrev pub opening_marks : List ℕ → List Mark
opening_marks name = Name (codes "tff") ∷ Sign (codes "(") ∷ Name name ∷ Sign (codes ",") ∷ Name interpretation_word ∷ Sign (codes ",") ∷ []

abbrev pub closing_marks : List Mark
closing_marks = Sign (codes ")") ∷ Sign (codes ".") ∷ Line ∷ []

-- `$true` where there is no literal
abbrev pub truth_marks : Bool → List Mark
truth_marks true = Dollar true_word ∷ []
truth_marks false = []

-- `! [X: ` and `] : ( `, around the sort
abbrev pub binder_front : List ℕ → List Mark
binder_front variable = Sign (codes "!") ∷ Blank ∷ Sign (codes "[") ∷ Variable variable ∷ Sign (codes ":") ∷ Blank ∷ []

abbrev pub binder_back : List Mark
binder_back = Sign (codes "]") ∷ Blank ∷ Sign (codes ":") ∷ Blank ∷ Sign (codes "(") ∷ Blank ∷ []

-- ` )`
abbrev pub bracket_end : List Mark
bracket_end = Blank ∷ Sign (codes ")") ∷ []

-- `X = "s0" | X = "s1"`, for so many objects
abbrev pub members_marks : List ℕ → List ℕ → ℕ → List Mark
members_marks variable front n = between or_sign (map (member variable (numbered front)) (numbers_below n))

-- what stands behind the sort: the objects between brackets
abbrev pub rest_marks : List ℕ → List ℕ → ℕ → List Mark
rest_marks variable front n = binder_back ++ (members_marks variable front n ++ bracket_end)

-- `tff(local,interpretation,$local_world = `
abbrev pub local_marks : List Mark
local_marks = opening_marks (codes "local") ++ Dollar (codes "$local_world") ∷ equals
