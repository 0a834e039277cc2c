-- What the code reads a part as, and the part that this is.
use Rattle.std.specs.Prelude.{ℕ, List, [], ◌∷◌, ◌++◌, map, Option, None, Some}
use Rattle.nxf_tree.specs.declared.tree.Formula.{Formula}
use Rattle.interpretation_parts.specs.declared.reading.Reading.{Reading}
use Rattle.interpretation_parts.specs.declared.reading.Reading.TheVariants as reading
use Rattle.interpretation_definitions.specs.Parts.{Part, Formless, Declares, Closes, Applies, Equates, Differs, AllDiffer, SaysNothing, argument, and_name, member_of}
use Rattle.std.proofs.Common.{Vec, Bor}
use Rattle.std.specs.declared.alloc.Global.{Global}

-- the texts that are lent
abbrev pub texts : List (Bor (List ℕ)) → List (List ℕ)
texts = map (λ name. name.now)

-- the names in a list of texts
abbrev pub names_in : Vec (Bor (List ℕ)) Global → List (List ℕ)
names_in names = texts names.items

-- the texts that are lent, as names of the sort
abbrev pub lent_under : ℕ → List (Bor (List ℕ)) → List (List ℕ × ℕ)
lent_under sort = map (λ name. (name.now, sort))

abbrev pub member_list : List ℕ → List Formula → Option (List (List ℕ))
member_list x [] = Some []
member_list x (f ∷ fs) = and_name (member_of x f) (member_list x fs)

abbrev pub reading_part : Reading → Part
reading_part reading.Formless = Formless
reading_part (reading.Declares t) = Declares t.now
reading_part (reading.Closes s names) = Closes s.now (names_in names)
reading_part (reading.Applies truth p args) = Applies truth p.now (map argument args.now)
reading_part (reading.Equates f args value) = Equates f.now (map argument args.now) (argument value.now)
reading_part (reading.Differs left right) = Differs (argument left.now) (argument right.now)
reading_part (reading.AllDiffer args) = AllDiffer (map argument args.now)
reading_part reading.SaysNothing = SaysNothing

-- names before those that are left, where all are there
abbrev pub before_names : List (List ℕ) → Option (List (List ℕ)) → Option (List (List ℕ))
before_names names None = None
before_names names (Some more) = Some (names ++ more)
