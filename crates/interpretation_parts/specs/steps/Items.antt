-- The parts of a file as a walk meets them: each with the number of its statement.
use Rattle.std.specs.Prelude.{ℕ, suc, List, [], ◌∷◌, ◌++◌, map, Option, None, Some, slice_index_or}
use Rattle.std.specs.Option.{option_or, option_map}
use Rattle.nxf_tree.specs.declared.tree.Formula.{Formula, True, False, Atom, Same, Differ, And', Or', Distinct}
use Rattle.nxf_tree.specs.declared.tree.Formula.TheBlock.{items-the_row-Formula}
use Rattle.nxf_tree.specs.Shapes.{Not1, Pair2, Quant1, Modal1}
use Rattle.nxf_tree.specs.declared.tree.Statement.{Statement}
use Rattle.interpretation_definitions.specs.declared.fault.PartFault.{PartFault}
use Rattle.interpretation_parts.specs.declared.items.Item.{Item}
use Rattle.interpretation_parts.specs.declared.items.Said.{Said}
use Rattle.interpretation_parts.specs.declared.items.Said.TheVariants as said
use Rattle.interpretation_definitions.specs.Parts.{Part, Formless, Declares, parts_in, parts_of}
use Rattle.interpretation_definitions.specs.Context.{Context}
use Rattle.interpretation_definitions.specs.Judging.{part_fault}

-- the members of a conjunction
abbrev pub conjuncts : Formula → Option (List Formula)
conjuncts True = None
conjuncts False = None
conjuncts (Atom p ts) = None
conjuncts (Same t u) = None
conjuncts (Differ t u) = None
conjuncts (Not1 f) = None
conjuncts (And' shape fs) = Some (items-the_row-Formula _ fs)
conjuncts (Or' shape fs) = None
conjuncts (Pair2 op f g) = None
conjuncts (Quant1 q x s f) = None
conjuncts (Modal1 mode i f) = None
conjuncts (Distinct ts) = None

-- the part of a formula that is no conjunction
abbrev pub only : Option (List Formula) → List Part → Part
only None parts = slice_index_or parts 0 Formless
only (Some fs) parts = Formless

abbrev pub leaf : Formula → Part
leaf f = only (conjuncts f) (parts_in f)

abbrev pub said_part : Said → Part
said_part said.Nothing = Formless
said_part (said.Typing t) = Declares t.now
said_part (said.Formula f) = leaf f.now

abbrev pub item_part : Item → ℕ × Part
item_part item = (item.statement, said_part item.said)

abbrev pub items_in : List Item → List (ℕ × Part)
items_in = map item_part

-- the parts of statement k
abbrev pub numbered : ℕ → List Part → List (ℕ × Part)
numbered k = map (λ part. (k, part))

-- the parts of the statements from number k on
abbrev pub numbered_parts : ℕ → List Statement → List (ℕ × Part)
numbered_parts k [] = []
numbered_parts k (s ∷ ss) = numbered k (parts_of s) ++ numbered_parts (suc k) ss

-- the first fault of numbered parts after the parts before them
abbrev pub item_fault : Context → List Part → List (ℕ × Part) → Option (ℕ × PartFault)
item_fault context before [] = None
item_fault context before (x ∷ xs) =
    option_or (option_map (λ fault. (x.0, fault)) (part_fault context before x.1)) (item_fault context (before ++ x.1 ∷ []) xs)

-- the parts alone
abbrev pub parts_in_items : List Item → List Part
parts_in_items items = map (λ p. p.1) (items_in items)
