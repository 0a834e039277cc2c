-- The structure that a file gives, told by its parts.
use Rattle.std.specs.Prelude.{ℕ, List, [], map, Result}
use Rattle.nxf_tree.specs.declared.tree.ClassicalSignature.{ClassicalSignature}
use Rattle.fin_struct.specs.StructureTables.{StructureTables}
use Rattle.interpretation_definitions.specs.declared.error.InterpError.{InterpError}
use Rattle.interpretation_definitions.specs.Context.{Context, context_of}
use Rattle.interpretation_definitions.specs.Given.{given_by}
use Rattle.interpretation_definitions.specs.Interpretation.{rows_given, sizes_of, unless_fault, within_limits}
use Rattle.interpretation_definitions.specs.Parts.{Part}
use Rattle.interpretation_parts.specs.steps.Items.{item_fault}

-- the parts of items
abbrev pub parts_of_items : List (ℕ × Part) → List Part
parts_of_items = map (λ p. p.1)

-- what the parts give where none has a fault
abbrev pub faultless : ClassicalSignature → Context → List Part → Result StructureTables InterpError
faultless csig context parts = within_limits (sizes_of context) (rows_given (given_by context parts)) csig

-- the structure that numbered parts give, or why they give none
abbrev pub items_give : ClassicalSignature → List (ℕ × Part) → Result StructureTables InterpError
items_give csig items =
    let context = context_of csig (parts_of_items items) in
    unless_fault (item_fault context [] items) (faultless csig context (parts_of_items items))
