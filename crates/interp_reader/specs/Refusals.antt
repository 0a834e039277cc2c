-- Why a file gives no structure.
use Rattle.std.specs.Prelude.{◌≡◌, ℕ, List, Option, Some, Result, Err}
use Rattle.nxf_base.specs.declared.status.InterpKind.TheVariants as kind
use Rattle.nxf_tree.specs.declared.tree.ClassicalSignature.{ClassicalSignature}
use Rattle.fin_struct.specs.declared.limits.ShapeError.TheVariants as shape
use Rattle.fin_struct.specs.Limits.{RefusesShape}
use Rattle.fin_struct.specs.StructureTables.{StructureTables}
use Rattle.interpretation_definitions.specs.declared.error.InterpError.{InterpError}
use Rattle.interpretation_definitions.specs.declared.error.InterpError.TheVariants.{Kind, TooManyWorlds, TooBig, Memory}

-- a refusal is that of the definition; want of memory says nothing of the file
abbrev pub Refuses : Result StructureTables InterpError → InterpError → Type 0
Refuses answer (Kind kind) = answer ≡ Err (Kind kind)
Refuses answer (TooManyWorlds worlds) = answer ≡ Err (TooManyWorlds worlds)
Refuses answer (TooBig cells) = answer ≡ Err (TooBig cells)
Refuses answer Memory = Unit {0}

-- the refusal of a shape, as one of an interpretation
abbrev pub RefusesAs : ClassicalSignature → List ℕ → InterpError → Type 0
RefusesAs csig sizes (Kind kind) = ⊥
RefusesAs csig sizes (TooManyWorlds worlds) = RefusesShape csig sizes (shape.TooManyWorlds worlds)
RefusesAs csig sizes (TooBig cells) = RefusesShape csig sizes (shape.TooBig cells)
RefusesAs csig sizes Memory = Unit {0}

-- the refusal names the symbol of which rows are missing
abbrev pub RefusesSymbol : Option (List ℕ) → InterpError → Type 0
RefusesSymbol name (Kind (kind.Form k)) = ⊥
RefusesSymbol name (Kind (kind.UnknownElement k)) = ⊥
RefusesSymbol name (Kind (kind.UnknownSymbol k)) = ⊥
RefusesSymbol name (Kind (kind.Clash k)) = ⊥
RefusesSymbol name (Kind (kind.Incomplete text)) = name ≡ Some text
RefusesSymbol name (TooManyWorlds worlds) = ⊥
RefusesSymbol name (TooBig cells) = ⊥
RefusesSymbol name Memory = Unit {0}
