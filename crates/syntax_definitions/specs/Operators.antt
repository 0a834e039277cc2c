-- The signs that join two units, and those that name a modality.
use Rattle.std.specs.Prelude.{Option, Some, None}
use Rattle.nxf_terminals.specs.declared.sign.Sign.{Sign}
use Rattle.nxf_terminals.specs.declared.sign.Sign.TheVariants as sign
use Rattle.nxf_tree.specs.declared.tree.Op.{Op}
use Rattle.nxf_tree.specs.declared.tree.Op.TheVariants as op
use Rattle.nxf_tree.specs.declared.tree.Mode.{Mode}
use Rattle.nxf_tree.specs.declared.tree.Mode.TheVariants as mode

-- the operators that do not chain
abbrev pub operator : Sign → Option Op
operator sign.Implies = Some op.Implies
operator sign.ImpliedBy = Some op.ImpliedBy
operator sign.Iff = Some op.Iff
operator sign.Xor = Some op.Xor
operator sign.Nor = Some op.Nor
operator sign.Nand = Some op.Nand
operator _ = None

-- `$box` and `$necessary`, or `$dia` and `$possible`
abbrev pub mode_of : Sign → Option Mode
mode_of sign.Boxes = Some mode.Box
mode_of sign.Diamonds = Some mode.Dia
mode_of _ = None
