use Rattle.std.proofs.Common.{sym, refl}
use Rattle.nxf_roles.proofs.words.part_of_word.Goals as goal

pub returns-else-is_same : goal.returns-else-is_same
returns-else-is_same c =
    rw (sym c.bytes-word.ensures, sym c.if-is_among.ensures, sym c.if-is_among-2.ensures, sym c.if-is_same.ensures) refl
