-- The bytes of a text, wherever they lie.
use Rattle.std.specs.Prelude.{ℕ, List}
use Rattle.nxf_base.specs.declared.text.Held.{Held}
use Rattle.nxf_base.specs.declared.text.Held.TheVariants.{Short, Long}

abbrev pub bytes_of : Held → List ℕ
bytes_of (Short bytes) = bytes
bytes_of (Long bytes) = bytes.items
