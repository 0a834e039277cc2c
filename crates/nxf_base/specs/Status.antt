-- The exit code of a status.
use Rattle.std.specs.Prelude.{ℕ}
use Rattle.nxf_base.specs.declared.status.Status.{Status}
use Rattle.nxf_base.specs.declared.status.Status.TheVariants as status

abbrev pub code_of : Status → ℕ
code_of status.Ok = 0
code_of status.Usage = 2
code_of (status.NoFile name) = 3
code_of status.ReadFault = 4
code_of (status.TooLong name) = 5
code_of status.TooMuch = 6
code_of (status.Deep name) = 7
code_of (status.Lex name offset) = 8
code_of (status.Syntax name place) = 9
code_of (status.NoSuchName file name) = 10
code_of (status.Role kind place) = 11
code_of (status.Spec kind) = 12
code_of (status.Sort kind place name) = 13
code_of (status.Interp kind) = 14
code_of (status.KripkeText place) = 15
code_of (status.TooBig cells) = 16
code_of (status.TooManyWorlds worlds) = 17
code_of (status.NotCountermodel fails) = 18
code_of status.WriteFault = 19
code_of status.Memory = 20
code_of status.NotYet = 21
