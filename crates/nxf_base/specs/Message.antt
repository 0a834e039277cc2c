-- The line that tells a status: names as their bytes, numbers in decimal digits, ended by a line feed.
use Rattle.std.specs.Prelude.{ℕ, List, [], ◌∷◌, ◌++◌, codes, decimal}
use Rattle.nxf_base.specs.declared.status.Status.{Status}
use Rattle.nxf_base.specs.declared.status.Status.TheVariants as status
use Rattle.nxf_base.specs.declared.status.RoleKind.{RoleKind}
use Rattle.nxf_base.specs.declared.status.RoleKind.TheVariants as role
use Rattle.nxf_base.specs.declared.status.SpecKind.{SpecKind}
use Rattle.nxf_base.specs.declared.status.SpecKind.TheVariants as spec
use Rattle.nxf_base.specs.declared.status.SortKind.{SortKind}
use Rattle.nxf_base.specs.declared.status.SortKind.TheVariants as sort
use Rattle.nxf_base.specs.declared.status.InterpKind.{InterpKind}
use Rattle.nxf_base.specs.declared.status.InterpKind.TheVariants as interp
use Rattle.nxf_base.specs.declared.status.Fails.{Fails}
use Rattle.nxf_base.specs.declared.status.Fails.TheVariants as fails

-- words after one another, with a blank between
infixr 20 ◌␣◌
abbrev pub ◌␣◌ : List ℕ → List ℕ → List ℕ
front ␣ back = front ++ 32 ∷ back

abbrev pub role_words : RoleKind → ℕ → List ℕ
role_words role.Unknown place = codes "unknown" ␣ decimal place
role_words role.TwoConjectures place = codes "two-conjectures" ␣ decimal place

abbrev pub spec_words : SpecKind → List ℕ
spec_words spec.Absent = codes "none"
spec_words (spec.Two place) = codes "two" ␣ decimal place
spec_words spec.NotModal = codes "not-modal"
spec_words (spec.UnknownKey key) = codes "unknown-key" ␣ key
spec_words (spec.DuplicateKey key) = codes "duplicate-key" ␣ key
spec_words (spec.UnknownValue key) = codes "unknown-value" ␣ key
spec_words spec.NoModalities = codes "no-modalities"

abbrev pub sort_word : SortKind → List ℕ
sort_word sort.DoubleName = codes "double-name"
sort_word sort.UnknownSort = codes "unknown-sort"
sort_word sort.Mismatch = codes "mismatch"
sort_word sort.FreeVariable = codes "free-variable"
sort_word sort.UnknownOverride = codes "unknown-override"

abbrev pub interp_words : InterpKind → List ℕ
interp_words (interp.Form place) = codes "form" ␣ decimal place
interp_words (interp.UnknownElement place) = codes "unknown-element" ␣ decimal place
interp_words (interp.UnknownSymbol place) = codes "unknown-symbol" ␣ decimal place
interp_words (interp.Clash place) = codes "clash" ␣ decimal place
interp_words (interp.Incomplete symbol) = codes "incomplete" ␣ symbol

abbrev pub fails_words : Fails → List ℕ
fails_words (fails.Frame index scheme) = codes "frame" ␣ index ␣ scheme
fails_words (fails.Empty sort) = codes "empty" ␣ sort
fails_words (fails.Union sort) = codes "union" ␣ sort
fails_words (fails.Monotone sort index) = codes "monotone" ␣ sort ␣ index
fails_words (fails.Local symbol) = codes "local" ␣ symbol
fails_words (fails.Premise place) = codes "statement" ␣ decimal place
fails_words (fails.Conjecture place) = codes "conjecture" ␣ decimal place

abbrev pub usage : List ℕ
usage = codes "usage: nxf embed FILE, lift FILE INTERP, lower FILE KRIPKE, check FILE KRIPKE, gen NUMBER"

-- the words of a status; Ok has none
abbrev pub words_of : Status → List ℕ
words_of status.Ok = []
words_of status.Usage = usage
words_of (status.NoFile name) = codes "no file" ␣ name
words_of status.ReadFault = codes "read fault"
words_of (status.TooLong name) = codes "too long" ␣ name
words_of status.TooMuch = codes "too much input"
words_of (status.Deep name) = codes "too deep" ␣ name
words_of (status.Lex name offset) = codes "lex" ␣ name ␣ decimal offset
words_of (status.Syntax name place) = codes "syntax" ␣ name ␣ decimal place
words_of (status.NoSuchName file name) = codes "no such name" ␣ file ␣ name
words_of (status.Role kind place) = codes "role" ␣ role_words kind place
words_of (status.Spec kind) = codes "spec" ␣ spec_words kind
words_of (status.Sort kind place name) = codes "sort" ␣ sort_word kind ␣ decimal place ␣ name
words_of (status.Interp kind) = codes "interp" ␣ interp_words kind
words_of (status.KripkeText place) = codes "kripke" ␣ decimal place
words_of (status.TooBig cells) = codes "too big" ␣ decimal cells
words_of (status.TooManyWorlds worlds) = codes "too many worlds" ␣ decimal worlds
words_of (status.NotCountermodel fault) = codes "fails" ␣ fails_words fault
words_of status.WriteFault = codes "write fault"
words_of status.Memory = codes "no memory"
words_of status.NotYet = codes "not yet"

-- the line of a status, and nothing for Ok
abbrev pub message_of : Status → List ℕ
message_of status.Ok = []
message_of s = words_of s ++ 10 ∷ []
