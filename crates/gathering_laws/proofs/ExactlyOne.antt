-- There is a reading and a gathering, and no other.
use Rattle.std.proofs.Common.{◌≡◌, ℕ, List}
use Rattle.nxf_base.specs.Exactly.{ExactlyOne}
use Rattle.nxf_base.specs.Files.{Files}
use Rattle.syntax_definitions.specs.Gathered.{Reads, Gathers}
use Rattle.gathering_laws.proofs.OneGathering.{one_reading, one_gathering}
use Rattle.gathering_laws.proofs.SomeGathering.{some_reading, some_gathering}

pub exactly_one : {A : Type 0} (IsSo : A → Type 0) → (some : (x : A) × IsSo x) → ((x y : A) → IsSo x → IsSo y → x ≡ y) → ExactlyOne IsSo
exactly_one IsSo some same = (some.0, some.1, λ other h. same other some.0 h some.1)

pub exactly_one_reading : (name bytes : List ℕ) → ExactlyOne (Reads name bytes)
exactly_one_reading name bytes = exactly_one (Reads name bytes) (some_reading name bytes) (λ r s h k. one_reading h k)

pub exactly_one_gathering : (files : Files) (name : List ℕ) → ExactlyOne (Gathers files name)
exactly_one_gathering files name = exactly_one (Gathers files name) (some_gathering files name) (one_gathering files name)
