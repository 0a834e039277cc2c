-- What a write takes.
use Rattle.std.specs.Prelude.{◌≡◌, ℕ, ◌≤◌, List, ◌++◌, take, length, Option, Some, IfSome, Result, Ok, Err, IsErrOf}
use Rattle.nxf_base.specs.Causes.{Rose}
use Rattle.nxf_base.specs.declared.sink.SinkError.{SinkError}
use Rattle.nxf_base.specs.declared.sink.SinkError.TheVariants.{Fault}

-- what the sink holds is followed by these bytes, where it tells it
abbrev pub Appends : Option (List ℕ) → Option (List ℕ) → List ℕ → Type 0
Appends before now bytes = IfSome before (λ held. now ≡ Some (held ++ bytes))

-- some first bytes are taken, at least one; after an error the sink holds what it held
abbrev pub Takes : Option (List ℕ) → Option (List ℕ) → List ℕ → Result ℕ SinkError → Type 0
Takes before now bytes (Ok n) = (1 ≤ n) × (n ≤ length bytes) × Appends before now (take n bytes)
Takes before now bytes (Err e) = now ≡ before

-- the count of failures never falls, and a failure is counted
pub record HasWriteCause (faults faults_now : ℕ) (result : Result ℕ SinkError) : Type 0 where
  pub later : faults ≤ faults_now
  pub fault : IsErrOf result Fault → Rose faults faults_now
