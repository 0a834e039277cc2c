-- How a result stands to the defined one.
use Rattle.std.specs.Prelude.{◌≡◌, ◌⊎◌, ℕ, List, Option, IfSome, Result, Err, IfErr}
use Rattle.nxf_base.specs.Files.{Files}
use Rattle.syntax_definitions.specs.declared.gather_error.GatherError.{GatherError}
use Rattle.syntax_definitions.specs.declared.gather_error.GatherError.TheVariants.{NoFile, ReadFault, TooLong, Memory}
use Rattle.syntax_definitions.specs.OneAfterAnother.{Step}

-- the refusals of a single load
abbrev pub IsOfLoading : GatherError → Type 0
IsOfLoading (NoFile name) = Unit {0}
IsOfLoading ReadFault = Unit {0}
IsOfLoading (TooLong name) = Unit {0}
IsOfLoading Memory = Unit {0}
IsOfLoading _ = ⊥

-- this holds where the refusal is that of an absent file
abbrev pub OnNoFile : {A : Type 0} → Result A GatherError → Type 0 → Type 0
OnNoFile result P = (name : List ℕ) → result ≡ Err (NoFile name) → P

-- the files decide the refusal: it is no failure of a library and no want of memory
abbrev pub IsRefusalOfFiles : GatherError → Type 0
IsRefusalOfFiles ReadFault = ⊥
IsRefusalOfFiles Memory = ⊥
IsRefusalOfFiles _ = Unit {0}

-- the files decide the result
abbrev pub IsOfFiles : {A : Type 0} → Result A GatherError → Type 0
IsOfFiles result = IfErr result IsRefusalOfFiles

-- the refusal is the defined one where the files are told, or a read fault, or want of memory
abbrev pub Refuses : {A : Type 0} → Option Files → (Files → Result A GatherError) → GatherError → Type 0
Refuses told answer e = IfSome told (λ files. answer files ≡ Err e) ⊎ ((e ≡ ReadFault) ⊎ (e ≡ Memory))

-- the result is one of the step where the files are told, or a read fault, or want of memory
abbrev pub Meets : {A : Type 0} → Option Files → (Files → Step A) → Result A GatherError → Type 0
Meets told Answers result = IfSome told (λ files. Answers files result) ⊎ ((result ≡ Err ReadFault) ⊎ (result ≡ Err Memory))
