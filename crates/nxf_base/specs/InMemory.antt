-- What contracts see of the library and the sink in memory.
use Rattle.std.specs.Prelude.{ℕ, List, Some, refl}
use Rattle.std.specs.Coded.{Coded, code_by, coded×, coded_ℕ, coded_list}
use Rattle.nxf_base.specs.Shelf.{Shelf}
use Rattle.nxf_base.specs.Files.{Files, files_code}

-- a library in memory: its files, the loads that fail, the number of the last load, and its counts
pub record LibraryState : Type 0 where
  pub files : Files
  pub failing : List ℕ
  pub calls : ℕ
  pub faults : ℕ
  pub misses : ℕ

abbrev pub library_state_code : Coded LibraryState
library_state_code =
    code_by (Files × (List ℕ × (ℕ × (ℕ × ℕ))))
    (coded× files_code (coded× (coded_list coded_ℕ) (coded× coded_ℕ (coded× coded_ℕ coded_ℕ))))
    (λ s. (s.files, (s.failing, (s.calls, (s.faults, s.misses)))))
    (λ p. record { files = p.0; failing = p.1.0; calls = p.1.1.0; faults = p.1.1.1.0; misses = p.1.1.1.1 })
    (λ _. refl)

-- what the trait says of it
abbrev pub shelf_of : LibraryState → Shelf
shelf_of s = record { files = Some s.files; faults = s.faults; misses = s.misses }

-- a sink in memory: its bytes, the most that a write takes, the writes that fail, the number of the last write, and the failures
pub record SinkState : Type 0 where
  pub held : List ℕ
  pub piece : ℕ
  pub failing : List ℕ
  pub calls : ℕ
  pub faults : ℕ
