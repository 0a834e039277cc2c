-- What contracts see of a run.
use Rattle.std.specs.Prelude.{ℕ, List, map, Option}
use Rattle.nxf_base.specs.Files.{Files}
use Rattle.nxf_base.specs.Shelf.{Shelf}
use Rattle.nxf_base.specs.declared.sink.Sink as sink
use Rattle.nxf_include.specs.Roots.{files_of, shelves_of}
use Rattle.nxf_include.specs.declared.roots.Roots.{Roots}

-- what a sink holds, where it tells it, and how often it has failed
pub record Sight : Type 0 where
  pub held : Option (List ℕ)
  pub faults : ℕ

-- What a run found and left: the words; what the libraries told before and after it; what was seen of `out` and of `err`.
pub record Run : Type 0 where
  pub words : List (List ℕ)
  pub shelves : List Shelf
  pub shelves_now : List Shelf
  pub out : Sight
  pub out_now : Sight
  pub err : Sight
  pub err_now : Sight

abbrev pub sight_of : {S : Type 0} → sink.Ghosts S → S → Sight
sight_of as_sink s = record { held = as_sink.held s; faults = as_sink.faults s }

-- the run on these words, over any libraries, and `out` and `err` as sinks
abbrev pub ran : {L O E : Type 0} → List (List ℕ) → (L → Shelf) → List L → List L → sink.Ghosts O → O → O → sink.Ghosts E → E → E → Run
ran words shelf libraries libraries_now as_out out out_now as_err err err_now = record {
  words = words;
  shelves = map shelf libraries;
  shelves_now = map shelf libraries_now;
  out = sight_of as_out out;
  out_now = sight_of as_out out_now;
  err = sight_of as_err err;
  err_now = sight_of as_err err_now;
}

-- the same over a list of boxed libraries; `shelf` is what a library tells that stands behind a box
abbrev pub ran_on : {X : Type 0} {F : X → Type 0} {O E : Type 0} → List (List ℕ) → ((x : X) × F x → Shelf) → Roots X F → Roots X F
    → sink.Ghosts O → O → O → sink.Ghosts E → E → E → Run
ran_on words shelf roots roots_now as_out out out_now as_err err err_now = record {
  words = words;
  shelves = shelves_of (λ b. shelf (b.vtable, b.value)) roots;
  shelves_now = shelves_of (λ b. shelf (b.vtable, b.value)) roots_now;
  out = sight_of as_out out;
  out_now = sight_of as_out out_now;
  err = sight_of as_err err;
  err_now = sight_of as_err err_now;
}

-- the files that the libraries of the run tell
abbrev pub files_told : Run → Option Files
files_told run = files_of run.shelves
