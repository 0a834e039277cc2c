-- What was listed before a part, as the code keeps it.
use Rattle.std.specs.Prelude.{◌≡◌, ℕ, ◌<◌, Bool, false, nat_eq, List, ◌++◌, map, length, slice_index_or, Result, IfOk, OnOk}
use Rattle.std.specs.List.{list_any}
use Rattle.nxf_tree.specs.Names.{same_text}
use Rattle.nxf_tree.specs.declared.tree.SortName.{SortName}
use Rattle.interpretation_definitions.specs.Judging.{closure_fault, listings_before}
use Rattle.interpretation_definitions.specs.Parts.{Part}
use Rattle.interpretation_parts.specs.declared.closures.Closures.{Closures}
use Rattle.interpretation_parts.specs.declared.context.Context.{Context as Held}
use Rattle.interpretation_parts.specs.declared.judge.PartError.{PartError}
use Rattle.interpretation_parts.specs.steps.Held.{context_in, Judges}

-- the names that were listed, and the sorts for which some name was
pub record AreNoted (listings : List (List ℕ × ℕ)) (closures : Closures) : Type 0 where
  pub listed : (q : List ℕ) → list_any (same_text q) closures.listed.keys ≡ list_any (same_text q) (map (λ listing. listing.0) listings)
  pub closed : (k : ℕ) → k < length closures.closed.items
      → slice_index_or closures.closed.items k false ≡ list_any (λ listing. nat_eq listing.1 k) listings

-- the answer is what holds with the names that were listed before
abbrev pub TellsListed : {E : Type 0} → Closures → (List (List ℕ × ℕ) → Bool) → Result Bool E → Type 0
TellsListed closures clash answer = (before : List (List ℕ × ℕ)) → AreNoted before closures → IfOk answer (λ told. told ≡ clash before)

-- without a refusal these names are listed too
abbrev pub Lists : {T E : Type 0} → Result T E → Closures → List (List ℕ × ℕ) → Closures → Type 0
Lists answer old more new = (before : List (List ℕ × ℕ)) → AreNoted before old → OnOk answer (AreNoted (before ++ more) new)

-- the answer names the fault of a closure after the parts before it
abbrev pub JudgesClosure : Held → Closures → SortName → List (List ℕ) → Result (Unit {0}) PartError → Type 0
JudgesClosure held closures sort names answer =
    (before : List Part) → AreNoted (listings_before (context_in held) before) closures
    → Judges (closure_fault (context_in held) before sort names) answer
