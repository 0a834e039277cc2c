use Rattle.std.proofs.Common.{◌≡◌, ℕ, false, Option, None, Some, sym}
use Rattle.std.specs.Prelude.{MatchOption}
use Rattle.nxf_tree.specs.declared.tree.Signature.{Signature}
use Rattle.nxf_tree.specs.declared.tree.SortName.{SortName}
use Rattle.nxf_tree.specs.Counting.{has}
use Rattle.nxf_tree.specs.Signature.{same_sort, sort_names}
use Rattle.name_laws.proofs.SameNames.{same_sort-sym}
use Rattle.nxf_signatures.specs.Places.{place}
use Rattle.nxf_sorts.specs.steps.Numbering.{FindsNumber}
use Rattle.nxf_sorts.proofs.FormulaLemmas.{place_none, finds}
use Rattle.nxf_sorts.proofs.formula.found_sort.Goals as goal

by : (sig : Signature) (s : SortName) (o : Option ℕ) → o ≡ place (same_sort s) (sort_names sig.sorts) → MatchOption o (has same_sort s (sort_names sig.sorts) ≡ false) (λ k. FindsNumber sig s k)
by sig s None h = place_none same_sort same_sort-sym s (sort_names sig.sorts) (sym h)
by sig s (Some k) h = finds sig s k (sym h)

pub returns : goal.returns
returns c = by c.args.names.now.signature c.args.sort.now c.sort.result c.sort.ensures
