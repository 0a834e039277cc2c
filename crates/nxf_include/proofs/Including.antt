-- One more include: what holds in front of it holds behind it.
use Rattle.std.proofs.Common.{◌≡◌, ℕ, ◌+◌, ◌≤◌, List, ◌∷◌, ◌++◌, Option, Ok}
use Rattle.nxf_base.specs.Files.{Files}
use Rattle.nxf_base.specs.Shelf.{Shelf}
use Rattle.nxf_tree.specs.declared.tree.Statement.{Statement}
use Rattle.nxf_tree.specs.declared.tree.Statement.TheVariants.{Include}
use Rattle.nxf_tree.specs.Weight.{statement_list_weight}
use Rattle.syntax_definitions.specs.Gathered.{selected, Visits}
use Rattle.syntax_definitions.specs.OneAfterAnother.{Step}
use Rattle.syntax_definitions.specs.Promises.{AreReadStatements, AreFine}
use Rattle.syntax_definitions.specs.Refusals.{Meets}
use Rattle.syntax_definitions.specs.declared.visited.Visited.{Visited}
use Rattle.nxf_include.specs.Roots.{KeepEach, files_of}
use Rattle.nxf_include.proofs.Bringing.{Underway, met_first, adds_included}
use Rattle.nxf_include.proofs.Callers.{Keeps-after}
use Rattle.nxf_include.proofs.Promising.{included_fine, included_weight, rest_read}

module _ (Whole : Files → Step Visited) (levels base sum : ℕ) (xs ys zs : List Shelf) (file : List ℕ) (names : Option (List (List ℕ))) (part : Visited) (done now all rest : List Statement) where
  pub includes_part :
      Underway (files_of xs) Whole levels done sum all → KeepEach xs ys → AreFine done → AreReadStatements all → base + statement_list_weight done + statement_list_weight all ≤ sum
      → Meets (files_of ys) (λ files. Visits files levels sum file) (Ok part) → KeepEach ys zs → AreFine part.statements → (part.sum ≤ 67108864) × (sum + statement_list_weight part.statements ≤ part.sum)
      → (kept : List Statement) × (selected file names part.statements ≡ Ok kept) × (now ≡ done ++ kept) → all ≡ Include file names ∷ rest
      → Underway (files_of xs) Whole levels now part.sum rest × KeepEach xs zs × AreFine now × AreReadStatements rest × (base + statement_list_weight now + statement_list_weight rest ≤ part.sum) × (part.sum ≤ 67108864)
  includes_part under keeps fine read weight met more part_fine counts kept next = (
    adds_included Whole levels done sum all rest file names (files_of xs) part kept.0 now under next (met_first xs ys (λ files. Visits files levels sum file) (Ok part) keeps met) kept.1 kept.2,
    Keeps-after xs ys zs keeps more,
    included_fine file names part.statements done now kept.0 kept.1 kept.2 fine part_fine,
    rest_read all rest (Include file names) next read,
    included_weight file names base sum part.sum part.statements done now kept.0 all rest (Include file names) kept.1 kept.2 next counts.1 weight,
    counts.0,
  )
