-- A structure in memory is within the limits of a text.
use Rattle.std.proofs.Common.{◌≡◌, ◌≤◌, ℕ, List, sym, subst, ◌∙◌, arith}
use Rattle.std.specs.Prelude.{min}
use Rattle.nxf_tree.specs.declared.tree.Signature.{Signature}
use Rattle.nxf_tree.specs.Rows.{Shape}
use Rattle.fin_struct.specs.Limits.{cells_in}
use Rattle.fin_struct.specs.KripkeTables.{KripkeTables, IsKripke, IsKripkeFor}
use Rattle.fin_struct.proofs.CallerLemmas.{classical-shapes}
use Rattle.kripke_text_definitions.specs.Reading.{AreFew}

pub few_of : (sig : Signature) (view : KripkeTables) → IsKripke view → IsKripkeFor sig view → AreFew sig view.worlds view.sizes
few_of sig view is for_sig =
    let shapes = for_sig.shapes ∙ sym (classical-shapes sig view.worlds view.sizes) in
    record {
      few_worlds = is.within.few_worlds;
      few_cells = small _ (subst (λ (c : List Shape). cells_in c ≤ 4194304) shapes is.within.few_cells);
    }
  where
    small : (n : ℕ) → n ≤ 4194304 → min n 18446744073709551615 ≤ 4194304
    small n h = omega arith
