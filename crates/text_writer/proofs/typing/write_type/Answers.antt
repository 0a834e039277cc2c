use Rattle.std.proofs.Common.{ℕ, List, subst, ◌∙◌}
use Rattle.std.specs.Prelude.{OnErr}
use Rattle.std.specs.Io.{StartsWith}
use Rattle.text_writer.proofs.Starts.{kept_after}
use Rattle.text_writer.proofs.typing.write_type.Goals as goal
use Rattle.text_writer.proofs.typing.write_type.Goals.{in-empty, in-len1+in_ok-write_sort-in-len1+in_ok-put-in-len1, in_default+in_ok-put-in_default+in_ok-write_sorts-in_default+in_ok-put-in_default-2}

pub returns-clause-kept : goal.returns-clause-kept
returns-clause-kept c =
    let r = c.write_result.result in
    let old = c.args.out.now.items in
    let held = c.if-args-lt1.out.items in
    let new = c.write_result.new.out.items in
    elim c.if-args-lt1.branch [
      | in-empty w ↦ subst (λ (text : List ℕ). OnErr r (StartsWith new text)) (λ i. (w.out-is i).items) c.write_result.ensures.kept
      | in-len1+in_ok-write_sort-in-len1+in_ok-put-in-len1 w ↦
          let sort = w.write_sort.new.out.items in
          kept_after r old sort new _ w.in_ok-write_sort-in-len1.ensures.text
          (kept_after r sort held new _ ((λ i. (w.out-is i).items) ∙ w.in_ok-put-in-len1.ensures.text) c.write_result.ensures.kept)
      | in_default+in_ok-put-in_default+in_ok-write_sorts-in_default+in_ok-put-in_default-2 w ↦
          let bracket = w.put-in_default.new.out.items in
          let sorts = w.write_sorts.new.out.items in
          kept_after r old bracket new _ w.in_ok-put-in_default.ensures.text
          (kept_after r bracket sorts new _ w.in_ok-write_sorts-in_default.ensures.text
          (kept_after r sorts held new _ ((λ i. (w.out-is i).items) ∙ w.in_ok-put-in_default-2.ensures.text) c.write_result.ensures.kept))
    ]
