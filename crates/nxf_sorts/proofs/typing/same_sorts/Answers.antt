use Rattle.std.proofs.Common.{◌≡◌, ℕ, ◌+◌, ◌<◌, true, false, List, ◌∷◌, length, drop, Some, arith, ap, ◌∙◌, sym}
use Rattle.std.specs.Prelude.{◌&&◌, slice_get}
use Rattle.std.specs.Cmp.Lexicographic.{pointwise}
use Rattle.std.proofs.lemmas.List.{at_drop_more}
use Rattle.std.proofs.lemmas.Option.{get_or_from_slice_get}
use Rattle.nxf_tree.specs.declared.tree.SortName.{SortName}
use Rattle.nxf_tree.specs.Signature.{same_sort}
use Rattle.nxf_sorts.proofs.typing.same_sorts.Goals as goal

got : (xs : List SortName) (i : ℕ) (x : SortName) → i < length xs → slice_get xs i ≡ Some x → drop i xs ≡ x ∷ drop (i + 1) xs
got xs i x lt h = at_drop_more (λ l. l) xs i x lt ∙ ap (λ y. y ∷ drop (i + 1) xs) (get_or_from_slice_get xs i x x h)

pub returns-then-not-same_sort : goal.returns-then-not-same_sort
returns-then-not-same_sort c =
    let a = c.args.a.now in
    let b = c.args.b.now in
    let i = c.loop-at.at in
    let x = c.get.result.now in
    let y = c.get-in-loop-at.result.now in
    let left : drop i a ≡ x ∷ drop (i + 1) a = got a i x (omega (arith, c.loop-at-test.true, c.len-at-end.ensures)) c.get.ensures in
    let right : drop i b ≡ y ∷ drop (i + 1) b = got b i y (omega (arith, c.loop-at-test.true, c.len-at-end.ensures, c.if-len.false, c.len.ensures, c.len-2.ensures)) c.get-in-loop-at.ensures in
    let test : same_sort x y ≡ false = sym c.same_sort.ensures ∙ c.if-not-same_sort.true in
    let here : pointwise same_sort a b ≡ (same_sort x y && pointwise same_sort (drop (i + 1) a) (drop (i + 1) b)) = c.loop-at.invariant ∙ (λ j. pointwise same_sort (left j) (right j)) in
    sym (here ∙ ap (λ t. t && pointwise same_sort (drop (i + 1) a) (drop (i + 1) b)) test)

pub loop-at-preserved : goal.loop-at-preserved
loop-at-preserved c =
    let a = c.args.a.now in
    let b = c.args.b.now in
    let i = c.loop-at.at in
    let x = c.get.result.now in
    let y = c.get-in-loop-at.result.now in
    let left : drop i a ≡ x ∷ drop (i + 1) a = got a i x (omega (arith, c.loop-at-test.true, c.len-at-end.ensures)) c.get.ensures in
    let right : drop i b ≡ y ∷ drop (i + 1) b = got b i y (omega (arith, c.loop-at-test.true, c.len-at-end.ensures, c.if-len.false, c.len.ensures, c.len-2.ensures)) c.get-in-loop-at.ensures in
    let test : same_sort x y ≡ true = sym c.same_sort.ensures ∙ c.if-not-same_sort.false in
    let here : pointwise same_sort a b ≡ (same_sort x y && pointwise same_sort (drop (i + 1) a) (drop (i + 1) b)) = c.loop-at.invariant ∙ (λ j. pointwise same_sort (left j) (right j)) in
    here ∙ ap (λ t. t && pointwise same_sort (drop (i + 1) a) (drop (i + 1) b)) test
