use Rattle.std.proofs.Common.{List, [], ◌∷◌, ◌++◌, ap, ◌∙◌}
use Rattle.std.specs.Prelude.{map}
use Rattle.std.proofs.lemmas.List.{map_more, take_all}
use Rattle.nxf_tree.specs.declared.tree.SortEntry.{SortEntry}
use Rattle.nxf_tree.specs.declared.tree.SortName.TheVariants.{User}
use Rattle.nxf_tree.specs.Names.{user_sort, world_name}
use Rattle.classical_signatures.proofs.TableSteps.{sorts-named}
use Rattle.classical_signatures.proofs.classical_signature.classical_sorts.Goals as goal

pub loop-sort-preserved : goal.loop-sort-preserved
loop-sort-preserved c =
    let more = map_more (λ (e : SortEntry). user_sort e.name) c.as_slice-sort-items.result.now c.loop-sort.sort-index c.sort-item.result c.loop-sort-test.true in
    rw (more, ← c.sort-item.is, ← c.in_ok-user_sort.ensures) (c.in_ok-push-2.ensures.pushed ∙ ap (λ made. made ++ c.in_ok-user_sort.field-0 ∷ []) c.loop-sort.invariant)

pub returns : goal.returns
returns c =
    c.loop-sort.invariant
    ∙ ap (λ (entries : List SortEntry). User world_name ∷ map (λ (e : SortEntry). user_sort e.name) entries) (take_all _ _ c.loop-sort-test.false ∙ c.as_slice-sort-items.ensures)
    ∙ ap (λ rest. User world_name ∷ rest) (sorts-named c.args.sorts.now)
