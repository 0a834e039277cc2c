use Rattle.std.proofs.Common.{◌≡◌, ◌≤◌, length, get_or, ap, sym, ◌∙◌}
use Rattle.nxf_tree.specs.declared.tree.SortName.TheVariants.{Individual}
use Rattle.nxf_tree.specs.Problem.{classical_sort_at}
use Rattle.nxf_embed.proofs.Declaring.{classical_sort_is, classical_sort_past}
use Rattle.nxf_embed.proofs.declare.sort_at.Goals as goal

pub returns-in-Some : goal.returns-in-Some
returns-in-Some c =
    let there : c.in-Some.sort.now ≡ classical_sort_at c.args.sorts.now c.args.number =
    c.in-Some.ensures.lookup.3.1 Individual
    ∙ ap (λ sorts. get_or sorts c.args.number Individual) c.as_slice.ensures
    ∙ sym (classical_sort_is c.args.sorts.now c.args.number) in
    rw (← there) c.copy.ensures

pub returns-in-None : goal.returns-in-None
returns-in-None c =
    let past : length c.args.sorts.now ≤ c.args.number = rw c.as_slice.ensures at c.in-None.ensures.lookup.3 in
    classical_sort_past c.args.sorts.now c.args.number past
