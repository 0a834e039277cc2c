use Rattle.std.proofs.Common.{ap, ◌∙◌, sym}
use Rattle.nxf_tree.specs.declared.tree.SortName.TheVariants.{User}
use Rattle.nxf_tree.specs.Counting.{has}
use Rattle.nxf_tree.specs.Signature.{same_sort, sort_names}
use Rattle.nxf_signatures.specs.Naming.{Naming}
use Rattle.nxf_signatures.proofs.PlaceLemmas.{sort_there}
use Rattle.nxf_signatures.proofs.names.Names.has_sort.Goals as goal

pub returns : goal.returns
returns c =
    let x = c.args.name.now in
    c.has_sort.ensures
    ∙ sort_there c.self.inside.tables.individual x c.self.inside.tables.declarations.sorts.keys
    ∙ sym (ap (λ (n : Naming). has same_sort (User x) (sort_names n.signature.sorts)) (sym c.self.view_is) ∙ ap (has same_sort (User x)) c.self.invariant.sorts)
