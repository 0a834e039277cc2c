-- The cases of a numbered formula as the code makes and matches them, and rows as lists.
use Rattle.std.proofs.Common.{◌≡◌, ℕ, List, ◌∷◌, refl, ap, ◌∙◌}
use Rattle.std.specs.Option.{option_map}
use Rattle.nxf_tree.specs.declared.tree.Signature.{Signature}
use Rattle.nxf_tree.specs.declared.tree.Term.{App}
use Rattle.nxf_tree.specs.declared.tree.Formula.{And, Or}
use Rattle.numbered_definitions.specs.declared.node.NTerm.{NTerm, Row_of-NTerm, end_of-NTerm, more_of-NTerm}
use Rattle.numbered_definitions.specs.declared.node.NTerm as numbered
use Rattle.numbered_definitions.specs.declared.node.NTerm.TheBlock.{hidden-the_row-NTerm-0, items-the_row-NTerm, items_hidden-the_row-NTerm-0}
use Rattle.numbered_definitions.specs.declared.node.Node.{Node, Row_of-Node, end_of-Node, more_of-Node}
use Rattle.numbered_definitions.specs.declared.node.Node as node
use Rattle.numbered_definitions.specs.declared.node.Node.TheBlock.{hidden-the_row-Node-1, items-the_row-Node, items_hidden-the_row-Node-1}
use Rattle.numbered_definitions.specs.NamedForm.{both, symbol_name, named_term, named_row, named_terms, named_form, named_nodes, named_forms}

module _ (sig : Signature) (xs : List (List ℕ)) where
  row_is : {m : _} (ns : Row_of-NTerm m) → named_row sig xs ns ≡ named_terms sig xs (items-the_row-NTerm _ ns)
  row_is end_of-NTerm = refl
  row_is (more_of-NTerm n ns) = ap (both (λ t ts. t ∷ ts) (named_term sig xs n)) (row_is ns)

  pub of_App : (k : ℕ) (ns : List NTerm) → named_term sig xs (numbered.App k ns) ≡ both App (symbol_name sig k) (named_terms sig xs ns)
  of_App k ns = ap (both App (symbol_name sig k)) (row_is (hidden-the_row-NTerm-0 ns) ∙ ap (named_terms sig xs) (items_hidden-the_row-NTerm-0 ns))

  node_row_is : {m : _} (ns : Row_of-Node m) → named_nodes sig xs ns ≡ named_forms sig xs (items-the_row-Node _ ns)
  node_row_is end_of-Node = refl
  node_row_is (more_of-Node n ns) = ap (both (λ t ts. t ∷ ts) (named_form sig xs n)) (node_row_is ns)

  pub of_And : (ns : List Node) → named_form sig xs (node.And ns) ≡ option_map And (named_forms sig xs ns)
  of_And ns = ap (option_map And) (node_row_is (hidden-the_row-Node-1 ns) ∙ ap (named_forms sig xs) (items_hidden-the_row-Node-1 ns))

  pub of_Or : (ns : List Node) → named_form sig xs (node.Or ns) ≡ option_map Or (named_forms sig xs ns)
  of_Or ns = ap (option_map Or) (node_row_is (hidden-the_row-Node-1 ns) ∙ ap (named_forms sig xs) (items_hidden-the_row-Node-1 ns))
