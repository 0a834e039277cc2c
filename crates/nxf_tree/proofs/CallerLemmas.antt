-- What other crates cite of the lemmas of this one.
pub use Rattle.nxf_tree.proofs.Depths.{formula_depth_of_And, formula_depth_of_Modal, formula_depth_of_Not, formula_depth_of_Or, formula_depth_of_Pair, formula_depth_of_Quant, term_depth_of_App}
