-- What other crates cite of the lemmas of this one.
pub use Rattle.syntax_definitions.proofs.Balances.{balance_at_end, balance_is}
pub use Rattle.syntax_definitions.proofs.Levels.{type_is, typing_is, value_is}
pub use Rattle.syntax_definitions.proofs.LevelsOfTrees.{levels_of_And, levels_of_App, levels_of_Modal, levels_of_Not, levels_of_Or, levels_of_Pair, levels_of_Quant}
pub use Rattle.syntax_definitions.proofs.Refusals.{no_argument, no_group, no_many, no_terms, unit_is}
pub use Rattle.syntax_definitions.proofs.RegularTrees.{regular_And, regular_App, regular_Modal, regular_Not, regular_Or, regular_Pair, regular_Quant}
