pub mod GrammarLaws
