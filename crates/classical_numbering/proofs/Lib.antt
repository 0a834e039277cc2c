pub mod FormulaLemmas
pub mod LevelLemmas
pub mod NameLemmas
pub mod ProblemLemmas
pub mod SortLemmas
pub mod TermLemmas
