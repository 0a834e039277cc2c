pub mod CallerLemmas
pub mod ExpressionLemmas
pub mod GrowingLemmas
pub mod PuttingLemmas
pub mod ReadingLemmas
pub mod StoredLemmas
