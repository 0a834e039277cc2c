pub mod WorldTests
