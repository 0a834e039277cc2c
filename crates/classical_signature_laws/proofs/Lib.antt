pub mod ClassicalSorts
