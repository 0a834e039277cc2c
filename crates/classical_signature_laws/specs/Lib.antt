pub mod ClassicalSignatures
