pub mod FileSignature
