pub mod NamedForm
