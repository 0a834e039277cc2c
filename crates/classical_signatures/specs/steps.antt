pub mod ExistenceTable
