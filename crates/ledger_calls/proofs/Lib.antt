pub mod LedgerTables
pub mod LedgerRows
pub mod EntryNumbers
