pub mod LedgerTable
pub mod EntryNumbers
