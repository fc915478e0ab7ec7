-- What serves private clauses and proofs alone: no public clause reaches it.
pub mod BareTexts
pub mod Entries
pub mod LineRoom
pub mod LineViews
pub mod ReadingState
pub mod Records
pub mod Retrying
pub mod RowTails
pub mod Seen
pub mod SourceTables
pub mod TableColumns
pub mod TargetRanks
pub mod Tails
