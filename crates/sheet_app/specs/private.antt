-- What serves private clauses and proofs alone: no public clause reaches it.
pub mod Answers
pub mod Columns
pub mod Conversions
pub mod EndedSheets
pub mod FileSheets
pub mod Lines
pub mod SheetViews
pub mod Sheets
