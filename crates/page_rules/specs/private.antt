-- What serves private clauses and proofs alone: no public clause reaches it.
pub mod Conversions
pub mod FieldViews
pub mod RecordViews
