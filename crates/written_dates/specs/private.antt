-- What serves private clauses and proofs alone: no public clause reaches it.
pub mod ItemViews
pub mod Keys
pub mod SignViews
pub mod WordViews
