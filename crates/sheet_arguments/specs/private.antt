-- What serves private clauses and proofs alone: no public clause reaches it.
pub mod ThreeColumns
pub mod Requests
