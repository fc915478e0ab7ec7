-- What serves private clauses and proofs alone: no public clause reaches it.
pub mod Carried
pub mod Cases
pub mod Histories
pub mod JoinedThreads
pub mod MetCauses
pub mod Popped
pub mod Stripes
pub mod Written
