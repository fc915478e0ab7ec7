-- What serves private clauses and proofs alone: no public clause reaches it.
pub mod CivilReading
pub mod LongReading
pub mod LongText
pub mod Reading
pub mod RomanReading
