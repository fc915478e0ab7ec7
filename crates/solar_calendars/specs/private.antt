-- What serves private clauses and proofs alone: no public clause reaches it.
pub mod IsoWeekLaw
pub mod Julian
pub mod RomanPlaces
