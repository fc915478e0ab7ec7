-- Which file serves which public clause:
--   StripeLemmas, CarriedLemmas, GivenLemmas: that the rows that were taken from a source's lanes are those of its
--     entries; the fields `table` and `part` of `report`. That each lane carries what the machine deals to its stripe,
--     in order.
--   HistoryLemmas, upon these: that some schedule of the machine has the histories of these lanes; the clause
--     `machine`. The law `every_schedule`, from that of the machine in lane_rings.
--   RunningSourceLemmas, EndedSourceLemmas: that the writer goes by the machine's turns, and what is known of one
--     source and its output; the fields of `IsWhole` and `IsBroken`.
--   HeadlineLemmas: from there to the clauses `report` and `machine` of `run` and `run_gated`. That each source had as
--     many stripes as its setup, with lanes of the setup's ring; the clause `threads`.
-- Common passes on the names that several of these files cite.
pub mod Common
pub mod CarriedLemmas
pub mod StripeLemmas
pub mod GivenLemmas
pub mod HistoryLemmas
pub mod RunningSourceLemmas
pub mod EndedSourceLemmas
pub mod HeadlineLemmas
