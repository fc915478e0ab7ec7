-- Which file serves which public function:
--   RequestLemmas: `setup_for`. RoomLemmas: what `IsConverted` says of the room. Both are for the one clause of
--     `convert_text`.
--   OrderLemmas: that a stable sort by the day gives the order of entries, for `day_order`.
--   DayLemmas: that the days are those of the entries that a reader gave, for `register_days`.
--   LineLemmas: `records_in_order` and `write`. PickLemmas: `pick`.
pub mod RequestLemmas
pub mod RoomLemmas
mod OrderLemmas
mod DayLemmas
pub mod LineLemmas
pub mod PickLemmas
