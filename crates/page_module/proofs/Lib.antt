-- ChoiceLemmas: what numbers ask of a sheet, for `column_of`. EndingLemmas: what becomes of a sheet, and why nothing does.
-- DayReportLemmas: what is reported of a register that was gone over, for `register_days`.
pub mod ChoiceLemmas
mod EndingLemmas
mod DayReportLemmas
