-- Which file serves which public clause:
--   LineLemmas: that lines are the text of their fields, for `write`. ListLemmas: what is left of a list of fields.
--   SheetLemmas: `pick`, and that records come one after the other.
--   MeaningLemmas, NameListLemmas: `NameList::read`. HeadingLemmas: `headings`. StopLemmas, FoundLemmas,
--     NoteLemmas: `unknown_names`.
--   UndatedLemmas: `undated_is_not_unread`. The others: `convert_outputs`.
pub mod Common
pub mod ListLemmas
pub mod LineLemmas
pub mod SheetLemmas
pub mod MeaningLemmas
pub mod NameListLemmas
pub mod SendingLemmas
pub mod NameLemmas
pub mod CountLemmas
pub mod RowLemmas
pub mod OwnCalendarLemmas
pub mod DateLemmas
pub mod AcceptedLemmas
pub mod LawLemmas
pub mod UndatedLemmas
pub mod AskedLemmas
pub mod AskedOfSheetLemmas
pub mod HeadingLemmas
pub mod StopLemmas
pub mod FoundLemmas
pub mod ReadingLemmas
pub mod NoteLemmas
pub mod LineWriterLemmas
pub mod TopLemmas
pub mod EachLemmas
pub mod TakeLemmas
pub mod OutputLemmas
