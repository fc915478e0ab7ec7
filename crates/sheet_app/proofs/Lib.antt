-- Which file serves which public clause of `answer`:
--   CalendarLemmas, ColumnLemmas, EndLemmas, MarkLemmas: what becomes of a sheet, for `answered`.
--   LineLemmas: the lines on sheets, for `answered`.
--   ListLemmas: the sheets of files, one after the other, for `answered`.
--   NameLemmas: the names of outputs, for `answered`. NameListLemmas: what lists dates are read by, for `answered`.
--   RefusedLemmas: `refused`, `only` and `reported`. FaultLemmas: which file a line names, for `reported`. StartLemmas: why
--   a task is not begun, for `only` and `reported`.
--   RegisterLemmas: the outputs of registers, for `answered`.
mod CalendarLemmas
mod ColumnLemmas
mod Common
mod EndLemmas
mod FaultLemmas
mod LineLemmas
mod ListLemmas
mod MarkLemmas
mod NameLemmas
mod NameListLemmas
mod RefusedLemmas
mod RegisterLemmas
mod StartLemmas
mod TaskLemmas
