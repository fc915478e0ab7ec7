-- The Sunday or feast that the day of a row is, in the church year of the row's calendar.
use Rattle.std.specs.Prelude.{ℤ, ℕ, List, [], Option, Some, Result, Ok}
use Rattle.std.specs.Option.{option_and_then}
use Rattle.std.specs.Result.{result_ok}
use Rattle.church_days.specs.Cells.{church_text}
use Rattle.date_texts.specs.declared.calendar.Calendar.{Calendar}
use Rattle.date_texts.specs.declared.refusal.Refusal.{Refusal}
use Rattle.register_records.specs.Outcomes.{TableRow}
use Rattle.sheets.specs.Choices.{calendar_called}

-- the calendar that the texts of a row name
abbrev pub row_calendar : TableRow → Option Calendar
row_calendar row = option_and_then (λ texts. calendar_called texts.calendar) (result_ok row.body)

-- the name of a day in a calendar; nothing where there is no calendar or no day
abbrev pub church_on : Option Calendar → Result ℤ Refusal → List ℕ
church_on (Some calendar) (Ok n) = church_text calendar n
church_on calendar outcome = []

abbrev pub church_shown : TableRow → List ℕ
church_shown row = church_on (row_calendar row) row.outcome
