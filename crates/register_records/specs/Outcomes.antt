-- What becomes of an entry: its day and its cells, or the first refusal that applies.
use Rattle.std.specs.Prelude.{◌≡◌, ℕ, ℤ, List, [], Result, Ok, Err}
use Rattle.std.specs.List.{AllZip}
use Rattle.day_numbers.specs.Days.{IsDayNumber}
use Rattle.date_texts.specs.Calendars.{calendar_name}
use Rattle.date_texts.specs.Cells.{IsCell}
use Rattle.date_texts.specs.Dates.{IsDateOfCalendar, day_number_of_date}
use Rattle.date_texts.specs.DateText.{IsDateText}
use Rattle.register_records.specs.Entries.{Numbered, Texts}
use Rattle.date_texts.specs.Names.{IsNamed}
use Rattle.date_texts.specs.declared.calendar.Calendar.{Calendar}
use Rattle.date_texts.specs.declared.target.Target.{Target}
use Rattle.date_texts.specs.declared.date.Date.{Date}
use Rattle.date_texts.specs.declared.refusal.Refusal.{Refusal}
use Rattle.date_texts.specs.declared.refusal.Refusal.TheVariants as refusal

-- a calendar has this name, and the text says this date in it
pub record Says (name text : List ℕ) (calendar : Calendar) (date : Date) : Type 0 where
  pub named : IsNamed name (calendar_name calendar)
  pub dated : IsDateText calendar text date

-- the outcome of a body: the first refusal that applies, or the number of the day
pub data IsOutcome : Result Texts Refusal → Result ℤ Refusal → Type 0 where
  refused : {r : Refusal} → IsOutcome (Err r) (Err r)
  unknown_calendar : {t : Texts} → ((calendar : Calendar) → ¬ (IsNamed t.calendar (calendar_name calendar)))
      → IsOutcome (Ok t) (Err refusal.UnknownCalendar)
  no_date_text : {t : Texts} (calendar : Calendar) → IsNamed t.calendar (calendar_name calendar)
      → ((date : Date) → ¬ (IsDateText calendar t.date date)) → IsOutcome (Ok t) (Err refusal.DateText)
  no_such_date : {t : Texts} (calendar : Calendar) (date : Date) → Says t.calendar t.date calendar date
      → ¬ (IsDateOfCalendar date) → IsOutcome (Ok t) (Err refusal.NoSuchDate)
  out_of_range : {t : Texts} (calendar : Calendar) (date : Date) → Says t.calendar t.date calendar date
      → IsDateOfCalendar date → ¬ (IsDayNumber (day_number_of_date date)) → IsOutcome (Ok t) (Err refusal.OutOfRange)
  accepted : {t : Texts} (calendar : Calendar) (date : Date) → Says t.calendar t.date calendar date
      → IsDateOfCalendar date → IsDayNumber (day_number_of_date date) → IsOutcome (Ok t) (Ok (day_number_of_date date))

-- the cells of an outcome: on a day one for each target in order; a refused row has none
abbrev pub AreCells : List Target → Result ℤ Refusal → List (List ℕ) → Type 0
AreCells targets (Ok n) cells = AllZip (λ target cell. IsCell target n cell) targets cells
AreCells targets (Err r) cells = cells ≡ []

-- a row: the number and the body of its entry, its outcome and its cells
pub record TableRow : Type 0 where
  pub number : ℕ
  pub body : Result Texts Refusal
  pub outcome : Result ℤ Refusal
  pub cells : List (List ℕ)

-- a row is the row of an entry
pub record IsRowOf (targets : List Target) (entry : Numbered) (row : TableRow) : Type 0 where
  pub number : row.number ≡ entry.number
  pub body : row.body ≡ entry.body
  pub outcome : IsOutcome entry.body row.outcome
  pub cells : AreCells targets row.outcome row.cells
