-- The day and the calendar of a record, in numbers.
use Rattle.std.specs.Prelude.{◌≡◌, ◌≤◌, ◌<◌, ◌⊎◌, ◌↔◌, ◌++◌, ◌+ℤ◌, ℕ, ℤ, pos, List, [], Result, Ok, Err, Some, None}
use Rattle.std.specs.Prelude.{drop, length, map, slice_get}
use Rattle.std.specs.List.{AllZip}
use Rattle.date_texts.specs.Calendars.{all_calendars, calendar_name}
use Rattle.date_texts.specs.Names.{IsNamed}
use Rattle.date_texts.specs.declared.calendar.Calendar.{Calendar}
use Rattle.date_texts.specs.declared.refusal.Refusal.{Refusal}
use Rattle.date_texts.specs.declared.target.Target.{Target}
use Rattle.page_rules.specs.declared.day_orders.TheConstants.{NO_DAY}
use Rattle.register_records.specs.Entries.{HasFirstEntries, Numbered, Reading, Texts}
use Rattle.register_records.specs.Outcomes.{IsRowOf, TableRow}
use Rattle.page_rules.specs.declared.entry_days.EntryDay.{EntryDay}
use Rattle.page_rules.specs.declared.entry_days.TheConstants.{NO_CALENDAR}

-- the day of an outcome: how many days the day lies behind R.D. -3652424, the first that there is; a refusal has none
abbrev pub IsDayOf : Result ℤ Refusal → ℕ → Type 0
IsDayOf (Ok n) day = pos day ≡ n +ℤ pos 3_652_424
IsDayOf (Err r) day = day ≡ NO_DAY

-- the calendar at this place, from 0, is the one that the text names; where it names none, there is none
pub record IsPlaceOf (text : List ℕ) (place : ℕ) : Type 0 where
  pub named : (calendar : Calendar) → (slice_get all_calendars place ≡ Some calendar) ↔ IsNamed text (calendar_name calendar)
  pub none : slice_get all_calendars place ≡ None → place ≡ NO_CALENDAR

-- the calendar of a body; one that was refused has none
abbrev pub IsCalendarOf : Result Texts Refusal → ℕ → Type 0
IsCalendarOf (Ok t) place = IsPlaceOf t.calendar place
IsCalendarOf (Err r) place = place ≡ NO_CALENDAR

-- the day and the calendar of a row
pub record IsEntryDay (row : TableRow) (it : EntryDay) : Type 0 where
  pub day : IsDayOf row.outcome it.day
  pub calendar : IsCalendarOf row.body it.calendar

-- those of the rows of these entries, one for each in order
pub record AreDaysOf (targets : List Target) (entries : List Numbered) (days : List EntryDay) : Type 0 where
  pub rows : List TableRow
  pub converted : AllZip (IsRowOf targets) entries rows
  pub told : AllZip IsEntryDay rows days

-- those of entries that are as said
abbrev pub HasDays : (List Numbered → Type 0) → List Target → List EntryDay → Type 0
HasDays AreAsSaid targets days = (entries : List Numbered) × AreAsSaid entries × AreDaysOf targets entries days

-- those of the first entries of the text, or none
abbrev pub ArePartOf : Reading → List Target → List ℕ → List EntryDay → Type 0
ArePartOf reading targets text days = (days ≡ []) ⊎ HasDays (HasFirstEntries reading (Some text)) targets days

-- rooms for days and for calendars have those of these entries at their fronts, and behind them what was there; or both
-- are as they were, where one is too small
pub record PutsDays (entries : List EntryDay) (days_old days_new calendars_old calendars_new : List ℕ) : Type 0 where
  pub put : length entries ≤ length days_old → length entries ≤ length calendars_old
      → (days_new ≡ map (λ (it : EntryDay). it.day) entries ++ drop (length entries) days_old)
      × (calendars_new ≡ map (λ (it : EntryDay). it.calendar) entries ++ drop (length entries) calendars_old)
  pub kept : (length days_old < length entries) ⊎ (length calendars_old < length entries)
      → (days_new ≡ days_old) × (calendars_new ≡ calendars_old)
