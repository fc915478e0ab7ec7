-- Why a date is not read.
use Rattle.std.specs.Prelude.{◌≡◌, ◌≢◌, ◌⊎◌, ◌≤◌, ◌++◌, length, ℕ, zero, suc, false, List, [], ◌∷◌, Option, None, Some, map}
use mathlib.Core.Logic.{inl, inr}
use Rattle.std.specs.Fmt.{decimal}
use Rattle.date_texts.specs.declared.calendar.Calendar.{Calendar}
use Rattle.date_texts.specs.Calendars.{all_calendars}
use Rattle.register_records.specs.Entries.{text_records}
use Rattle.sheets.specs.NameLists.{IsFaultOf, name_seen, names_in_dates}
use Rattle.sheets.specs.declared.name_lists.NameListFault.{NameListFault}
use Rattle.sheets.specs.declared.name_lists.NameListFault.TheVariants as fault
use Rattle.sheets.specs.declared.name_lists.NameLine.{NameLine}
use Rattle.sheets.specs.DateStops.{DateStop, IsStopIn, reason_number}
use Rattle.sheets.specs.declared.reasons.Reason.TheVariants as reasons
use Rattle.written_dates.specs.Stops.{beside}
use Rattle.written_dates.specs.Written.{written}
use Rattle.written_dates.specs.declared.meanings.Name.{Name}
use Rattle.written_dates.specs.declared.rules.Order.{Order}
use Rattle.written_dates.specs.declared.rules.Order.TheVariants.{YearFirst, DayFirst, MonthFirst}
use Rattle.written_dates.specs.declared.written.Choice.{Choice}
use Rattle.written_dates.specs.declared.written.Short.TheVariants.{Keep}

-- the order of a number
abbrev pub order_by : ℕ → Order
order_by zero = YearFirst
order_by (suc zero) = DayFirst
order_by (suc (suc n)) = MonthFirst

-- how one date is read: in this order, with its year as it stands
abbrev pub choice_by : ℕ → Choice
choice_by order =
    record {
      order = order_by order;
      short_years = Keep;
      short_hebrew_years = Keep;
      short_other_years = Keep;
      charters = false;
    }

-- why nothing is said of a date: memory ran out, the text is no list of names, or there is no such calendar
abbrev pub IsEnding : ℕ → List ℕ → ℕ → Type 0
IsEnding calendar names ending =
    (ending ≡ 1)
    ⊎ ((ending ≡ 2) × (why : NameListFault) × (why ≢ fault.OutOfMemory) × IsFaultOf (text_records 44 names) why)
    ⊎ ((ending ≡ 3) × (length all_calendars ≤ calendar))

-- the number of what stops a date: 0 for nothing, 1 to 9 for a reason, and 10 for a name that is not known
abbrev pub stop_number : Option DateStop → ℕ
stop_number None = 0
stop_number (Some (inr reason)) = reason_number reason
stop_number (Some (inl name)) = 10

-- a date as three numbers
abbrev pub plain_date : Option (ℕ × ℕ × ℕ) → List ℕ
plain_date None = []
plain_date (Some date) = decimal date.0 ++ (45 ∷ (decimal date.1 ++ (45 ∷ decimal date.2)))

-- the name that stops a text, or the date that it says beside another weekday
abbrev pub blamed : Choice → Calendar → List Name → List ℕ → Option DateStop → List ℕ
blamed choice calendar names text (Some (inl name)) = name.0
blamed choice calendar names text (Some (inr reasons.OtherWeekday)) =
    plain_date (beside choice calendar names text)
blamed choice calendar names text stop = []

-- this number is that of what stops a text of a calendar, by the names of a list, and this is to blame
pub record IsStopped (list : List NameLine) (choice : Choice) (calendar : Calendar) (text : List ℕ) (number : ℕ)
    (blame : List ℕ) : Type 0 where
  pub names : List Name
  pub listed : map name_seen names ≡ names_in_dates list
  pub stop : Option DateStop
  pub is_stop : IsStopIn choice calendar names text (written choice (Some calendar) names text) stop
  pub number_is : number ≡ stop_number stop
  pub blame_is : blame ≡ blamed choice calendar names text stop
