-- The names in a sheet that are not known, and how many of its dates were not read.
use Rattle.std.specs.Prelude.{◌≡◌, ◌≤◌, ◌<◌, ◌==◌, ◌&&◌, ℕ, Bool, true, false, not, nat_lt, List, [], ◌∷◌}
use Rattle.std.specs.Prelude.{Option, None, Some, codes, count_by, filter, get_or, length, map, option_to_list, take}
use Rattle.std.specs.Fmt.{decimal}
use Rattle.std.specs.List.{AllZip, flat_map, list_any}
use Rattle.std.specs.Option.{option_eq}
use Rattle.date_texts.specs.Calendars.{calendar_name}
use Rattle.date_texts.specs.declared.calendar.Calendar.{Calendar}
use Rattle.register_records.specs.Entries.{Fields, record_limit}
use Rattle.written_dates.specs.Calendars.{place}
use Rattle.written_dates.specs.Words.{same_word}
use Rattle.date_spans.specs.declared.sayings.Kind.{Kind}
use Rattle.date_spans.specs.declared.sayings.Kind.TheVariants as kinds
use Rattle.date_spans.specs.declared.spans.Marks.{Marks}
use Rattle.sheets.specs.CalendarChanges.{EndText}
use Rattle.sheets.specs.DateEnds.{AreEnds}
use Rattle.sheets.specs.Converted.{below}
use Rattle.sheets.specs.DateStops.{DateStop, IsStopOf, NameStop, SheetDate, count_of, is_for, name_in}
use Rattle.sheets.specs.Sheets.{records_text}
use Rattle.sheets.specs.declared.choices.SheetChoice.{SheetChoice}
use Rattle.sheets.specs.declared.reasons.Reason.{Reason}
use Rattle.sheets.specs.declared.stopped_names.UnknownName.{UnknownName}
use Rattle.sheets.specs.declared.unread_dates.UnreadDates.{UnreadDates}

-- the dates of these records: of each in order, those of the columns of dates
abbrev pub dates_of : SheetChoice → Fields → List SheetDate
dates_of choice fields = map (λ column. (column, fields)) choice.dates.now

abbrev pub all_dates : SheetChoice → List Fields → List SheetDate
all_dates choice records = flat_map (dates_of choice) records

-- the names among what stopped dates
abbrev pub names_in : List (Option DateStop) → List NameStop
names_in stops = flat_map (λ stop. option_to_list (name_in stop)) stops

-- two stops are alike: in the same calendar, with names that are the same to a reader
abbrev pub is_same : Option Calendar → Option Calendar → Bool
is_same a b = option_eq (λ x y. place x == place y) a b

abbrev pub is_alike : NameStop → NameStop → Bool
is_alike a b = is_same a.1 b.1 && same_word a.0 b.0

-- of the stops that are alike the first ones, in order
abbrev pub firsts : List NameStop → List NameStop
firsts [] = []
firsts (stop ∷ stops) = stop ∷ filter (λ other. not (is_alike stop other)) (firsts stops)

-- a name, its calendar, and how many of the stops are alike to it
abbrev pub NameCount : Type 0
NameCount = List ℕ × Option Calendar × ℕ

abbrev pub counted : List NameStop → NameStop → NameCount
counted stops name = (name.0, name.1, count_by (is_alike name) stops)

abbrev pub name_seen : UnknownName → NameCount
name_seen name = (name.name.items, name.calendar, name.count)

-- a stop is alike to none of these
abbrev pub is_other : List NameStop → NameStop → Bool
is_other names stop = not (list_any (λ name. is_alike name stop) names)

-- of the stops these are the first names, at most so many, with their counts, and so many stops are of other names
pub record AreNames (most : ℕ) (stops : List NameStop) (names : List NameCount) (more : ℕ) : Type 0 where
  pub names_are : names ≡ map (counted stops) (take most (firsts stops))
  pub more_are : more ≡ count_by (is_other (take most (firsts stops))) stops

-- a field is not empty, and nothing is written for it
abbrev pub is_emptied : List ℕ → List ℕ → Bool
is_emptied field date = nat_lt 0 (length field) && (length date == 0)

-- ends may be open by what the words say: that the day lies before a date, which may be the first one that a calendar
-- has, or after it; or that no date is known
abbrev pub says_open : Kind → Bool
says_open kinds.Before = true
says_open kinds.After = true
says_open kinds.Undated = true
says_open kind = false

-- both ends of a field are left empty, as its year is short
abbrev pub is_short_by : List ℕ → List ℕ → List ℕ → Marks → Bool
is_short_by field first last marks = is_emptied field first && is_emptied field last && not (says_open marks.kind)

pub record IsShort (choice : SheetChoice) (date : SheetDate) (short : Bool) : Type 0 where
  pub first : EndText
  pub last : EndText
  pub marks : Marks
  pub ends : AreEnds choice date.0 date.1 first last marks
  pub is : short ≡ is_short_by (get_or date.1 date.0.date []) first.text last.text marks

-- of these dates, which these stopped, so many were stopped by a name, so many are left empty for their short year, and so
-- many stay for each reason
pub record AreCounts (choice : SheetChoice) (dates : List SheetDate) (stops : List (Option DateStop))
    (unread : UnreadDates) : Type 0 where
  pub stopped_are : unread.stopped ≡ length (names_in stops)
  pub shorts : List Bool
  pub are_short : AllZip (IsShort choice) dates shorts
  pub short_are : unread.short ≡ count_by (λ short. short) shorts
  pub reasons_are : (reason : Reason) → count_of unread.reasons reason ≡ count_by (is_for reason) stops

-- so many of these dates were not read
pub record AreUnread (choice : SheetChoice) (dates : List SheetDate) (unread : UnreadDates) : Type 0 where
  pub stops : List (Option DateStop)
  pub are_stops : AllZip (IsStopOf choice) dates stops
  pub counts : AreCounts choice dates stops unread

-- those are the dates below the names of a sheet
abbrev pub AreUnreadIn : SheetChoice → List Fields → UnreadDates → Type 0
AreUnreadIn choice records unread = AreUnread choice (all_dates choice (below choice records)) unread

-- the first names that are not known in these dates, at most so many, how many dates others stopped, and how many dates
-- were not read
pub record IsFound (choice : SheetChoice) (dates : List SheetDate) (most : ℕ) (names : List NameCount) (more : ℕ)
    (unread : UnreadDates) : Type 0 where
  pub stops : List (Option DateStop)
  pub are_stops : AllZip (IsStopOf choice) dates stops
  pub named : AreNames most (names_in stops) names more
  pub counts : AreCounts choice dates stops unread

-- what is not known in the dates below the names of a sheet
pub record IsUnknown (choice : SheetChoice) (records : List Fields) (most : ℕ) (names : List NameCount) (more : ℕ)
    (unread : UnreadDates) : Type 0 where
  pub has_names : choice.above < length records
  pub limited : length (below choice records) ≤ record_limit
  pub found : IsFound choice (all_dates choice (below choice records)) most names more unread

-- the list of names to fill in: each with `?`, its calendar, and its count
abbrev pub in_text : Option Calendar → List ℕ
in_text None = []
in_text (Some calendar) = calendar_name calendar

abbrev pub name_record : NameCount → Fields
name_record name = name.0 ∷ codes "?" ∷ in_text name.1 ∷ decimal name.2 ∷ []

abbrev pub list_head : Fields
list_head = codes "name" ∷ codes "means" ∷ codes "in" ∷ codes "count" ∷ []

abbrev pub list_text : List NameCount → List ℕ
list_text names = records_text 44 (list_head ∷ map name_record names)
