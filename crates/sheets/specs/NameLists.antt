-- Lists of names: a CSV text with the columns `name`, `means` and `in`, by a form of this project.
use Rattle.std.specs.Prelude.{◌≡◌, ◌≢◌, ◌+◌, ◌==◌, ◌++◌, ℕ, Bool, true, false, List, [], ◌∷◌, ⊤, All, Any, codes}
use Rattle.std.specs.Prelude.{get_or, length, map, Option, None, Some, IsUtf8}
use Rattle.std.specs.List.{AllZip, flat_map, list_any, slice_split}
use Rattle.std.specs.Str.{bytes_eq, str_to_ascii_lowercase}
use Rattle.date_texts.specs.Calendars.{all_calendars, calendar_name}
use Rattle.date_texts.specs.Names.{IsNamed}
use Rattle.date_texts.specs.Trimmed.{trimmed}
use Rattle.date_texts.specs.declared.calendar.Calendar.{Calendar}
use Rattle.register_records.specs.Entries.{Fields}
use Rattle.written_dates.specs.declared.fields.CalendarMeaning.{CalendarMeaning}
use Rattle.written_dates.specs.declared.fields.CalendarName.{CalendarName}
use Rattle.written_dates.specs.declared.meanings.Calendars.{Calendars}
use Rattle.written_dates.specs.declared.meanings.Meaning.{Meaning}
use Rattle.written_dates.specs.declared.meanings.Name.{Name}
use Rattle.written_dates.specs.Names.{is_name}
use Rattle.sheets.specs.NameMeanings.{Says}
use Rattle.sheets.specs.Sheets.{chosen}
use Rattle.sheets.specs.declared.name_meanings.Means.{Means}
use Rattle.sheets.specs.declared.name_meanings.Means.TheVariants as means
use Rattle.sheets.specs.declared.name_lists.NameLine.{NameLine}
use Rattle.sheets.specs.declared.name_lists.NameListFault.{NameListFault}
use Rattle.sheets.specs.declared.name_lists.NameListFault.TheVariants as fault

-- the names in a field: what stands between its spaces (32)
abbrev pub names_in : List ℕ → List (List ℕ)
names_in field = slice_split (λ b. b == 32) field

-- a name is that of a calendar
abbrev pub IsCalendar : List ℕ → Type 0
IsCalendar name = (calendar : Calendar) × IsNamed name (calendar_name calendar)

-- the name is the calendar's
abbrev pub is_named : List ℕ → Calendar → Bool
is_named name calendar = bytes_eq (str_to_ascii_lowercase (trimmed name)) (calendar_name calendar)

-- for each calendar, whether one of these names is its own
abbrev pub named_by : List (List ℕ) → List Bool
named_by names = map (λ calendar. list_any (λ name. is_named name calendar) names) all_calendars

-- a name holds in all calendars where the field `in` is empty, and else in those that it names
pub record HoldsIn (field : List ℕ) (calendars : Calendars) : Type 0 where
  pub everywhere : field ≡ [] → calendars.held ≡ map (λ calendar. true) all_calendars
  pub named : field ≢ [] → calendars.held ≡ named_by (names_in field)
  pub known : field ≢ [] → All IsCalendar (names_in field)

-- the field names something that is no calendar
abbrev pub HasUnknown : List ℕ → Type 0
HasUnknown field = Any (λ name. ¬ IsCalendar name) (names_in field)

-- a text can mean this: what means something in dates has a number or a word, and no character that no date has
abbrev pub can_mean : List ℕ → Means → Bool
can_mean text (means.InDates meaning) = is_name text
can_mean text other = true

-- the record says this of a name
pub record IsLine (fields : Fields) (line : NameLine) : Type 0 where
  pub text : line.text.items ≡ get_or fields 0 []
  pub says : Says (get_or fields 1 []) line.means
  pub can : can_mean line.text.items line.means ≡ true
  pub holds : HoldsIn (get_or fields 2 []) line.calendars

-- these records say this of names, one for one
abbrev pub AreLines : List Fields → List NameLine → Type 0
AreLines records lines = AllZip IsLine records lines

-- the names of the first columns
abbrev pub columns : List (List ℕ)
columns = codes "name" ∷ codes "means" ∷ codes "in" ∷ []

-- these lines are the list that the records of a text are
abbrev pub IsListOf : List Fields → List NameLine → Type 0
IsListOf [] lines = ⊥
IsListOf (header ∷ records) lines = (chosen (0 ∷ 1 ∷ 2 ∷ []) header ≡ columns) × AreLines records lines

-- the field says nothing of a name: it is no text, or says none of what can be said
abbrev pub SaysNothing : List ℕ → Type 0
SaysNothing field = IsUtf8 field → (means : Means) → ¬ Says field means

abbrev pub NamesOther : List ℕ → Type 0
NamesOther field = IsUtf8 field → HasUnknown field

-- what the record says of a name, the name cannot mean
abbrev pub IsNoName : Fields → Type 0
IsNoName fields = (means : Means) × Says (get_or fields 1 []) means × (can_mean (get_or fields 0 []) means ≡ false)

-- the record with this number is none of a list, for this reason: its means says nothing; or else its in names
-- something that is no calendar; or else its name cannot mean it
abbrev pub IsRefused : Fields → ℕ → NameListFault → Type 0
IsRefused fields number fault.OutOfMemory = ⊤
IsRefused fields number fault.Header = ⊥
IsRefused fields number (fault.Means n) = (n ≡ number) × SaysNothing (get_or fields 1 [])
IsRefused fields number (fault.In n) =
    (n ≡ number) × ((means : Means) × Says (get_or fields 1 []) means) × NamesOther (get_or fields 2 [])
IsRefused fields number (fault.Name n) =
    (n ≡ number) × ((calendars : Calendars) × HoldsIn (get_or fields 2 []) calendars) × IsNoName fields

-- behind records that are lines stands one that is none
pub record IsRefusedBehind (records : List Fields) (why : NameListFault) : Type 0 where
  pub before : List Fields
  pub after : List Fields
  pub fields : Fields
  pub lines : List NameLine
  pub cut : records ≡ before ++ fields ∷ after
  pub are_lines : AreLines before lines
  pub refused : IsRefused fields (length before + 1) why

-- the first fault of a list
abbrev pub IsFaultOf : List Fields → NameListFault → Type 0
IsFaultOf records fault.OutOfMemory = ⊤
IsFaultOf [] fault.Header = ⊤
IsFaultOf (header ∷ records) fault.Header = chosen (0 ∷ 1 ∷ 2 ∷ []) header ≢ columns
IsFaultOf [] other = ⊥
IsFaultOf (header ∷ records) other = (chosen (0 ∷ 1 ∷ 2 ∷ []) header ≡ columns) × IsRefusedBehind records other

-- a name that means something in dates: what it is, what it means, and where
abbrev pub name_seen : Name → List ℕ × Meaning × Calendars
name_seen name = (name.text.now, name.meaning, name.calendars)

abbrev pub in_dates : NameLine → Means → List (List ℕ × Meaning × Calendars)
in_dates line (means.InDates meaning) = (line.text.items, meaning, line.calendars) ∷ []
in_dates line other = []

-- the names of a list that mean something in dates
abbrev pub names_in_dates : List NameLine → List (List ℕ × Meaning × Calendars)
names_in_dates lines = flat_map (λ line. in_dates line line.means) lines

abbrev pub calendar_seen : CalendarName → List ℕ × CalendarMeaning
calendar_seen name = (name.text.now, name.meaning)

-- what a name means in the field of a calendar, if it does
abbrev pub calendar_in : Means → Option CalendarMeaning
calendar_in (means.Calendar meaning) = Some meaning
calendar_in other = None

abbrev pub of_calendar : NameLine → Option CalendarMeaning → List (List ℕ × CalendarMeaning)
of_calendar line None = []
of_calendar line (Some meaning) = (line.text.items, meaning) ∷ []

-- the names of a list that mean something there
abbrev pub calendar_names_in : List NameLine → List (List ℕ × CalendarMeaning)
calendar_names_in lines = flat_map (λ line. of_calendar line (calendar_in line.means)) lines
