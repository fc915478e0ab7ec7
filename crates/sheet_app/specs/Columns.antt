-- The columns of a sheet that words name.
use Rattle.std.specs.Prelude.{◌≡◌, ◌≢◌, ◌≤◌, ◌<◌, ◌+◌, ◌^◌, ◌⊎◌, ℕ, Contains, List, [], Option, None, Some, get_or, length}
use Rattle.std.specs.Prelude.{◌==◌, ◌&&◌, Bool, false, is_some, slice_get, true}
use Rattle.clap.specs.Words.{Text}
use Rattle.programs.specs.Values.{number_of}
use Rattle.register_records.specs.Entries.{Fields}
use Rattle.sheets.specs.declared.choices.CalendarColumn.{CalendarColumn}
use Rattle.sheets.specs.declared.choices.CalendarField.{CalendarField}
use Rattle.sheets.specs.declared.choices.CalendarField.TheVariants as calendar
use Rattle.sheets.specs.declared.choices.DateColumn.{DateColumn}
use Rattle.sheets.specs.declared.choices.IdField.{IdField}
use Rattle.sheets.specs.declared.choices.IdField.TheVariants as id
use Rattle.sheets.specs.declared.name_lists.NameLine.{NameLine}
use Rattle.sheet_arguments.specs.Requests.{CalendarsWanted, Task, all_have, in_columns}
use Rattle.written_dates.specs.Fields.{without_blanks}
use Rattle.written_dates.specs.declared.fields.CalendarMeaning.{CalendarMeaning}
use Rattle.sheet_app.specs.CalendarWords.{SaysBy, SaysNothing, calendar_words}

-- at this index stands the first of these names of which this holds
pub record IsFirst (Holds : Text → Type 0) (names : Fields) (index : ℕ) : Type 0 where
  pub there : index < length names
  pub holds : Holds (get_or names index [])
  pub first : (earlier : ℕ) → earlier < index → ¬ Holds (get_or names earlier [])

-- it holds of none of them
abbrev pub HoldsOfNone : (Text → Type 0) → Fields → Type 0
HoldsOfNone Holds names = (index : ℕ) → index < length names → ¬ Holds (get_or names index [])

-- the name is this word, or it is so without the blanks at the ends of both
abbrev pub IsWord : Text → Text → Type 0
IsWord word name = name ≡ word

abbrev pub IsBareWord : Text → Text → Type 0
IsBareWord word name = without_blanks name ≡ without_blanks word

-- the word names the column at this index, from 0: the first with this name; where there is none, the first with this
-- name but for blanks; and where there is none either, the one with this number
abbrev pub IsColumn : Fields → Text → ℕ → Type 0
IsColumn names word index =
    IsFirst (IsWord word) names index
    ⊎ (HoldsOfNone (IsWord word) names × IsFirst (IsBareWord word) names index)
    ⊎ (HoldsOfNone (IsWord word) names × HoldsOfNone (IsBareWord word) names
    × (number_of (length names) word ≡ Some (index + 1)))

-- the word names no column
pub record NamesNoColumn (names : Fields) (word : Text) : Type 0 where
  pub no_name : HoldsOfNone (IsWord word) names
  pub no_bare_name : HoldsOfNone (IsBareWord word) names
  pub no_number : number_of (length names) word ≡ None

-- it names none, or only one whose index has more than 32 bits
abbrev pub NamesNone : Fields → Text → Type 0
NamesNone names word = NamesNoColumn names word ⊎ ((index : ℕ) × IsColumn names word index × (2 ^ 32 ≤ index))

-- ids are in the column of a word, or without one the numbers of the records
abbrev pub IsIdField : Fields → Option Text → IdField → Type 0
IsIdField names None field = field ≡ id.Number
IsIdField names (Some word) field = (index : ℕ) × (field ≡ id.Column index) × IsColumn names word index

-- this is the only one of a list, or the one at the index
abbrev pub IsItsOwn : {A : Type 0} → List A → ℕ → A → Type 0
IsItsOwn xs index x = ((length xs ≡ 1) × (slice_get xs 0 ≡ Some x)) ⊎ ((length xs ≢ 1) × (slice_get xs index ≡ Some x))

-- what a word says for empty fields by the names of these lines, if there is one
abbrev pub SaysElse : List NameLine → Option Text → Option CalendarMeaning → Type 0
SaysElse lines None meant = meant ≡ None
SaysElse lines (Some word) meant = (meaning : CalendarMeaning) × (meant ≡ Some meaning) × SaysBy lines word meaning

-- the calendars of the column of dates at an index
abbrev pub IsCalendarField : List NameLine → Fields → CalendarsWanted → ℕ → CalendarField → Type 0
IsCalendarField lines names (in_columns words otherwise) index field =
    (word : Text) × IsItsOwn words index word × (column : CalendarColumn) × (field ≡ calendar.Column column)
    × IsColumn names word column.place × SaysElse lines otherwise column.otherwise
IsCalendarField lines names (all_have words) index field =
    (word : Text) × IsItsOwn words index word × (meaning : CalendarMeaning) × (field ≡ calendar.All meaning)
    × SaysBy lines word meaning

-- the word at an index is that of the dates which are joined of three columns, and stand behind all others
abbrev pub is_joined : Task → ℕ → Bool
is_joined task index = is_some task.three && (index + 1 == length task.dates)

-- the dates of the word at an index are in the column at this place
abbrev pub IsDateField : Fields → Task → ℕ → Text → ℕ → Type 0
IsDateField names task index word place =
    ((is_joined task index ≡ false) × IsColumn names word place)
    ⊎ ((is_joined task index ≡ true) × (place + 1 ≡ length names))

-- the column of dates at an index
pub record IsDateColumn (lines : List NameLine) (names : Fields) (task : Task) (index : ℕ) (column : DateColumn)
    : Type 0 where
  pub word : Text
  pub asked : slice_get task.dates index ≡ Some word
  pub date : IsDateField names task index word column.date
  pub calendar : IsCalendarField lines names task.calendars index column.calendar

-- the columns of dates that are asked for, by the names of these lines
pub record AreDateColumns (lines : List NameLine) (names : Fields) (task : Task) (columns : List DateColumn)
    : Type 0 where
  pub as_many : length columns ≡ length task.dates
  pub each : (index : ℕ) (column : DateColumn) → slice_get columns index ≡ Some column
      → IsDateColumn lines names task index column

-- the words that are to name columns of calendars, and those of which each column of dates has its own or all have one
abbrev pub calendar_columns : CalendarsWanted → List Text
calendar_columns (in_columns words otherwise) = words
calendar_columns (all_have words) = []

abbrev pub own_words : CalendarsWanted → List Text
own_words (in_columns words otherwise) = words
own_words (all_have words) = words

-- a task has this word to name a column: that of ids, or one of dates or of calendars
abbrev pub IsToNameColumn : Task → Text → Type 0
IsToNameColumn task word =
    (task.id ≡ Some word) ⊎ Contains task.dates word ⊎ Contains (calendar_columns task.calendars) word

-- there are neither one of these words nor as many as columns of dates
abbrev pub AreTooFew : Task → List Text → Type 0
AreTooFew task words = (length words ≢ 1) × (length words < length task.dates)

-- there is no last name, or its index has more than 32 bits
abbrev pub HasNoLast : Fields → Type 0
HasNoLast names = (length names ≡ 0) ⊎ (2 ^ 32 < length names)

-- for this word of a task there is no column among these names: it is to name one and names none, or is to say a calendar
-- and says none by the names of these lines; or there is no word for a column of dates, which is told as an empty one;
-- or it is that of joined dates
abbrev pub IsMissing : List NameLine → Fields → Task → Text → Type 0
IsMissing lines names task word =
    (IsToNameColumn task word × NamesNone names word)
    ⊎ (Contains (calendar_words task.calendars) word × SaysNothing lines word)
    ⊎ ((word ≡ []) × AreTooFew task (own_words task.calendars))
    ⊎ ((is_some task.three ≡ true) × Contains task.dates word × HasNoLast names)
