-- The columns that words name, one after the other.
use Rattle.std.proofs.Common.{◌≡◌, ◌∙◌, ◌+◌, ◌-◌, ◌<◌, ◌≤◌, ◌∷◌, ◌++◌, ℕ, List, [], None, Some, ap}
use Rattle.std.proofs.Common.{arith, get_or, inl, inr, length, length-append, refl, slice_get, sym, subst}
use Rattle.std.proofs.Common.{Contains, Option}
use Rattle.sheet_app.proofs.Common.{DateColumn, NameLine, Task, Text, calendar_words}
use Rattle.std.proofs.lemmas.List.Elements.{Contains-get_or}
use Rattle.std.proofs.lemmas.Option.{get_or_from_slice_get, slice_get_within}
use Rattle.sheets.proofs.TakeLemmas.{appended}
use Rattle.register_records.specs.Entries.{Fields}
use Rattle.sheet_arguments.specs.Requests.{CalendarsWanted, all_have, in_columns}
use Rattle.programs.specs.Values.{number_of}
use Rattle.sheet_app.specs.CalendarWords.{SaysNothing}
use Rattle.sheet_app.specs.Columns.{HoldsOfNone, IsBareWord, IsCalendarField, IsColumn, IsDateColumn}
use Rattle.sheet_app.specs.private.Columns.{IsForWord}
use Rattle.sheet_app.specs.Columns.{IsDateField, IsItsOwn, IsMissing, IsWord, NamesNoColumn, NamesNone}
use Rattle.sheet_app.specs.Columns.{calendar_columns}
use Rattle.sheet_app.specs.declared.columns.ColumnFault.{ColumnFault}
use Rattle.sheet_app.specs.declared.columns.ColumnFault.TheVariants as column_fault

-- this holds of none of the first names, so many
abbrev pub HoldsOfNoneBefore : (Text → Type 0) → Fields → ℕ → Type 0
HoldsOfNoneBefore Holds names n = (index : ℕ) → index < n → ¬ Holds (get_or names index [])

-- these are the columns of dates at the first indices, so many
pub record AreFirstDates (lines : List NameLine) (names : Fields) (task : Task) (columns : List DateColumn) (n : ℕ) : Type 0 where
  pub as_many : length columns ≡ n
  pub each : (index : ℕ) (column : DateColumn) → slice_get columns index ≡ Some column
      → IsDateColumn lines names task index column

pub one_more_date : (lines : List NameLine) (names : Fields) (task : Task) (columns new : List DateColumn) (n : ℕ)
    (column : DateColumn) → AreFirstDates lines names task columns n → IsDateColumn lines names task n column
    → new ≡ columns ++ column ∷ [] → AreFirstDates lines names task new (n + 1)
one_more_date lines names task columns new n column first is more = record {
  as_many = ap length more ∙ omega (arith, first.as_many, length-append columns (column ∷ []));
  each = λ index other at. elim (appended columns column other index (sym (ap (λ l. slice_get l index) more) ∙ at)) [
    | inl old ↦ first.each index other old
    | inr last ↦
        let here : n ≡ index = sym (last.0 ∙ first.as_many) in
        subst (λ c. IsDateColumn lines names task index c) last.1
        (subst (λ k. IsDateColumn lines names task k column) here is)
  ];
}

-- a word that is a number from 1 names the column before it, where no name is the word
pub column_by_number : (names : Fields) (word text bare : Text) (most number : ℕ) → text ≡ word → bare ≡ word
    → most ≡ length names → Some number ≡ number_of most word → 1 ≤ number
    → HoldsOfNone (IsWord text) names → HoldsOfNone (IsBareWord bare) names → IsColumn names word (number - 1)
column_by_number names word text bare most number e f many is low none bare_none =
    let next : number - 1 + 1 ≡ number = omega (arith, low) in
    inr (inr (rw e at none, rw f at bare_none, rw (next, ← many) (sym is)))

pub no_column : (names : Fields) (word text bare : Text) (most : ℕ) → text ≡ word → bare ≡ word
    → most ≡ length names → None ≡ number_of most word
    → HoldsOfNone (IsWord text) names → HoldsOfNone (IsBareWord bare) names → NamesNoColumn names word
no_column names word text bare most e f many is none bare_none = record {
  no_name = rw e at none;
  no_bare_name = rw f at bare_none;
  no_number = rw (← many) (sym is);
}

-- the column of dates that a word asks for
pub date_column : (lines : List NameLine) (names : Fields) (task : Task) (index : ℕ) (word : Text) (column : DateColumn)
    → slice_get task.dates index ≡ Some word → IsDateField names task index word column.date
    → IsCalendarField lines names task.calendars index column.calendar → IsDateColumn lines names task index column
date_column lines names task index word column asked date calendar = record {
  word = word;
  asked = asked;
  date = date;
  calendar = calendar;
}

-- what stands at an index is one of all
one_of : (words : List Text) (index : ℕ) (word : Text) → slice_get words index ≡ Some word → Contains words word
one_of words index word at =
    subst (Contains words) (get_or_from_slice_get words index word [] at)
    (Contains-get_or words index [] (slice_get_within words index word at))

its_own : (words : List Text) (index : ℕ) (word : Text) → IsItsOwn words index word → Contains words word
its_own words index word (inl h) = one_of words 0 word h.1
its_own words index word (inr h) = one_of words index word h.1

-- the word of a column of calendars is missing, and one that says no calendar
pub missing_column : (lines : List NameLine) (names : Fields) (task : Task) (words own : List Text)
    (otherwise : Option Text) (index : ℕ) (word : Text) → task.calendars ≡ in_columns words otherwise → own ≡ words
    → IsItsOwn own index word → NamesNone names word → IsMissing lines names task word
missing_column lines names task words own otherwise index word wanted same is none =
    let among : Contains words word = subst (λ l. Contains l word) same (its_own own index word is) in
    inl (inr (inr (subst (λ (c : CalendarsWanted). Contains (calendar_columns c) word) (sym wanted) among)), none)

pub missing_calendar : (lines : List NameLine) (names : Fields) (task : Task) (words own : List Text) (index : ℕ)
    (word : Text) (why : ColumnFault) → task.calendars ≡ all_have words → own ≡ words → IsItsOwn own index word
    → IsForWord (λ other. (other ≡ word) × SaysNothing lines other) why → IsForWord (IsMissing lines names task) why
missing_calendar lines names task words own index word column_fault.OutOfMemory wanted same is h = tt
missing_calendar lines names task words own index word (column_fault.NoColumn other) wanted same is h =
    let among : Contains words word = subst (λ l. Contains l word) same (its_own own index word is) in
    let said : Contains (calendar_words task.calendars) word
    = subst (λ (c : CalendarsWanted). Contains (calendar_words c) word) (sym wanted) among in
    inr (inl (subst (Contains (calendar_words task.calendars)) (sym h.0) said, h.1))

pub missing_else : (lines : List NameLine) (names : Fields) (task : Task) (words : List Text) (otherwise : Option Text)
    (why : ColumnFault) → task.calendars ≡ in_columns words otherwise
    → IsForWord (λ other. (otherwise ≡ Some other) × SaysNothing lines other) why
    → IsForWord (IsMissing lines names task) why
missing_else lines names task words otherwise column_fault.OutOfMemory wanted h = tt
missing_else lines names task words otherwise (column_fault.NoColumn other) wanted h =
    let calendars : task.calendars ≡ in_columns words (Some other.now)
    = wanted ∙ ap (λ (word : Option Text). in_columns words word) h.0 in
    inr (inl (
      subst (λ (c : CalendarsWanted). Contains (calendar_words c) other.now) (sym calendars)
          (one_of (other.now ∷ []) 0 other.now refl),
      h.1,
    ))

-- and that of ids
pub missing_id : (lines : List NameLine) (names : Fields) (task : Task) (why : ColumnFault)
    → IsForWord (λ word. (task.id ≡ Some word) × NamesNone names word) why → IsForWord (IsMissing lines names task) why
missing_id lines names task column_fault.OutOfMemory h = tt
missing_id lines names task (column_fault.NoColumn word) h = inl (inl h.0, h.1)
