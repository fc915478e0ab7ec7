-- What is asked of a sheet, and the choice that it makes with names and headings.
use Rattle.std.specs.Prelude.{◌≡◌, ◌≢◌, ℕ, true, false, List, [], get_or, length, map, nat_lt}
use Rattle.register_records.specs.Entries.{Fields, text_records}
use Rattle.register_records.specs.SetupRules.{is_delimiter}
use Rattle.written_dates.specs.Fields.{bare_name, entries}
use Rattle.written_dates.specs.declared.fields.CalendarMeaning.{CalendarMeaning}
use Rattle.written_dates.specs.declared.fields.CalendarName.{CalendarName}
use Rattle.written_dates.specs.declared.meanings.Name.{Name}
use Rattle.written_dates.specs.declared.written.Choice.{Choice}
use Rattle.sheets.specs.Choices.{AsksOnce, HasDates, added, column_limit}
use Rattle.sheets.specs.Headings.{AreHeadings, wanted_headings}
use Rattle.sheets.specs.NameLists.{calendar_names_in, calendar_seen, name_seen, names_in_dates}
use Rattle.sheets.specs.declared.asked_of_sheets.AskedByNames.{AskedByNames}
use Rattle.sheets.specs.declared.asked_of_sheets.AskedOfSheet.{AskedOfSheet}
use Rattle.sheets.specs.declared.choices.AskedColumn.{AskedColumn}
use Rattle.sheets.specs.declared.choices.ChoiceFault.{ChoiceFault}
use Rattle.sheets.specs.declared.choices.ChoiceFault.TheVariants as fault
use Rattle.sheets.specs.declared.choices.DateColumn.{DateColumn}
use Rattle.sheets.specs.declared.choices.IdField.{IdField}
use Rattle.sheets.specs.declared.choices.SheetChoice.{SheetChoice}
use Rattle.sheets.specs.declared.choices.Spans.{Spans}
use Rattle.sheets.specs.declared.name_lists.NameLine.{NameLine}

-- what is asked of a sheet
pub record SheetAsked : Type 0 where
  pub delimiter : ℕ
  pub above : ℕ
  pub id : IdField
  pub reading : Choice
  pub spans : Spans
  pub dates : List DateColumn
  pub columns : List AskedColumn

-- the choice is what is asked of a sheet, with these names in dates, these of calendars, and these headings
pub record IsChoiceOf (asked : SheetAsked) (names : List Name) (calendars : List (List ℕ × CalendarMeaning))
    (headings : Fields) (choice : SheetChoice) : Type 0 where
  pub delimiter : choice.delimiter ≡ asked.delimiter
  pub above : choice.above ≡ asked.above
  pub id : choice.id ≡ asked.id
  pub dates : choice.dates.now ≡ asked.dates
  pub columns : choice.columns.now ≡ asked.columns
  pub headings_are : map (λ heading. heading.now) choice.headings.now ≡ headings
  pub reading : choice.reading ≡ asked.reading
  pub spans : choice.spans ≡ asked.spans
  pub names_are : choice.names.now.listed.now ≡ names
  pub calendars_are : entries choice.calendars.now ≡ calendars

-- these are the headings for what is asked of a sheet
abbrev pub HasHeadings : SheetAsked → List ℕ → Fields → Type 0
HasHeadings asked sheet headings =
    let own = get_or (text_records asked.delimiter sheet) asked.above [] in
    AreHeadings own (wanted_headings asked.dates asked.spans asked.columns own) headings

-- the choice is what is asked of a sheet, by the names of these lines
pub record IsListedChoice (asked : SheetAsked) (lines : List NameLine) (sheet : List ℕ) (choice : SheetChoice)
    : Type 0 where
  pub in_dates : List Name
  pub of_calendars : List CalendarName
  pub headings : Fields
  pub dates_listed : map name_seen in_dates ≡ names_in_dates lines
  pub calendars_listed : map calendar_seen of_calendars ≡ calendar_names_in lines
  pub headed : HasHeadings asked sheet headings
  pub chosen : IsChoiceOf asked in_dates (map bare_name of_calendars) headings choice

-- nothing is wrong with a choice
pub record IsChoice (choice : SheetChoice) : Type 0 where
  pub dated : HasDates choice
  pub once : AsksOnce choice
  pub delimited : is_delimiter choice.delimiter ≡ true
  pub headed : length choice.headings.now ≡ added choice

-- the first fault of a choice is this
abbrev pub HasFault : SheetChoice → ChoiceFault → Type 0
HasFault choice fault.Dates = ¬ (HasDates choice)
HasFault choice fault.TooManyColumns = HasDates choice × (nat_lt column_limit (length choice.columns.now) ≡ true)
HasFault choice fault.ColumnTwice =
    HasDates choice × (nat_lt column_limit (length choice.columns.now) ≡ false) × ¬ (AsksOnce choice)
HasFault choice fault.Delimiter = HasDates choice × AsksOnce choice × (is_delimiter choice.delimiter ≡ false)
HasFault choice fault.Headings =
    HasDates choice × AsksOnce choice × (is_delimiter choice.delimiter ≡ true)
    × (length choice.headings.now ≢ added choice)

-- what a value asks
abbrev pub asked_in : AskedOfSheet → SheetAsked
asked_in asked =
    record {
      delimiter = asked.delimiter;
      above = asked.above;
      id = asked.id;
      reading = asked.reading;
      spans = asked.spans;
      dates = asked.dates.items;
      columns = asked.columns.items;
    }

-- the choice is what a value asks, with its names and headings
abbrev pub IsChoiceBy : AskedByNames → SheetChoice → Type 0
IsChoiceBy by =
    IsChoiceOf (asked_in by.asked) by.names.listed.now (entries by.calendars)
    (map (λ heading. heading.now) by.headings.items)
