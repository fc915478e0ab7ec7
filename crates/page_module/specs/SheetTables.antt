-- What becomes of a sheet for a page.
use Rattle.std.specs.Prelude.{◌≡◌, ◌≢◌, ◌⊎◌, ◌==◌, ◌≤◌, ◌<◌, ⊤, ℕ, List, IsSome, None, Some, if◌then◌else◌, length}
use Rattle.std.specs.Prelude.{slice_get}
use Rattle.register_records.specs.Entries.{Fields, record_limit, text_records}
use Rattle.sheets.specs.AskedOfSheets.{IsChoice, IsListedChoice, SheetAsked}
use Rattle.sheets.specs.Converted.{IsWholeSheet, below}
use Rattle.sheets.specs.NameLists.{IsFaultOf, IsListOf}
use Rattle.sheets.specs.Registers.{IsRegister}
use Rattle.sheets.specs.UnknownNames.{AreUnreadIn, IsUnknown, NameCount, list_text}
use Rattle.sheets.specs.declared.choices.DateColumn.{DateColumn}
use Rattle.sheets.specs.declared.choices.End.{End}
use Rattle.sheets.specs.declared.choices.End.TheVariants.{First, Last}
use Rattle.sheets.specs.declared.choices.SheetChoice.{SheetChoice}
use Rattle.sheets.specs.declared.date_counts.SheetCounts.{SheetCounts}
use Rattle.sheets.specs.declared.name_lists.NameLine.{NameLine}
use Rattle.sheets.specs.declared.name_lists.NameListFault.{NameListFault}
use Rattle.sheets.specs.declared.name_lists.NameListFault.TheVariants as fault
use Rattle.sheets.specs.declared.unread_dates.UnreadDates.{UnreadDates}
use Rattle.page_module.specs.SheetChoices.{asked_by}
use Rattle.page_module.specs.declared.choices.SheetRequest.{SheetRequest}
use Rattle.page_module.specs.declared.sheet_tables.SheetEnding.{SheetEnding}
use Rattle.page_module.specs.declared.sheet_tables.SheetEnding.TheVariants as ending

-- the number of an ending
abbrev pub ending_number : SheetEnding → ℕ
ending_number ending.NoMemory = 1
ending_number ending.NameList = 2
ending_number ending.Choice = 3
ending_number ending.NoNames = 4
ending_number ending.TooManyRecords = 5

-- the choice is what is asked of a sheet
pub record IsAsked (request : SheetRequest) (choice : SheetChoice) : Type 0 where
  pub asked : SheetAsked
  pub list : List NameLine
  pub by_numbers : asked_by request ≡ Some asked
  pub by_names : IsListOf (text_records 44 request.names.now) list
  pub chosen : IsListedChoice asked list request.sheet.now choice

-- nothing is wrong with a choice, nor with the place of one of its columns of dates
abbrev pub IsChoiceAt : ℕ → SheetChoice → Type 0
IsChoiceAt place choice = IsChoice choice × (place < length choice.dates.now)

-- what is asked of a sheet is a choice with which nothing is wrong, and this is so of it and of the sheet's records
abbrev pub IsMadeOf : SheetRequest → (SheetChoice → List Fields → Type 0) → Type 0
IsMadeOf request IsSo =
    (choice : SheetChoice) × IsAsked request choice × IsChoice choice
    × IsSo choice (text_records choice.delimiter request.sheet.now)

-- the sheet that comes back for what is asked
abbrev pub IsAskedSheet : SheetRequest → ℕ → SheetCounts → UnreadDates → List ℕ → Type 0
IsAskedSheet request count counts unread bytes =
    IsMadeOf request (λ choice records. IsWholeSheet choice records count counts bytes
    × AreUnreadIn choice records unread)

-- the end of dates of a number
abbrev pub end_by : ℕ → End
end_by n = if n == 0 then First else Last

-- the register of the first or the last days of a column of dates for what is asked
abbrev pub IsAskedRegister : SheetRequest → ℕ → End → List ℕ → Type 0
IsAskedRegister request place end bytes =
    IsMadeOf request (λ choice records. (column : DateColumn) × (count : ℕ)
    × (slice_get choice.dates.now place ≡ Some column) × IsRegister choice column end records count bytes)

-- the list of the first names that are not known for what is asked, at most so many, how many dates others stopped, and
-- how many dates were not read
abbrev pub IsAskedUnknown : SheetRequest → ℕ → List ℕ → ℕ → UnreadDates → Type 0
IsAskedUnknown request most bytes more unread =
    IsMadeOf request (λ choice records. (found : List NameCount) × IsUnknown choice records most found more unread
    × (bytes ≡ list_text found))

-- why nothing comes of a sheet by a choice, which must be one that P holds of
abbrev pub EndsBy : (SheetChoice → Type 0) → SheetChoice → List ℕ → SheetEnding → Type 0
EndsBy P choice sheet ending.NoMemory = ⊤
EndsBy P choice sheet ending.NameList = ⊥
EndsBy P choice sheet ending.Choice = ¬ (P choice)
EndsBy P choice sheet ending.NoNames = P choice × (length (text_records choice.delimiter sheet) ≤ choice.above)
EndsBy P choice sheet ending.TooManyRecords =
    P choice × (record_limit < length (below choice (text_records choice.delimiter sheet)))

-- the text is no list of names
abbrev pub HasFault : List ℕ → Type 0
HasFault names = (why : NameListFault) × (why ≢ fault.OutOfMemory) × IsFaultOf (text_records 44 names) why

-- nothing comes of a sheet for a choice that is asked
abbrev pub EndsAsked : (SheetChoice → Type 0) → SheetRequest → SheetEnding → Type 0
EndsAsked P request why = (choice : SheetChoice) × IsAsked request choice × EndsBy P choice request.sheet.now why

-- why nothing comes of what is asked of a sheet, whose choice must be one that P holds of
abbrev pub EndsFor : (SheetChoice → Type 0) → SheetRequest → SheetEnding → Type 0
EndsFor P request ending.NoMemory = ⊤
EndsFor P request ending.NameList = IsSome (asked_by request) × HasFault request.names.now
EndsFor P request ending.Choice = (asked_by request ≡ None) ⊎ EndsAsked P request ending.Choice
EndsFor P request other = EndsAsked P request other

-- the number is that of an ending for which this is so
abbrev pub IsEndingOf : (SheetEnding → Type 0) → ℕ → Type 0
IsEndingOf P number = (why : SheetEnding) × (number ≡ ending_number why) × P why
