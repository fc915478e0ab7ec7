-- What is asked of a sheet, and why nothing comes of it.
use Rattle.std.proofs.Common.{◌≡◌, ◌≤◌, ◌<◌, ◌++◌, ◌∙◌, ℕ, List, [], Some, ap, inl, inr, length, map, refl, sym}
use Rattle.register_records.specs.Entries.{Fields, record_limit, text_records}
use Rattle.sheets.specs.AskedOfSheets.{HasHeadings, IsChoice, IsChoiceBy, SheetAsked, asked_in}
use Rattle.sheets.specs.Converted.{below}
use Rattle.sheets.specs.NameLists.{IsListOf, calendar_names_in, calendar_seen, name_seen, names_in_dates}
use Rattle.sheets.specs.declared.asked_of_sheets.AskedByNames.{AskedByNames}
use Rattle.sheets.specs.declared.choices.SheetChoice.{SheetChoice}
use Rattle.sheets.specs.declared.name_lists.NameLine.{NameLine}
use Rattle.sheets.specs.declared.sheet_ends.SheetCause.{SheetCause}
use Rattle.sheets.specs.declared.sheet_ends.SheetCause.TheVariants as causes
use Rattle.sheets.proofs.AskedOfSheetLemmas.{listed_choice}
use Rattle.written_dates.specs.Fields.{bare_name, entries}
use Rattle.written_dates.specs.declared.fields.CalendarName.{CalendarName}
use Rattle.written_dates.specs.declared.meanings.Name.{Name}
use Rattle.page_module.specs.private.KnownViews.{EndsEarly, ending_by}
use Rattle.page_module.specs.SheetChoices.{asked_by}
use Rattle.page_module.specs.SheetTables.{EndsBy, EndsFor, IsAsked}
use Rattle.page_module.specs.declared.choices.SheetRequest.{SheetRequest}
use Rattle.page_module.specs.declared.sheet_tables.SheetEnding.{SheetEnding}
use Rattle.page_module.specs.declared.sheet_tables.SheetEnding.TheVariants as ending

-- a choice by what was made of a request is asked by it
pub choice_asked : (request : SheetRequest) (known : AskedByNames) (asked : SheetAsked) (list : List NameLine)
    (in_dates : List Name) (of_calendars : List CalendarName) (headings : Fields) → asked_by request ≡ Some asked
    → IsListOf (text_records 44 request.names.now) list → map name_seen in_dates ≡ names_in_dates list
    → map calendar_seen of_calendars ≡ calendar_names_in list → HasHeadings asked request.sheet.now headings
    → asked_in known.asked ≡ asked → known.names.listed.now ≡ in_dates
    → entries known.calendars ≡ map bare_name of_calendars
    → map (λ heading. heading.now) known.headings.items ≡ headings
    → (choice : SheetChoice) → IsChoiceBy known choice → IsAsked request choice
choice_asked request known asked list in_dates of_calendars headings by_numbers by_names dates calendars headed ea en ec eh
    choice is = record {
      asked = asked;
      list = list;
      by_numbers = by_numbers;
      by_names = by_names;
      chosen = listed_choice known asked list request.sheet.now in_dates of_calendars headings choice dates calendars headed ea
          en ec eh is;
    }

-- what is asked ends as its choice does
pub ends_asked : (P : SheetChoice → Type 0) (request : SheetRequest) (choice : SheetChoice) → IsAsked request choice
    → (why : SheetEnding) → EndsBy P choice request.sheet.now why → EndsFor P request why
ends_asked P request choice is ending.NoMemory by = tt
ends_asked P request choice is ending.NameList by = absurd by
ends_asked P request choice is ending.Choice by = inr (choice, is, by)
ends_asked P request choice is why by = (choice, is, by)

-- and where there is no choice, for each that must be more than a choice
pub ends_early : (P : SheetChoice → Type 0) → ((choice : SheetChoice) → P choice → IsChoice choice)
    → (request : SheetRequest) (why : SheetEnding) → EndsEarly request why → EndsFor P request why
ends_early P more request ending.NoMemory by = tt
ends_early P more request ending.NameList by = by
ends_early P more request ending.Choice (inl none) = inl none
ends_early P more request ending.Choice (inr (choice, is, refused)) =
    inr (choice, is, λ holds. refused (more choice holds))
ends_early P more request why by = absurd by

-- the ending for a cause
pub ends_by_cause : (P : SheetChoice → Type 0) (sheet : List ℕ) (choice : SheetChoice) (cause : SheetCause)
    (why : SheetEnding) → why ≡ ending_by cause → P choice
    → (cause ≡ causes.NoNames → length (text_records choice.delimiter sheet) ≤ choice.above)
    → (cause ≡ causes.TooManyRecords → record_limit < length (below choice (text_records choice.delimiter sheet)))
    → EndsBy P choice sheet why
ends_by_cause P sheet choice causes.NoNames why e holds none more = rw e (holds, none refl)
ends_by_cause P sheet choice causes.TooManyRecords why e holds none more = rw e (holds, more refl)
ends_by_cause P sheet choice cause why e holds none more = rw e tt

-- the whole text of an output that was empty is what was made
pub made_whole : (given written text : List ℕ) (Made : List ℕ → Type 0)
    → (bytes : List ℕ) × Made bytes × (written ≡ given ++ bytes) → given ≡ [] → text ≡ written → Made text
made_whole given written text Made (bytes, made, gained) empty whole =
    let same : text ≡ bytes = whole ∙ gained ∙ ap (λ l. l ++ bytes) empty in rw (sym same) at made
