-- Why nothing comes of what is asked.
use Rattle.std.specs.Prelude.{◌≡◌, ◌⊎◌, ⊤, IsSome, None}
use Rattle.sheets.specs.AskedOfSheets.{IsChoice}
use Rattle.sheets.specs.declared.sheet_ends.SheetCause.{SheetCause}
use Rattle.sheets.specs.declared.sheet_ends.SheetCause.TheVariants as cause
use Rattle.page_module.specs.SheetChoices.{asked_by}
use Rattle.page_module.specs.SheetTables.{EndsAsked, HasFault}
use Rattle.page_module.specs.declared.choices.SheetRequest.{SheetRequest}
use Rattle.page_module.specs.declared.sheet_tables.SheetEnding.{SheetEnding}
use Rattle.page_module.specs.declared.sheet_tables.SheetEnding.TheVariants as ending

-- before there is a choice with which nothing is wrong
abbrev pub EndsEarly : SheetRequest → SheetEnding → Type 0
EndsEarly request ending.NoMemory = ⊤
EndsEarly request ending.NameList = IsSome (asked_by request) × HasFault request.names.now
EndsEarly request ending.Choice = (asked_by request ≡ None) ⊎ EndsAsked IsChoice request ending.Choice
EndsEarly request other = ⊥

abbrev pub ending_by : SheetCause → SheetEnding
ending_by cause.NoMemory = ending.NoMemory
ending_by cause.SinkFault = ending.NoMemory
ending_by cause.NoNames = ending.NoNames
ending_by cause.TooManyRecords = ending.TooManyRecords
