-- The sheet of a text with the dates of three of its columns.
use Rattle.std.specs.Prelude.{◌≡◌, ◌≤◌, ◌++◌, ◌⊎◌, ⊤, ℕ, List, None, Option, Some, length}
use Rattle.clap.specs.Words.{Text}
use Rattle.csv.specs.Records.{fields_of}
use Rattle.date_parts.specs.JoinedDates.{joined_text}
use Rattle.date_parts.specs.declared.places.DatePlaces.{DatePlaces}
use Rattle.register_records.specs.Entries.{Fields, text_records}
use Rattle.register_records.specs.declared.outputs.Output as outputs
use Rattle.sheets.specs.declared.name_lists.NameLine.{NameLine}
use Rattle.sheet_arguments.specs.Requests.{Task}
use Rattle.sheet_arguments.specs.ThreeColumns.{ThreeWords}
use Rattle.sheet_app.specs.Columns.{IsColumn, NamesNone}
use Rattle.sheet_app.specs.Sheets.{HasMark, IsEnded, names_of}
use Rattle.sheet_app.specs.TreeTexts.{IsFaultBy, fault_of_text, sheet_of}
use Rattle.sheet_app.specs.declared.sheet_faults.SheetFault.{SheetFault}
use Rattle.sheet_app.specs.declared.sheet_faults.SheetFault.TheVariants as fault
use Rattle.sheet_app.specs.declared.conversions.SheetDone.{SheetDone}
use Rattle.sheet_app.specs.declared.conversions.SheetDone.TheVariants as done
use Rattle.sheet_app.specs.declared.conversions.TheConstants.{MOST_UNKNOWN}

-- the three words name the columns at these places
pub record ArePlaces (names : Fields) (three : ThreeWords) (places : DatePlaces) : Type 0 where
  pub year : IsColumn names three.year places.year
  pub month : IsColumn names three.month places.month
  pub day : IsColumn names three.day places.day

-- the sheet is the text with the dates of these columns, behind the same mark
pub record IsJoined (task : Task) (three : ThreeWords) (text sheet : List ℕ) : Type 0 where
  pub places : DatePlaces
  pub named : ArePlaces (names_of task text) three places
  pub mark : List ℕ
  pub has_mark : HasMark text mark
  pub written : sheet ≡ mark ++ joined_text task.delimiter places task.skip text

-- the word is one of the three and names no column
abbrev pub LacksOne : Fields → ThreeWords → Text → Type 0
LacksOne names three word = ((word ≡ three.year) ⊎ (word ≡ three.month) ⊎ (word ≡ three.day)) × NamesNone names word

-- there is no such sheet for this reason, or memory ran out
abbrev pub LacksThree : Task → ThreeWords → List ℕ → SheetFault → Type 0
LacksThree task three text fault.OutOfMemory = ⊤
LacksThree task three text fault.NoNames = length (text_records task.delimiter text) ≤ task.skip
LacksThree task three text (fault.NoColumn word told) =
    (fields_of told ≡ names_of task text) × LacksOne (names_of task text) three word.now
LacksThree task three text other = ⊥

-- the sheet of a text: with three words the one with their dates, and else the text itself or the sheet of its tree
abbrev pub IsSheetMade : Option ThreeWords → Task → List ℕ → List ℕ → Type 0
IsSheetMade None task text sheet = (fault_of_text task text ≡ None) × (sheet ≡ sheet_of task text)
IsSheetMade (Some three) task text sheet = IsJoined task three text sheet

-- why there is none, or memory ran out for it
abbrev pub LacksSheet : Option ThreeWords → Task → List ℕ → SheetFault → Type 0
LacksSheet None task text = IsFaultBy (fault_of_text task text)
LacksSheet (Some three) task text = LacksThree task three text

-- a text that gives no sheet broke off, and the outputs have gained nothing; or its sheet has ended so
abbrev pub IsTextEnded : {W : Type 0} → outputs.Ghosts W → Task → List NameLine → List ℕ → W → W → List W → List W
    → SheetDone → Type 0
IsTextEnded o task lines text given written new registers how =
    ((why : SheetFault) × LacksSheet task.three task text why × (how ≡ done.Broken why) × (written ≡ given)
    × (registers ≡ new)) ⊎ ((sheet : List ℕ) × IsSheetMade task.three task text sheet
    × IsEnded o task lines MOST_UNKNOWN sheet given written new registers how)
