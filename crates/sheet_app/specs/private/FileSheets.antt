-- A sheet whose files were opened and made.
use Rattle.std.specs.Prelude.{◌≡◌, ℕ, List, map}
use Rattle.std.specs.List.{AllZip}
use Rattle.clap.specs.Words.{Text}
use Rattle.programs.specs.Places.{place_name}
use Rattle.register_records.specs.declared.outputs.Output as outputs
use Rattle.sheet_arguments.specs.Requests.{Task}
use Rattle.sheet_app.specs.declared.file_sheets.FileSheet.{FileSheet}
use Rattle.sheet_app.specs.declared.file_sheets.OpenedFile.{OpenedFile}
use Rattle.sheet_app.specs.FileSheets.{IsMadeFor, ending_of, names_ending}

abbrev pub source_name : {R : Type 0} → OpenedFile R → Text
source_name opened = opened.name.now

abbrev pub sheet_name : {R W : Type 0} → FileSheet R W → Text
sheet_name sheet = sheet.name.now

-- the sheet comes from the file of its name, and its output and those of its registers, which end so, were made for it and
-- are to get these names
pub record IsNewSheet {R W : Type 0} (o : outputs.Ghosts W) (IsOpened : Text → R → Type 0)
    (IsMade : Text → ℕ → W → Type 0) (task : Task) (endings : List (List ℕ)) (sheet : FileSheet R W) : Type 0 where
  pub opened : IsOpened (sheet_name sheet) sheet.source
  pub output : IsMadeFor o IsMade (sheet_name sheet) (ending_of task) sheet.output
  pub registers : AllZip (IsMadeFor o IsMade (sheet_name sheet)) endings sheet.registers.items
  pub places : map place_name sheet.places.items ≡ names_ending (ending_of task) (λ ending. ending) endings
      (sheet_name sheet)
