-- How one sheet has ended.
use Rattle.std.specs.Prelude.{◌≡◌, All, List, map, true}
use Rattle.std.specs.declared.io.traits.Read as reads
use Rattle.clap.specs.Words.{Text}
use Rattle.programs.specs.Places.{place_name}
use Rattle.register_records.specs.declared.outputs.Output as outputs
use Rattle.sheets.specs.declared.name_lists.NameLine.{NameLine}
use Rattle.sheet_arguments.specs.Requests.{Task}
use Rattle.sheet_app.specs.private.FileSheets.{sheet_name}
use Rattle.sheet_app.specs.declared.converting.EndedSheet.{EndedSheet}
use Rattle.sheet_app.specs.declared.file_sheets.FileSheet.{FileSheet}
use Rattle.sheet_app.specs.EndedSheets.{IsConverted, ended_name}

-- this is how a sheet has ended; its outputs have got their names, where that is said
pub record IsEndOf {R W : Type 0} (r : reads.Ghosts R) (o : outputs.Ghosts W) (IsNamed : Text → Type 0) (task : Task)
    (lines : List NameLine) (sheet : FileSheet R W) (ended : EndedSheet W) : Type 0 where
  pub named : ended_name ended ≡ sheet_name sheet
  pub converted : IsConverted r o task lines sheet.source sheet.output ended.output sheet.registers.items
      ended.registers.items ended.done
  pub names : ended.are_named ≡ true → All IsNamed (map place_name sheet.places.items)
