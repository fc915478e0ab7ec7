-- The sheets of a command line, as they have ended.
use Rattle.std.specs.Prelude.{◌≡◌, ◌&&◌, ◌⊎◌, ◌++◌, ℕ, All, Bool, List, IfSome, false, true}
use Rattle.std.specs.Io.KnownBytes.{Appends}
use Rattle.std.specs.List.{AllZip, flat_map}
use Rattle.std.specs.declared.io.traits.Read as reads
use Rattle.clap.specs.Words.{Text}
use Rattle.register_records.specs.declared.outputs.Output as outputs
use Rattle.sheets.specs.declared.name_lists.NameLine.{NameLine}
use Rattle.sheet_arguments.specs.Requests.{Task}
use Rattle.sheet_app.specs.FileSheets.{IsMadeFor, ending_of, names_ending, register_endings}
use Rattle.sheet_app.specs.Lines.{lines_on, names_line}
use Rattle.sheet_app.specs.JoinedTexts.{IsTextEnded}
use Rattle.sheet_app.specs.declared.converting.EndedSheet.{EndedSheet}
use Rattle.sheet_app.specs.declared.sheet_faults.SheetFault.{SheetFault}
use Rattle.sheet_app.specs.declared.sheet_faults.SheetFault.TheVariants as fault
use Rattle.sheet_app.specs.declared.conversions.SheetDone.{SheetDone}
use Rattle.sheet_app.specs.declared.conversions.SheetDone.TheVariants as done

-- the source gives this text, as far as its bytes are known
abbrev pub Gives : {R : Type 0} → reads.Ghosts R → R → List ℕ → Type 0
Gives r source text = IfSome (r.remaining source) (λ left. text ≡ left)

-- a sheet could not be read, or memory ran out while it was
abbrev pub IsUnread : SheetFault → Type 0
IsUnread why = (why ≡ fault.Unread) ⊎ (why ≡ fault.OutOfMemory)

-- a sheet was read and has ended so, with what its outputs have gained; or it was not read to its end, and they have gained
-- nothing
abbrev pub IsConverted : {R W : Type 0} → reads.Ghosts R → outputs.Ghosts W → Task → List NameLine → R → W → W
    → List W → List W → SheetDone → Type 0
IsConverted r o task lines source given written new registers how =
    ((why : SheetFault) × IsUnread why × (how ≡ done.Broken why) × (written ≡ given) × (registers ≡ new))
    ⊎ ((text : List ℕ) × Gives r source text × IsTextEnded o task lines text given written new registers how)

abbrev pub ended_name : {W : Type 0} → EndedSheet W → Text
ended_name sheet = sheet.name.now

-- all that was asked for is there
abbrev pub is_whole : SheetDone → Bool
is_whole (done.Whole whole) = true
is_whole (done.Listed listed) = true
is_whole other = false

-- under its names, and nothing to report was lost
abbrev pub is_complete : {W : Type 0} → EndedSheet W → Bool
is_complete sheet = (is_whole sheet.done && sheet.are_named) && sheet.is_reported

-- the lines on a sheet
abbrev pub ended_lines : {W : Type 0} → Task → EndedSheet W → List ℕ
ended_lines task sheet =
    lines_on task (ended_name sheet) sheet.done
    ++ names_line (ended_name sheet) sheet.are_named

-- standard error has gained the lines on these sheets, if there was memory for all, and unless it failed
pub record AreReported {W E : Type 0} (e : outputs.Ghosts E) (task : Task) (sheets : List (EndedSheet W))
    (before after : E) : Type 0 where
  pub good : e.has_failed after ≡ false → e.has_failed before ≡ false
  pub gained : All (λ sheet. sheet.is_reported ≡ true) sheets → e.has_failed after ≡ false
      → Appends (e.contents before) (e.contents after) (flat_map (ended_lines task) sheets)

-- a sheet of a file was converted from the file of its name, to outputs that were made by that name with their endings, and
-- have got these names, where that is said
pub record IsEndedSheet {R W : Type 0} (r : reads.Ghosts R) (o : outputs.Ghosts W) (IsOpened : Text → R → Type 0)
    (IsMade : Text → ℕ → W → Type 0) (IsNamed : Text → Type 0) (task : Task) (lines : List NameLine)
    (sheet : EndedSheet W) : Type 0 where
  pub source : R
  pub opened : IsOpened (ended_name sheet) source
  pub given : W
  pub output : IsMadeFor o IsMade (ended_name sheet) (ending_of task) given
  pub new : List W
  pub registers : AllZip (IsMadeFor o IsMade (ended_name sheet)) (register_endings task) new
  pub converted : IsConverted r o task lines source given sheet.output new sheet.registers.items sheet.done
  pub names : sheet.are_named ≡ true
      → All IsNamed (names_ending (ending_of task) (λ ending. ending) (register_endings task) (ended_name sheet))
