-- The sheets of a command line, as their files are opened.
use Rattle.std.specs.Prelude.{◌==◌, ◌&&◌, ◌++◌, ◌∷◌, [], ℕ, All, AllPairs, List, codes, flat_map, if◌then◌else◌}
use Rattle.std.specs.Prelude.{length, map, not}
use Rattle.std.specs.Fmt.{decimal}
use Rattle.std.specs.List.{range_with_len}
use Rattle.clap.specs.Words.{Text}
use Rattle.programs.specs.Openings.{IsNewlyMade}
use Rattle.programs.specs.OutputNames.{AreTwoOutputs, IsApartFrom}
use Rattle.register_records.specs.declared.outputs.Output as outputs
use Rattle.sheets.specs.declared.choices.Spans.{Spans}
use Rattle.sheets.specs.declared.choices.Spans.TheVariants as spans
use Rattle.sheet_arguments.specs.Requests.{Task}

-- what the name of a sheet's output ends with
abbrev pub ending_of : Task → List ℕ
ending_of task = if task.unknown then codes ".unknown.csv" else codes ".dates.csv"

-- and that of the register of a column of dates, where there are several; a part says which of its registers it is
abbrev pub register_ending : List ℕ → ℕ → List ℕ
register_ending part number = part ++ (codes ".register." ++ (decimal number ++ codes ".csv"))

-- those of a part of the registers of so many columns of dates
abbrev pub part_endings : List ℕ → ℕ → List (List ℕ)
part_endings part columns =
    if columns == 1 then (part ++ codes ".register.csv") ∷ []
    else map (register_ending part) (range_with_len 1 columns)

-- the registers of all columns: with spans, those of the first days, and then those of the last days
abbrev pub endings_by : Spans → ℕ → List (List ℕ)
endings_by spans.Unread columns = part_endings [] columns
endings_by spans.Ends columns = part_endings (codes ".first") columns ++ part_endings (codes ".last") columns
endings_by spans.EndsAndEdtf columns = part_endings (codes ".first") columns ++ part_endings (codes ".last") columns

-- the registers of a sheet: none unless they are asked for, and with a list of names that are not known none
abbrev pub register_endings : Task → List (List ℕ)
register_endings task =
    if task.register && not task.unknown then endings_by task.spans (length task.dates) else []

-- the names of a sheet's outputs, which end so: its own, and those of its registers
abbrev pub names_ending : {X : Type 0} → List ℕ → (X → List ℕ) → List X → Text → List Text
names_ending own text others file = (file ++ own) ∷ map (λ ending. file ++ text ending) others

-- the names of all outputs
abbrev pub outputs_of : Task → List Text
outputs_of task = flat_map (names_ending (ending_of task) (λ ending. ending) (register_endings task)) task.files

-- the names of all inputs, of the sheets and of the lists of names, were told apart from both names of an output
pub record IsNoInput (AreApart : Text → Text → Type 0) (task : Task) (name : Text) : Type 0 where
  pub sheets : All (λ file. IsApartFrom AreApart file name) task.files
  pub lists : All (λ file. IsApartFrom AreApart file name) task.names

-- the outputs were told apart from all inputs and from one another
pub record AreApartOutputs (AreApart : Text → Text → Type 0) (task : Task) : Type 0 where
  pub kept : All (IsNoInput AreApart task) (outputs_of task)
  pub apart : AllPairs (AreTwoOutputs AreApart) (outputs_of task)

-- the output was made by the name of a file with this ending, and is fresh
abbrev pub IsMadeFor : {W : Type 0} → outputs.Ghosts W → (Text → ℕ → W → Type 0) → Text → List ℕ → W → Type 0
IsMadeFor o IsMade file ending output = (mark : ℕ) × IsNewlyMade o IsMade (file ++ ending) mark output
