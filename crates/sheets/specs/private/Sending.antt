-- How far records are written to an output.
use Rattle.std.specs.Prelude.{◌≡◌, ◌⊎◌, ◌++◌, ℕ, true, List, [], Option, Result, IfErr, OnOk, ◌∷◌, drop, get_or}
use Rattle.std.specs.Prelude.{map, take}
use Rattle.std.specs.Io.KnownBytes.{Appends}
use Rattle.register_records.specs.Entries.{Fields}
use Rattle.register_records.specs.declared.outputs.Output as outputs
use Rattle.sheets.specs.private.LineViews.{Begins}
use Rattle.sheets.specs.Sheets.{filled, records_text}
use Rattle.sheets.specs.declared.choices.SheetChoice.{SheetChoice}
use Rattle.sheets.specs.declared.lines.SheetLines.{SheetLines}
use Rattle.sheets.specs.declared.sheet_ends.SheetCause.{SheetCause}
use Rattle.sheets.specs.declared.sheet_ends.SheetCause.TheVariants as cause

-- the first of these records are sent, the others stand in lines, and behind them the fields of one more
pub record HasMade (delimiter : ℕ) (begun now : Option (List ℕ)) (lines : SheetLines) (made : List Fields)
    (fields : Fields) : Type 0 where
  pub sent : List Fields
  pub waiting : List Fields
  pub gained : Appends begun now (records_text delimiter sent)
  pub held : Begins delimiter (records_text delimiter waiting) fields lines
  pub parted : made ≡ sent ++ waiting

-- all of these records are sent, and none stands in lines
pub record IsSent (delimiter : ℕ) (begun now : Option (List ℕ)) (lines : SheetLines) (made : List Fields)
    : Type 0 where
  pub gained : Appends begun now (records_text delimiter made)
  pub held : Begins delimiter [] [] lines

-- the bytes sent are those of the first of these records
abbrev pub HasFront : ℕ → Option (List ℕ) → Option (List ℕ) → List Fields → Type 0
HasFront delimiter begun now records = (count : ℕ) × Appends begun now (records_text delimiter (take count records))

-- what an output has come to by this answer
pub record Ends {W A : Type 0} (o : outputs.Ghosts W) (result : Result A SheetCause) (before after : W) : Type 0 where
  pub good : OnOk result (o.has_failed after ≡ o.has_failed before)
  pub causes : IfErr result (λ c. (c ≡ cause.NoMemory) ⊎ (c ≡ cause.SinkFault))
  -- for want of memory nothing was sent
  pub memory : IfErr result (λ c. c ≡ cause.NoMemory → after ≡ before)
  pub sink : IfErr result (λ c. c ≡ cause.SinkFault → o.has_failed after ≡ true)
  pub marked : o.own_mark after ≡ o.own_mark before

-- the records of the sheet that comes back down to the names
abbrev pub top_records : SheetChoice → ℕ → List Fields → List Fields
top_records choice width records =
    take choice.above records
    ++ (filled width (get_or (drop choice.above records) 0 []) ++ map (λ name. name.now) choice.headings.now) ∷ []
