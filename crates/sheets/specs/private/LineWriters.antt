-- What a writer of lines holds.
use Rattle.std.specs.Prelude.{◌≡◌, ◌++◌, ◌∷◌, ⊤, [], ℕ, List, OnOk, Option, None, Result, Some, length, map, slice_get}
use Rattle.std.specs.Prelude.{true}
use Rattle.register_records.specs.Entries.{Fields}
use Rattle.register_records.specs.declared.outputs.Output as outputs
use Rattle.sheets.specs.Produced.{Produced, ending_of}
use Rattle.sheets.specs.private.Produced.{Agrees, AreLines}
use Rattle.sheets.specs.private.Sending.{Ends, HasFront, HasMade}
use Rattle.sheets.specs.private.SheetRecords.{RecordRead}
use Rattle.sheets.specs.declared.choices.SheetChoice.{SheetChoice}
use Rattle.sheets.specs.declared.line_writers.LineWriter.{LineWriter}
use Rattle.sheets.specs.declared.lines.SheetLines.{SheetLines}
use Rattle.sheets.specs.declared.sheet_ends.SheetCause.{SheetCause}
use Rattle.sheets.specs.declared.sheet_ends.SheetCause.TheVariants as cause

-- an output has gained lines, of which some wait; or, by the fault that was met, a front of them, or it has failed
abbrev pub Stands : {W : Type 0} → outputs.Ghosts W → ℕ → W → W → SheetLines → List Fields → Option SheetCause → Type 0
Stands o delimiter given output lines made None =
    HasMade delimiter (o.contents given) (o.contents output) lines made []
    × (o.has_failed output ≡ o.has_failed given)
Stands o delimiter given output lines made (Some cause.NoMemory) =
    HasFront delimiter (o.contents given) (o.contents output) made × (o.has_failed output ≡ o.has_failed given)
Stands o delimiter given output lines made (Some cause.SinkFault) = o.has_failed output ≡ true
Stands o delimiter given output lines made (Some other) = ⊥

-- these lines wait in a writer that has sent none, or memory ran out for them
abbrev pub WaitsBy : ℕ → List Fields → SheetLines → Option SheetCause → Type 0
WaitsBy delimiter made lines None = (begun : Option (List ℕ)) → HasMade delimiter begun begun lines made []
WaitsBy delimiter made lines (Some cause.NoMemory) = ⊤
WaitsBy delimiter made lines (Some other) = ⊥

module _ {M : Type 0} where
  abbrev pub fault_of : LineWriter M → Option SheetCause
  fault_of writer = writer.fault

  -- these lines were made since the output was as given
  pub record Holds {W : Type 0} (o : outputs.Ghosts W) (given output : W) (writer : LineWriter M)
      (made : List Fields) : Type 0 where
    pub stands : Stands o writer.sender.delimiter given output writer.sender.lines made writer.fault
    pub mark : o.own_mark output ≡ o.own_mark given

  -- this line was made, or a fault was met
  pub record Writes {W : Type 0} (o : outputs.Ghosts W) (line : Fields) (old new : LineWriter M) (before after : W)
      (result : Result (Unit {0}) SheetCause) : Type 0 where
    pub maker : new.maker ≡ old.maker
    pub delimiter : new.sender.delimiter ≡ old.sender.delimiter
    pub fault : new.fault ≡ old.fault
    pub made : OnOk result ((begun : Option (List ℕ)) (made : List Fields)
        → HasMade old.sender.delimiter begun (o.contents before) old.sender.lines made []
        → HasMade old.sender.delimiter begun (o.contents after) new.sender.lines (made ++ line ∷ []) [])
    pub output : Ends o result before after

  -- these lines were made behind others
  pub record Makes {W : Type 0} (o : outputs.Ghosts W) (lines : List Fields) (old new : LineWriter M) (before after : W)
      : Type 0 where
    pub maker : new.maker ≡ old.maker
    pub delimiter : new.sender.delimiter ≡ old.sender.delimiter
    pub holds : (given : W) (made : List Fields) → Holds o given before old made → Holds o given after new (made ++
        lines)

  -- those of these records
  abbrev pub Gathers : {W : Type 0} → outputs.Ghosts W → (M → SheetChoice → RecordRead → Fields) → SheetChoice
      → List RecordRead → LineWriter M → LineWriter M → W → W → Type 0
  Gathers o line choice reads old new before after = Makes o (map (line old.maker choice) reads) old new before after

  -- these lines wait in a writer, and it has sent none
  pub record Waits (delimiter : ℕ) (made : List Fields) (writer : LineWriter M) : Type 0 where
    pub by : writer.sender.delimiter ≡ delimiter
    pub waits : WaitsBy delimiter made writer.sender.lines writer.fault

-- each writer did so with the output at its place
pub record Each {M W : Type 0} (Did : ℕ → M → M → W → W → Type 0) (old new : List M) (before after : List W) : Type 0
  where
    pub writers : length new ≡ length old
    pub files : length after ≡ length before
    pub each : (place : ℕ) (w v : M) (b a : W) → slice_get old place ≡ Some w → slice_get new place ≡ Some v
        → slice_get before place ≡ Some b → slice_get after place ≡ Some a → Did place w v b a

module _ {M : Type 0} where
  -- each has made its lines of these records
  abbrev pub GathersEach : {W : Type 0} → outputs.Ghosts W → (M → SheetChoice → RecordRead → Fields) → SheetChoice
      → List RecordRead → List (LineWriter M) → List (LineWriter M) → List W → List W → Type 0
  GathersEach o line choice reads = Each (λ place. Gathers o line choice reads)

  -- the lines that a writer made have come to its output as this answer says, by a reading that ended so
  abbrev pub Finishes : {W : Type 0} → outputs.Ghosts W → Result (Unit {0}) SheetCause → LineWriter M → W → W
      → Result (Unit {0}) SheetCause → Type 0
  Finishes {W} o read writer before after answer = (given : W) (made : List Fields) → Holds o given before writer made
      → Produced o given after (ending_of answer) (AreLines writer.sender.delimiter made answer) × Agrees read answer

  -- those of each as its own of these answers says
  abbrev pub FinishesEach : {W : Type 0} → outputs.Ghosts W → Result (Unit {0}) SheetCause
      → List (Result (Unit {0}) SheetCause) → List (LineWriter M) → List (LineWriter M) → List W → List W → Type 0
  FinishesEach o read answers = Each (λ place w v b a. (answer : Result (Unit {0}) SheetCause)
      × (slice_get answers place ≡ Some answer) × Finishes o read w b a answer)
