-- What an output has come to.
use Rattle.std.specs.Prelude.{◌≡◌, ℕ, List, [], Result, Ok, Err, ◌∷◌, true}
use Rattle.register_records.specs.Sources.{Gains}
use Rattle.register_records.specs.declared.outputs.Output as outputs
use Rattle.sheets.specs.declared.sheet_ends.SheetCause.{SheetCause}
use Rattle.sheets.specs.declared.sheet_ends.SheetCause.TheVariants as cause

-- how the writing of an output ended: it was not begun; all was written and handed on; it was cut off; the output
-- failed
pub data Ending : Type 0 where
  untouched : Ending
  whole : Ending
  cut : Ending
  lost : Ending

-- what the output has gained then is as said, and nothing else; whether it has failed, and its mark
abbrev pub Produced : {W : Type 0} → outputs.Ghosts W → W → W → Ending → (List ℕ → Type 0) → Type 0
Produced o given written untouched Made = (written ≡ given) × Made []
Produced o given written whole Made =
    Gains (o.contents given) (o.contents written) Made × (o.is_flushed written ≡ true)
    × (o.has_failed written ≡ o.has_failed given) × (o.own_mark written ≡ o.own_mark given)
Produced o given written cut Made =
    Gains (o.contents given) (o.contents written) Made
    × (o.has_failed written ≡ o.has_failed given) × (o.own_mark written ≡ o.own_mark given)
Produced o given written lost Made = (o.has_failed written ≡ true) × (o.own_mark written ≡ o.own_mark given)

-- how it ended by an answer
abbrev pub ending_of : {A : Type 0} → Result A SheetCause → Ending
ending_of (Ok v) = whole
ending_of (Err cause.NoMemory) = cut
ending_of (Err cause.SinkFault) = lost
ending_of (Err cause.NoNames) = untouched
ending_of (Err cause.TooManyRecords) = cut

-- the first fault of some answers
abbrev pub first_fault : List (Result (Unit {0}) SheetCause) → Result (Unit {0}) SheetCause
first_fault [] = Ok tt
first_fault ((Ok v) ∷ answers) = first_fault answers
first_fault ((Err c) ∷ answers) = Err c
