-- What a clause sees of an `Entry` and of the parts of a `Row`.
use Rattle.std.specs.Prelude.{Bool, true, false, ℕ, ℤ, List, Result, Ok, Err}
use Rattle.day_numbers.specs.declared.day.Day.{Day}
use Rattle.date_texts.specs.declared.refusal.Refusal.{Refusal}
use Rattle.register_records.specs.Entries.{Numbered, body_seen}
use Rattle.register_records.specs.Outcomes.{TableRow}
use Rattle.register_records.specs.declared.entries.Entry.{Entry}
use Rattle.register_records.specs.declared.reading.ReaderState.{ReaderState}
use Rattle.register_records.specs.declared.reading.ReaderState.TheVariants as state
use Rattle.register_records.specs.declared.writing.WriterState.{WriterState}
use Rattle.register_records.specs.declared.writing.WriterState.TheVariants as writer

-- a reader of entries has failed, or it has come to the end
abbrev pub has_failed : ReaderState → Bool
has_failed state.Failed = true
has_failed other = false

abbrev pub has_ended : ReaderState → Bool
has_ended state.Ended = true
has_ended other = false

-- a writer of rows has stopped, or its output has failed
abbrev pub has_stopped : WriterState → Bool
has_stopped writer.Open = false
has_stopped other = true

abbrev pub output_failed : WriterState → Bool
output_failed writer.OutputFailed = true
output_failed other = false

-- the entry as a text has it
abbrev pub entry_seen : Entry → Numbered
entry_seen e = record { number = e.number; body = body_seen e.body }

-- the number of the day, or the refusal
abbrev pub outcome_seen : Result Day Refusal → Result ℤ Refusal
outcome_seen (Ok day) = Ok day.number
outcome_seen (Err r) = Err r

-- the row that an entry, an outcome and cells make
abbrev pub row_made : Entry → Result Day Refusal → List (List ℕ) → TableRow
row_made e outcome cells =
    record { number = e.number; body = body_seen e.body; outcome = outcome_seen outcome; cells = cells }
