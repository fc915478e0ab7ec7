-- What an `EntryReader` knows of what it has yet to give.
use Rattle.std.specs.Prelude.{◌≡◌, ◌+◌, true, ℕ, List, length, Option, None, option_map}
use Rattle.csv.specs.Reading.{Ready, is_flexible, reader_config, reader_state, reader_trim, records_from, source_of}
use Rattle.csv.specs.declared.parser.Config.{Config}
use Rattle.csv.specs.declared.parser.State.{State}
use Rattle.csv.specs.declared.reader.Reader.{Reader}
use Rattle.csv.specs.declared.reader.Trim.TheVariants as trim
use Rattle.register_records.specs.Entries.{Fields, Reading}
use Rattle.register_records.specs.declared.setups.Form.{Form}

-- a delimiter and a form
abbrev pub reading_by : ℕ → Form → Reading
reading_by delimiter form = record { delimiter = delimiter; form = form }

-- the same where it may yet read the first, and takes none for a header row
abbrev pub IsLive : {R : Type 0} → Reader R → Type 0
IsLive s = (reader_trim s ≡ trim.None) × Ready s × (is_flexible s ≡ true)

-- every record of a text, from a state between two records
abbrev pub all_after : Config → State → List ℕ → List Fields
all_after config state bytes = records_from config (length bytes + 1) state bytes

-- the records that a reader of csv has yet to give, where the bytes of the reader underneath are known
abbrev pub records_left : {R : Type 0} → (R → Option (List ℕ)) → Reader R → Option (List Fields)
records_left remaining s = option_map (all_after (reader_config s) (reader_state s)) (source_of remaining s)
