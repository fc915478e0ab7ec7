-- A reader of csv that has read a record.
use Rattle.std.specs.Prelude.{ℕ, List, IsSome}
use Rattle.std.specs.Borrow.{Bor}
use Rattle.csv.specs.declared.reader.Reader.{Reader}
use Rattle.register_records.specs.private.ReadingState.{HasBegun}
use Rattle.sheets.specs.Reading.{known_left}

-- the same once a record was read
abbrev pub IsBegun : Reader (Bor (List ℕ)) → Type 0
IsBegun records = HasBegun records × IsSome (known_left records)
