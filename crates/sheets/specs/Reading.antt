-- What is left of a sheet that is read.
use Rattle.std.specs.Prelude.{ℕ, List, [], Option, None, Some, IsSome}
use Rattle.std.specs.Borrow.{Bor}
use Rattle.csv.specs.declared.reader.Reader.{Reader}
use Rattle.register_records.specs.Entries.{Fields}
use Rattle.register_records.specs.ReadingState.{IsLive, records_left}

-- the records that are left, of a reader that has not failed
abbrev pub known_left : Reader (Bor (List ℕ)) → Option (List Fields)
known_left records = records_left (λ (sheet : Bor (List ℕ)). Some sheet.now) records

abbrev pub left_in : Option (List Fields) → List Fields
left_in None = []
left_in (Some left) = left

abbrev pub left_of : Reader (Bor (List ℕ)) → List Fields
left_of records = left_in (known_left records)

-- the next read gives the first of these, or none is left
abbrev pub IsReading : Reader (Bor (List ℕ)) → Type 0
IsReading records = IsLive records × IsSome (known_left records)
