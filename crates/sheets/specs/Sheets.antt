-- Records of a sheet, and the text of records.
use Rattle.std.specs.Prelude.{◌++◌, ◌-◌, ℕ, List, [], ◌∷◌, length, map, max, get_or, replicate}
use Rattle.std.specs.List.{flat_map}
use Rattle.register_records.specs.Entries.{Fields}
use Rattle.register_records.specs.Lines.{line_text}

-- the fields of a record at these places, from 0; one that it has not is empty
abbrev pub chosen : List ℕ → Fields → Fields
chosen places fields = map (λ place. get_or fields place []) places

-- the most fields of a record
abbrev pub widest : List Fields → ℕ
widest [] = 0
widest (fields ∷ records) = max (length fields) (widest records)

-- a record with empty fields behind its own, up to so many
abbrev pub filled : ℕ → Fields → Fields
filled count fields = fields ++ replicate (count - length fields) []

-- the text of records
abbrev pub records_text : ℕ → List Fields → List ℕ
records_text delimiter records = flat_map (line_text delimiter) records
