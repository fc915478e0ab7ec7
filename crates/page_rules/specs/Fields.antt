-- Lists of fields, without CSV: all bytes one behind the other, and the length of each field.
use Rattle.std.specs.Prelude.{ℕ, zero, suc, List, [], ◌∷◌, take, drop}
use Rattle.register_records.specs.Entries.{Fields}
use Rattle.page_rules.specs.declared.writing.WriteFault.{WriteFault}
use Rattle.page_rules.specs.declared.writing.WriteFault.TheVariants as write_fault

-- the fields of these lengths in these bytes
abbrev pub fields_by : List ℕ → List ℕ → List (List ℕ)
fields_by [] bytes = []
fields_by (n ∷ lengths) bytes = take n bytes ∷ fields_by lengths (drop n bytes)

-- the first groups of so many fields
abbrev pub groups : ℕ → ℕ → List (List ℕ) → List Fields
groups zero width fields = []
groups (suc count) width fields = take width fields ∷ groups count width (drop width fields)

-- the numbers of faults
abbrev pub write_fault_number : WriteFault → ℕ
write_fault_number write_fault.OutOfMemory = 1
write_fault_number write_fault.NoWidth = 3
