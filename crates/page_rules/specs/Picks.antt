-- The fields of records that are picked.
use Rattle.std.specs.Prelude.{◌≡◌, ◌≤◌, ◌^◌, ℕ, List, Any, length, map}
use Rattle.std.specs.List.{concat, flat_map}
use Rattle.register_records.specs.Entries.{Fields}
use Rattle.sheets.specs.Sheets.{chosen, widest}
use Rattle.page_rules.specs.declared.picking.PickFault.{PickFault}
use Rattle.page_rules.specs.declared.picking.PickFault.TheVariants as pick_fault
use Rattle.page_rules.specs.declared.picking.Picked.{Picked}

-- the fields at these places, from 0, of each record; one that a record has not is empty
abbrev pub all_chosen : List ℕ → List Fields → Fields
all_chosen places records = flat_map (chosen places) records

-- one of these fields has 4 GiB or more
abbrev pub HasLongField : Fields → Type 0
HasLongField fields = Any (λ field. 2 ^ 32 ≤ length field) fields

-- the fields at these places of these records were picked, and the records counted
pub record IsPicked (places : List ℕ) (picked : Picked) (records : List Fields) : Type 0 where
  pub bytes : picked.bytes.items ≡ concat (all_chosen places records)
  pub lengths : picked.lengths.items ≡ map length (all_chosen places records)
  pub counted : picked.records ≡ length records
  pub wide : picked.widest ≡ widest records

-- the numbers of faults
abbrev pub pick_fault_number : PickFault → ℕ
pick_fault_number pick_fault.OutOfMemory = 1
pick_fault_number pick_fault.LongField = 2
