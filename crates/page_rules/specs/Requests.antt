-- What is asked of a table.
use Rattle.std.specs.Prelude.{ℕ, Bool, List, length, nat_le, map, get_or, if◌then◌else◌}
use Rattle.std.specs.List.{list_any}
use Rattle.date_texts.specs.Calendars.{all_targets}
use Rattle.date_texts.specs.declared.target.Target.{Target}
use Rattle.date_texts.specs.declared.target.Target.TheVariants.{Tzolkin}
use Rattle.register_records.specs.Entries.{Reading}
use Rattle.register_records.specs.Tables.{Layout}
use Rattle.register_records.specs.declared.setups.Form.{Form}
use Rattle.register_records.specs.declared.setups.Form.TheVariants.{Plain, Sealed}
use Rattle.page_rules.specs.declared.requests.RequestFault.{RequestFault}
use Rattle.page_rules.specs.declared.requests.RequestFault.TheVariants.{ColumnTwice, Delimiter, NoSuchColumn}

-- one of these places, from 0, is past the end of the list of all targets
abbrev pub goes_beyond : List ℕ → Bool
goes_beyond columns = list_any (λ place. nat_le (length all_targets) place) columns

-- the targets at these places of the list of all
abbrev pub targets_at : List ℕ → List Target
targets_at columns = map (λ place. get_or all_targets place Tzolkin) columns

abbrev pub form_by : Bool → Form
form_by sealed = if sealed then Sealed else Plain

-- how the register is read, by this byte between two fields and whether it has seals; and how the table of these columns
-- is written
abbrev pub reading_by : ℕ → Bool → Reading
reading_by delimiter sealed = record { delimiter = delimiter; form = form_by sealed }

abbrev pub layout_by : List ℕ → ℕ → Bool → Layout
layout_by columns delimiter sealed =
    record { writing = record { delimiter = delimiter; has_notes = sealed }; targets = targets_at columns }

-- the number of a fault
abbrev pub fault_number : RequestFault → ℕ
fault_number NoSuchColumn = 1
fault_number ColumnTwice = 2
fault_number Delimiter = 3
