-- How many fields a record has.
use Rattle.std.specs.Prelude.{ℕ}
use Rattle.register_records.specs.declared.setups.Form.{Form}
use Rattle.register_records.specs.declared.setups.Form.TheVariants.{Plain, Sealed}

-- how many fields the header and each entry have
abbrev pub field_count : Form → ℕ
field_count Plain = 3
field_count Sealed = 4
