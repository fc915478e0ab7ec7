-- Words for which there is no column.
use Rattle.std.specs.Prelude.{◌≡◌, ◌⊎◌, ⊤, ℕ, false, true}
use Rattle.clap.specs.Words.{Text}
use Rattle.register_records.specs.Entries.{Fields}
use Rattle.sheet_arguments.specs.Requests.{Task}
use Rattle.sheet_app.specs.declared.columns.ColumnFault.{ColumnFault}
use Rattle.sheet_app.specs.declared.columns.ColumnFault.TheVariants as column_fault
use Rattle.sheet_app.specs.Columns.{HasNoLast, NamesNone, is_joined}

-- for the word of dates at an index there is no column
abbrev pub LacksDate : Fields → Task → ℕ → Text → Type 0
LacksDate names task index word =
    ((is_joined task index ≡ false) × NamesNone names word) ⊎ ((is_joined task index ≡ true) × HasNoLast names)

-- memory ran out, or there is no column for a word of which this holds
abbrev pub IsForWord : (Text → Type 0) → ColumnFault → Type 0
IsForWord Holds column_fault.OutOfMemory = ⊤
IsForWord Holds (column_fault.NoColumn word) = Holds word.now
