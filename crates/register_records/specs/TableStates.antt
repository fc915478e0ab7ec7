-- How far a table goes on.
use Rattle.std.specs.Prelude.{ℕ, Bool, List, [], Option, None, Some, false, true}
use Rattle.register_records.specs.Views.{waiting_in}
use Rattle.register_records.specs.declared.ends.Cause.{Cause}
use Rattle.register_records.specs.declared.ends.Cause.TheVariants as cause
use Rattle.register_records.specs.declared.tables.TableState.{TableState}
use Rattle.register_records.specs.declared.tables.TableState.TheVariants as state
use Rattle.register_records.specs.declared.writing.RowWriter.{RowWriter}

-- why no more rows are added; the output failed
abbrev pub fault_of : TableState → Option Cause
fault_of state.Open = None
fault_of (state.Halted c) = Some c
fault_of (state.OutputFailed c) = Some c

abbrev pub lost_output : TableState → Bool
lost_output (state.OutputFailed c) = true
lost_output other = false

-- a table breaks off for this cause
abbrev pub is_of_table : Cause → Bool
is_of_table cause.NoMemory = true
is_of_table cause.Unconfirmed = true
is_of_table cause.SinkFault = true
is_of_table cause = false

-- the bytes of the lines that wait: where the output failed, none does
abbrev pub lines_waiting : TableState → Option RowWriter → List ℕ
lines_waiting (state.OutputFailed c) writer = []
lines_waiting other None = []
lines_waiting other (Some w) = waiting_in w
