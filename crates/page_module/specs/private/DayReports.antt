-- The ending of a register that was gone over.
use Rattle.std.specs.Prelude.{ℕ, Result, Ok, Err}
use Rattle.register_records.specs.Sources.{cause_number}
use Rattle.register_records.specs.declared.ends.Cause.{Cause}

-- the ending of a register that was gone over, or broke off for a cause
abbrev pub ending_by : Result Unit Cause → ℕ
ending_by (Ok done) = 0
ending_by (Err cause) = cause_number cause
