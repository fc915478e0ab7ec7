-- For which cause a source breaks off.
use Rattle.std.specs.Prelude.{◌≡◌, ◌≢◌, ◌≤◌, ◌⊎◌, ℕ, Bool, true, None, Some, Result, Ok, Err}
use Rattle.register_records.specs.Sources.{cause_number}
use Rattle.register_records.specs.declared.ends.Cause.{Cause}
use Rattle.register_records.specs.declared.ends.Cause.TheVariants as cause
use Rattle.register_run.specs.declared.ended_sources.Findings.{Findings}

-- what was written is not what the threads ended with: not all rows with the heading; or where they gave up, not the
-- rows of all entries that were read until then, or the heading without a row
abbrev pub Differs : Result ℕ Cause → ℕ → Bool → ℕ → Type 0
Differs (Ok count) read headed rows = (headed ≡ true) × (rows ≡ count) → ⊥
Differs (Err c) read headed rows = (rows ≢ read) ⊎ ((headed ≡ true) × (rows ≡ 0))

-- a source has met this cause: its threads ended with it, its table broke off for it, or the table did not and differs
abbrev pub IsMet : Findings → Cause → Type 0
IsMet found c =
    (found.sent.outcome ≡ Err c) ⊎ (found.fault ≡ Some c)
    ⊎ ((c ≡ cause.Unconfirmed) × (found.fault ≡ None)
    × Differs found.sent.outcome found.sent.count found.headed found.rows)

-- the lowest of these causes
abbrev pub IsLowest : (Cause → Type 0) → Cause → Type 0
IsLowest Is c = Is c × ((other : Cause) → Is other → cause_number c ≤ cause_number other)
