-- A source that breaks off for no cause.
use Rattle.std.specs.Prelude.{◌≡◌, ℕ, true, List, None, Ok, length}
use Rattle.register_records.specs.declared.ends.Note.{Note}
use Rattle.register_run.specs.declared.ended_sources.Findings.{Findings}

-- a source has met no cause: its threads ended with a count, its table did not break off, and has the heading and so
-- many rows; so many were refused, by this journal
abbrev pub HasMetNone : Findings → List Note → ℕ → ℕ → List Note → Type 0
HasMetNone found journal count refused notes =
    (found.sent.outcome ≡ Ok count) × (found.fault ≡ None) × (found.headed ≡ true) × (count ≡ found.rows)
    × (refused ≡ length notes) × (notes ≡ journal)
