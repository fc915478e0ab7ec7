-- The calendar and the date of an entry.
use Rattle.std.specs.Prelude.{◌≡◌, ℕ, List, Result, Ok, Err}
use Rattle.register_records.specs.Records.{Texts}
use Rattle.date_texts.specs.declared.refusal.Refusal.{Refusal}

-- this calendar's name and this date stand in a body
abbrev pub HasDate : List ℕ → List ℕ → Result Texts Refusal → Type 0
HasDate calendar date (Ok t) = (t.calendar ≡ calendar) × (t.date ≡ date)
HasDate calendar date (Err r) = ⊥
