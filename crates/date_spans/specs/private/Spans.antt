-- A text that is a date alone.
use Rattle.std.specs.Prelude.{◌≡◌, ℕ, true, List, Some}
use Rattle.date_texts.specs.declared.calendar.Calendar.{Calendar}
use Rattle.written_dates.specs.declared.meanings.Name.{Name}
use Rattle.written_dates.specs.declared.written.Choice.{Choice}
use Rattle.written_dates.specs.Written.{dated_text, written}
use Rattle.date_spans.specs.Spans.{is_date}

-- the text is a date without its time of day, and this is what is written for it
abbrev pub IsDateAlone : Choice → Calendar → List Name → List ℕ → List ℕ → List ℕ → Type 0
IsDateAlone choice calendar names text first last =
    (is_date choice calendar names (dated_text choice calendar names text) ≡ true)
    × (first ≡ written choice (Some calendar) names (dated_text choice calendar names text))
    × (last ≡ written choice (Some calendar) names (dated_text choice calendar names text))
