-- How many records were refused, and for what.
use Rattle.std.specs.Prelude.{◌≡◌, ◌==◌, ℕ, List}
use Rattle.std.specs.List.{count_by}
use Rattle.date_texts.specs.Refusals.{refusal_number}
use Rattle.date_texts.specs.declared.refusal.Refusal.{Refusal}
use Rattle.date_texts.specs.declared.refusal.Refusal.TheVariants as refusal
use Rattle.register_records.specs.declared.ends.Note.{Note}
use Rattle.register_records.specs.declared.refusal_counts.RefusalCounts.{RefusalCounts}

-- how many of the refused rows have this refusal
abbrev pub refused_with : List Note → Refusal → ℕ
refused_with journal refusal =
    count_by (λ (note : Note). refusal_number note.refusal == refusal_number refusal) journal

-- the count of a refusal
abbrev pub count_of : RefusalCounts → Refusal → ℕ
count_of counts refusal.FieldCount = counts.field_count
count_of counts refusal.FieldTooLong = counts.field_too_long
count_of counts refusal.NotUtf8 = counts.not_utf8
count_of counts refusal.UnknownCalendar = counts.unknown_calendar
count_of counts refusal.DateText = counts.date_text
count_of counts refusal.NoSuchDate = counts.no_such_date
count_of counts refusal.OutOfRange = counts.out_of_range

-- each refusal has the count of those of the refused rows that have it
abbrev pub AreCounts : RefusalCounts → List Note → Type 0
AreCounts counts journal = (refusal : Refusal) → count_of counts refusal ≡ refused_with journal refusal
