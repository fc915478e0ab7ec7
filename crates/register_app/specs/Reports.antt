-- What standard error gets of the sources of a run.
use Rattle.std.specs.Prelude.{ℕ, List, [], ◌∷◌, ◌++◌, ◌+◌, ◌==◌, codes, if◌then◌else◌, Bool, true, false}
use Rattle.std.specs.Fmt.{decimal}
use Rattle.date_texts.specs.Refusals.{refusal_number}
use Rattle.date_texts.specs.declared.refusal.Refusal.{Refusal}
use Rattle.date_texts.specs.declared.refusal.Refusal.TheVariants as refusal
use Rattle.register_records.specs.RefusalCounts.{refused_with}
use Rattle.register_records.specs.Sources.{cause_number}
use Rattle.register_records.specs.declared.ends.Note.{Note}
use Rattle.register_records.specs.declared.ends.SourceEnd.{SourceEnd}
use Rattle.register_records.specs.declared.ends.SourceEnd.TheVariants as ended

-- the refusals of a record
abbrev pub every_refusal : List Refusal
every_refusal =
    refusal.FieldCount ∷ refusal.FieldTooLong ∷ refusal.NotUtf8 ∷ refusal.UnknownCalendar ∷ refusal.DateText
    ∷ refusal.NoSuchDate ∷ refusal.OutOfRange ∷ []

-- how many were refused with one number, as the first or after those of an earlier number
abbrev pub count_text : Bool → ℕ → ℕ → List ℕ
count_text is_first number count = (if is_first then codes " (" else codes ", ")
    ++ (decimal number ++ (codes ": " ++ decimal count))

-- how many were refused with each of these that some were refused with, by its number: ` (4: 10, 5: 2)`
abbrev pub counts_from : Bool → List Note → List Refusal → List ℕ
counts_from true journal [] = []
counts_from false journal [] = codes ")"
counts_from is_first journal (refusal ∷ more) =
    if refused_with journal refusal == 0 then counts_from is_first journal more
    else (count_text is_first (refusal_number refusal) (refused_with journal refusal) ++ counts_from false journal more)

-- the rows of the source at this place, from 1: `source 1: 2000 rows, 12 refused`
abbrev pub rows_text : ℕ → ℕ → ℕ → List ℕ
rows_text place rows refused =
    codes "source " ++ (decimal place ++ (codes ": "
    ++ (decimal rows ++ (codes " rows, " ++ (decimal refused ++ codes " refused")))))

-- the line of the source at this place: `source 2: cause 6`, or, where a summary is asked for,
-- `source 1: 2000 rows, 12 refused (4: 10, 5: 2)`
abbrev pub line_of_end : Bool → ℕ → SourceEnd → List ℕ
line_of_end summary place (ended.Broken cause) =
    codes "source " ++ (decimal place ++ (codes ": cause " ++ (decimal (cause_number cause) ++ 10 ∷ [])))
line_of_end false place (ended.Whole rows refused journal) = []
line_of_end true place (ended.Whole rows refused journal) =
    rows_text place rows refused ++ (counts_from true journal.items every_refusal ++ 10 ∷ [])

-- the lines of sources at places from this one on
abbrev pub lines_from : Bool → ℕ → List SourceEnd → List ℕ
lines_from summary place [] = []
lines_from summary place (end ∷ ends) = line_of_end summary place end ++ lines_from summary (place + 1) ends
