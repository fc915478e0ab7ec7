-- What standard error gets of a sheet.
use Rattle.std.specs.Prelude.{◌++◌, ◌∷◌, ◌-◌, ◌==◌, ℕ, Bool, List, [], codes, if◌then◌else◌, length, map, nat_lt, take}
use Rattle.std.specs.Fmt.{decimal}
use Rattle.std.specs.List.{flat_map}
use Rattle.clap.specs.Words.{Text}
use Rattle.csv.specs.Records.{fields_of}
use Rattle.register_records.specs.Entries.{Fields}
use Rattle.sheets.specs.DateStops.{count_of}
use Rattle.sheets.specs.declared.choices.Spans.{Spans}
use Rattle.sheets.specs.declared.choices.Spans.TheVariants as spans
use Rattle.sheets.specs.declared.reasons.Reason.{Reason}
use Rattle.sheets.specs.declared.reasons.Reason.TheVariants as reasons
use Rattle.sheets.specs.declared.reasons.ReasonCounts.{ReasonCounts}
use Rattle.sheets.specs.declared.unread_dates.UnreadDates.{UnreadDates}
use Rattle.sheet_arguments.specs.Requests.{Task}
use Rattle.sheet_app.specs.declared.sheet_faults.SheetFault.{SheetFault}
use Rattle.sheet_app.specs.declared.sheet_faults.SheetFault.TheVariants as fault
use Rattle.sheet_app.specs.declared.conversions.SheetDone.{SheetDone}
use Rattle.sheet_app.specs.declared.conversions.SheetDone.TheVariants as done
use Rattle.sheet_app.specs.declared.conversions.WholeSheet.{WholeSheet}

-- texts with a comma and a space between two
abbrev pub listed : List Text → Text
listed [] = []
listed (text ∷ texts) = text ++ flat_map (λ other. codes ", " ++ other) texts

-- the names of a sheet's columns: the first ten, and dots for more
abbrev pub told : Fields → Text
told names = listed (take 10 names) ++ (if nat_lt 10 (length names) then codes ", .." else [])

-- why a sheet broke off
abbrev pub fault_text : SheetFault → Text
fault_text fault.OutOfMemory = codes "out of memory"
fault_text fault.Unread = codes "cannot be read"
fault_text fault.Unwritten = codes "cannot write what comes of it"
fault_text fault.Unnamed = codes "cannot name what comes of it"
fault_text fault.NotUtf8 = codes "is not UTF-8"
fault_text fault.NoTree = codes "is no family tree: its first line is not 0 HEAD"
fault_text fault.NoNames = codes "no record with names"
fault_text fault.TooManyRecords = codes "more than 1000000 records"
fault_text (fault.NoColumn word names) =
    codes "no column " ++ (word.now ++ (codes ": the columns are " ++ told (fields_of names)))

-- a line on the sheet of a name begins so
abbrev pub head_of : Text → Text
head_of name = codes "register-sheet: " ++ (name ++ codes ": ")

-- the line on so many dates, if there are some: in these words for one of them, and in those for more
abbrev pub line_of_dates : Text → Text → Text → ℕ → Text
line_of_dates one more name count =
    if count == 0 then [] else (head_of name ++ (decimal count ++ (if count == 1 then one else more)))

abbrev pub stopped_line : Text → ℕ → Text
stopped_line = line_of_dates (codes " date has a name that is not known: --unknown lists it\n")
    (codes " dates have names that are not known: --unknown lists them\n")

abbrev pub short_line : Text → ℕ → Text
short_line = line_of_dates (codes " date has a short year and is left empty: see --short-years\n")
    (codes " dates have short years and are left empty: see --short-years\n")

-- the words for so many dates that stay for a reason: for one of them, and for more
abbrev pub reason_words : Reason → Text × Text
reason_words reasons.NoCalendar = (codes " date has no calendar\n", codes " dates have no calendar\n")
reason_words reasons.Character =
    (codes " date has a character that no date has\n", codes " dates have a character that no date has\n")
reason_words reasons.Minus =
    (codes " date has a minus in front of a number\n", codes " dates have a minus in front of a number\n")
reason_words reasons.OtherWeekday = (codes " date names another weekday\n", codes " dates name another weekday\n")
reason_words reasons.NoDay = (codes " date has no day\n", codes " dates have no day\n")
reason_words reasons.NoYear = (codes " date has no year\n", codes " dates have no year\n")
reason_words reasons.NoSuchYear = (
  codes " date has a year that the French Republic did not have\n",
  codes " dates have a year that the French Republic did not have\n",
)
reason_words reasons.NoDate = (codes " date is no date of its calendar\n", codes " dates are no dates of their calendars\n")
reason_words reasons.YearLast =
    (codes " date has the year last: see --order\n", codes " dates have the year last: see --order\n")

abbrev pub reason_line : Text → ReasonCounts → Reason → Text
reason_line name counts reason =
    line_of_dates (reason_words reason).0 (reason_words reason).1 name (count_of counts reason)

abbrev pub three_lines : Text → ReasonCounts → Reason → Reason → Reason → Text
three_lines name counts first second third =
    reason_line name counts first ++ (reason_line name counts second ++ reason_line name counts third)

-- the lines on dates that stay as they are written, for each reason: on those that say too little, on those with a sign or
-- a weekday that is not theirs, and on the others
abbrev pub reason_lines : Text → ReasonCounts → Text
reason_lines name counts =
    three_lines name counts reasons.NoCalendar reasons.NoDay reasons.NoYear
    ++ (three_lines name counts reasons.Character reasons.Minus reasons.OtherWeekday
    ++ three_lines name counts reasons.NoSuchYear reasons.YearLast reasons.NoDate)

-- the lines on dates that were not read, but for names that are not known
abbrev pub kept_lines : Text → UnreadDates → Text
kept_lines name unread = short_line name unread.short ++ reason_lines name unread.reasons

-- the line on dates stopped by names that are not listed
abbrev pub more_line : Text → ℕ → Text
more_line = line_of_dates (codes " date has a name that is not among the first 1000, which are listed\n")
    (codes " dates have names that are not among the first 1000, which are listed\n")

-- of so many columns of dates how many dates were refused, and how many are empty
abbrev pub refused_list : ℕ → WholeSheet → Text
refused_list dates whole = listed (take dates (map (λ counts. decimal counts.refused) whole.counts.dates))

abbrev pub empty_list : ℕ → WholeSheet → Text
empty_list dates whole = listed (take dates (map (λ counts. decimal counts.empty) whole.counts.dates))

-- how many were converted and are no single day
abbrev pub spans_list : ℕ → WholeSheet → Text
spans_list dates whole = listed (take dates (map (λ counts. decimal counts.spans) whole.counts.dates))

-- how many records a sheet has that are not blank, and those of refused and of empty dates
abbrev pub counts_of : Text → ℕ → WholeSheet → Text
counts_of name dates whole =
    head_of name ++ ((decimal (whole.records - whole.counts.blank) ++ codes " records, refused: ")
    ++ (refused_list dates whole ++ (codes ", empty: " ++ empty_list dates whole)))

-- where dates that are no single day are read, so many
abbrev pub spans_part : Spans → ℕ → WholeSheet → Text
spans_part spans.Unread dates whole = []
spans_part other dates whole = codes ", spans: " ++ spans_list dates whole

abbrev pub summary_line : Task → Text → WholeSheet → Text
summary_line task name whole =
    counts_of name (length task.dates) whole ++ (spans_part task.spans (length task.dates) whole ++ 10 ∷ [])

-- the lines on a sheet, the last of them where a summary is asked for
abbrev pub lines_on : Task → Text → SheetDone → Text
lines_on task name (done.Whole whole) =
    stopped_line name whole.unread.stopped ++ (kept_lines name whole.unread
    ++ (if task.summary then summary_line task name whole else []))
lines_on task name (done.WholeBut fault) = head_of name ++ (fault_text fault ++ 10 ∷ [])
lines_on task name (done.Listed listed) = more_line name listed.more ++ kept_lines name listed.unread
lines_on task name (done.Broken fault) = head_of name ++ (fault_text fault ++ 10 ∷ [])

-- the line on a sheet of which not all outputs have got their names
abbrev pub names_line : Text → Bool → Text
names_line name named = if named then [] else (head_of name ++ (fault_text fault.Unnamed ++ 10 ∷ []))
