-- What the value of `--three` names: the columns with the years, the months and the days of dates.
use Rattle.std.specs.Prelude.{◌==◌, ◌++◌, ℕ, Bool, codes, Option, None, Some, Result, Ok, if◌then◌else◌, length, nat_lt}
use Rattle.std.specs.List.{after_first, before_first, position_or_len}
use Rattle.clap.specs.Words.{Text}
use Rattle.programs.specs.Faults.{Fault, refused}
use Rattle.sheet_arguments.specs.WordLists.{or_fault}
use Rattle.sheet_arguments.specs.declared.three_columns.ThreeColumns.{ThreeColumns}

pub record ThreeWords : Type 0 where
  pub year : Text
  pub month : Text
  pub day : Text

abbrev pub is_comma : ℕ → Bool
is_comma byte = byte == 44

-- what stands before the first comma of a list and behind it, where it has one
abbrev pub cut : Text → Option (Text × Text)
cut list =
    if nat_lt (position_or_len is_comma list) (length list)
    then Some (before_first is_comma list, after_first is_comma list)
    else None

-- a list of three words: none has a comma
abbrev pub ends_with_day : Text → Text → Text → Option (Text × Text) → Option ThreeWords
ends_with_day year month day None = Some (record { year = year; month = month; day = day })
ends_with_day year month day (Some more) = None

abbrev pub goes_on_with_month : Text → Option (Text × Text) → Option ThreeWords
goes_on_with_month year None = None
goes_on_with_month year (Some (month, day)) = ends_with_day year month day (cut day)

abbrev pub begins_with_year : Option (Text × Text) → Option ThreeWords
begins_with_year None = None
begins_with_year (Some (year, rest)) = goes_on_with_month year (cut rest)

abbrev pub three_in : Text → Option ThreeWords
three_in list = begins_with_year (cut list)

-- the three that are asked for, if any, or what is wrong
abbrev pub three_asked : Option Text → Result (Option ThreeWords) Fault
three_asked None = Ok None
three_asked (Some list) = or_fault (refused (codes "bad year, month and day: " ++ list)) (three_in list) (λ three. Ok (Some three))

-- ---- what clauses see

abbrev pub words_seen : ThreeColumns → ThreeWords
words_seen three = record { year = three.year.now; month = three.month.now; day = three.day.now }
