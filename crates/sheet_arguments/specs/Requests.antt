-- The command line: its options and its page of help, the values that arguments give to it, what these ask for, and what is
-- wrong with them. The sheet of a tree has columns of its own, `tree_head` of `family_trees`, with commas between them, and
-- in a tree the day stands before the month.
use Rattle.std.specs.Option.{option_map_or}
use Rattle.std.specs.Prelude.{List, [], ◌∷◌, Bool, codes, Option, unwrap_or, ◌||◌, ◌&&◌, ◌==◌, ◌++◌, false}
use Rattle.std.specs.Prelude.{if◌then◌else◌, length, not, true, option_to_list, ◌≡◌, ℕ, map, nat_lt}
use Rattle.std.specs.Prelude.{is_some, option_and_then, option_map, Result, Ok, Err}
use Rattle.clap.specs.Words.{App, Row, Text, all_of, first_of, one_of}
use Rattle.programs.specs.Faults.{Fault, refused}
use Rattle.programs.specs.Meanings as lines
use Rattle.programs.specs.Meanings.{Check, CommandLine, Meaning, file_check, option_check}
use Rattle.programs.specs.OptionRows.{OptionRow, command_by, flag, page_by, repeated, valued}
use Rattle.programs.specs.OwnLines as own_lines
use Rattle.programs.specs.Requests.{meaning_by}
use Rattle.programs.specs.Rules.{is_set}
use Rattle.programs.specs.Values.{byte_of, delimiter_of}
use Rattle.programs.specs.declared.values.Delimiter.TheVariants.{Comma}
use Rattle.programs.specs.declared.requests.Request.{Request}
use Rattle.sheets.specs.Choices.{date_limit}
use Rattle.sheets.specs.declared.choices.AskedColumn.{AskedColumn}
use Rattle.sheets.specs.declared.choices.Spans.{Spans}
use Rattle.sheets.specs.declared.choices.Spans.TheVariants as spans_of
use Rattle.written_dates.specs.declared.written.Choice.{Choice}
use Rattle.written_dates.specs.declared.rules.Order.TheVariants.{DayFirst, YearFirst}
use Rattle.written_dates.specs.declared.written.Short.TheVariants.{Refuse}
use Rattle.sheet_arguments.specs.OptionValues.{order_of, other_word, short_hebrew_of, short_of, skip_of}
use Rattle.sheet_arguments.specs.ThreeColumns.{ThreeWords, three_asked, words_seen}
use Rattle.sheet_arguments.specs.WordLists.{columns_asked}
use Rattle.sheet_arguments.specs.declared.help.TheConstants.{ABOVE, BELOW, TREE, DATE, THREE, CALENDAR, ALL, ELSE, ID}
use Rattle.sheet_arguments.specs.declared.help.TheConstants.{ORDER, NAMES, SHORT_YEARS, SHORT_HEBREW_YEARS}
use Rattle.sheet_arguments.specs.declared.help.TheConstants.{SHORT_OTHER_YEARS, CHARTER_YEARS, SKIP, DELIMITER, TO}
use Rattle.sheet_arguments.specs.declared.help.TheConstants.{SPANS, EDTF, REGISTER, UNKNOWN, SUMMARY}
use Rattle.sheet_arguments.specs.declared.requests.CalendarsAsked.{CalendarsAsked}
use Rattle.sheet_arguments.specs.declared.requests.CalendarsAsked.TheVariants as asked
use Rattle.sheet_arguments.specs.declared.requests.Job.{Job}
use Rattle.sheet_arguments.specs.declared.requests.Reading.{Reading}

-- the options, in order
abbrev pub options : List OptionRow
options =
    flag (codes "tree") TREE.now
    ∷ repeated (codes "date") (codes "COLUMN") DATE.now
    ∷ valued (codes "three") (codes "YEAR,MONTH,DAY") THREE.now
    ∷ repeated (codes "calendar") (codes "COLUMN") CALENDAR.now
    ∷ repeated (codes "all") (codes "CALENDAR") ALL.now
    ∷ valued (codes "else") (codes "CALENDAR") ELSE.now
    ∷ valued (codes "id") (codes "COLUMN") ID.now
    ∷ valued (codes "order") (codes "WORD") ORDER.now
    ∷ repeated (codes "names") (codes "FILE") NAMES.now
    ∷ valued (codes "short-years") (codes "R") SHORT_YEARS.now
    ∷ valued (codes "short-hebrew-years") (codes "R") SHORT_HEBREW_YEARS.now
    ∷ valued (codes "short-other-years") (codes "R") SHORT_OTHER_YEARS.now
    ∷ flag (codes "charter-years") CHARTER_YEARS.now
    ∷ valued (codes "skip") (codes "N") SKIP.now
    ∷ valued (codes "delimiter") (codes "WORD") DELIMITER.now
    ∷ valued (codes "to") (codes "LIST") TO.now
    ∷ flag (codes "spans") SPANS.now
    ∷ flag (codes "edtf") EDTF.now
    ∷ flag (codes "register") REGISTER.now
    ∷ flag (codes "unknown") UNKNOWN.now
    ∷ flag (codes "summary") SUMMARY.now ∷ []

-- the name of the program
abbrev pub name : Text
name = codes "register-sheet"

-- a line of the program's own
abbrev pub program_line : Text → Text
program_line = own_lines.program_line name

-- that memory ran out
abbrev pub memory_line : Text
memory_line = own_lines.memory_line name

-- the command line: the command with all arguments
abbrev pub command_line : App
command_line = command_by name options

-- the page of help
abbrev pub help_page : Text
help_page = page_by ABOVE.now options BELOW.now

-- the values of each option, whether each flag is given, and the files, in order
pub record Values : Type 0 where
  pub tree : Bool
  pub dates : List Text
  pub three : Option Text
  pub calendars : List Text
  pub all : List Text
  pub otherwise : Option Text
  pub id : Option Text
  pub order : Option Text
  pub names : List Text
  pub short_years : Option Text
  pub short_hebrew_years : Option Text
  pub short_other_years : Option Text
  pub charter_years : Bool
  pub skip : Option Text
  pub delimiter : Option Text
  pub to : Option Text
  pub spans : Bool
  pub edtf : Bool
  pub register : Bool
  pub unknown : Bool
  pub summary : Bool
  pub files : List Text

-- the values that clap finds in the arguments
abbrev pub values_of : List Row → Values
values_of found = record {
  tree = is_set (one_of (codes "tree") found);
  dates = unwrap_or (all_of (codes "date") found) [];
  three = first_of (codes "three") found;
  calendars = unwrap_or (all_of (codes "calendar") found) [];
  all = unwrap_or (all_of (codes "all") found) [];
  otherwise = first_of (codes "else") found;
  id = first_of (codes "id") found;
  order = first_of (codes "order") found;
  names = unwrap_or (all_of (codes "names") found) [];
  short_years = first_of (codes "short-years") found;
  short_hebrew_years = first_of (codes "short-hebrew-years") found;
  short_other_years = first_of (codes "short-other-years") found;
  charter_years = is_set (one_of (codes "charter-years") found);
  skip = first_of (codes "skip") found;
  delimiter = first_of (codes "delimiter") found;
  to = first_of (codes "to") found;
  spans = is_set (one_of (codes "spans") found);
  edtf = is_set (one_of (codes "edtf") found);
  register = is_set (one_of (codes "register") found);
  unknown = is_set (one_of (codes "unknown") found);
  summary = is_set (one_of (codes "summary") found);
  files = unwrap_or (all_of (codes "file") found) [];
}

abbrev pub is_given : Option Text → Bool
is_given word = option_map_or (λ given. true) word false

abbrev pub are_given : List Text → Bool
are_given words = not (length words == 0)

-- the columns or the form of a sheet are given, which a tree does not leave open
abbrev pub is_at_odds : Values → Bool
is_at_odds values =
    values.tree && (are_given values.dates || is_given values.three || are_given values.calendars
    || are_given values.all || is_given values.skip || is_given values.delimiter)

-- the words for the columns of dates: that of a tree's sheet, or those that are given, behind which the column stands of
-- the dates that are joined of three, whose word is the list of these
abbrev pub dates_meant : Values → List Text
dates_meant values = if values.tree then codes "date" ∷ [] else (values.dates ++ option_to_list values.three)

-- and those for the columns of calendars
abbrev pub calendars_meant : Values → List Text
calendars_meant values = if values.tree then codes "calendar" ∷ [] else values.calendars

-- where the calendars of the dates are: in these columns, with a word for empty fields, or a word says them for all dates
-- of a column; one for all columns of dates, or one for each
pub data CalendarsWanted : Type 0 where
  in_columns : List Text → Option Text → CalendarsWanted
  all_have : List Text → CalendarsWanted

-- what arguments can ask for
pub record Task : Type 0 where
  pub tree : Bool
  pub dates : List Text
  pub three : Option ThreeWords
  pub calendars : CalendarsWanted
  pub id : Option Text
  pub columns : List AskedColumn
  pub spans : Spans
  pub reading : Choice
  pub names : List Text
  pub skip : ℕ
  pub delimiter : ℕ
  pub register : Bool
  pub unknown : Bool
  pub summary : Bool
  pub files : List Text

-- so many are neither one nor as many as there are columns of dates
abbrev pub is_misfit : ℕ → ℕ → Bool
is_misfit dates count = not (count == 1) && not (count == dates)

-- there are neither words for columns of calendars nor for calendars, or both, or not as many as wanted
abbrev pub are_misfits : ℕ → ℕ → ℕ → Bool
are_misfits dates columns calendars =
    if columns == 0 then is_misfit dates calendars else (not (calendars == 0) || is_misfit dates columns)

-- the calendars that words ask for: those in columns, or without such, those that the others say
abbrev pub calendars_wanted : List Text → List Text → Option Text → CalendarsWanted
calendars_wanted [] all otherwise = all_have all
calendars_wanted (word ∷ words) all otherwise = in_columns (word ∷ words) otherwise

-- a calendar is said for the empty fields of no column
abbrev pub is_else_alone : ℕ → Option Text → Bool
is_else_alone columns otherwise = (columns == 0) && is_some otherwise

-- what becomes of dates that say no single day, by the flags for spans and for EDTF
abbrev pub spans_asked : Bool → Bool → Spans
spans_asked spans true = spans_of.EndsAndEdtf
spans_asked true false = spans_of.Ends
spans_asked false false = spans_of.Unread

-- how the values say that a sheet and its dates are read; where no order is given, the day stands in front in a tree
abbrev pub reading_asked : Values → Reading
reading_asked values = record {
  dates = record {
    order = unwrap_or (option_and_then order_of values.order) (if values.tree then DayFirst else YearFirst);
    short_years = unwrap_or (option_and_then short_of values.short_years) Refuse;
    short_hebrew_years = unwrap_or (option_and_then short_hebrew_of values.short_hebrew_years) Refuse;
    short_other_years = unwrap_or
        (option_and_then short_of (other_word values.short_other_years values.short_years)) Refuse;
    charters = values.charter_years;
  };
  skip = unwrap_or (option_and_then skip_of values.skip) 0;
  delimiter = byte_of (unwrap_or (option_and_then delimiter_of values.delimiter) Comma);
}

-- the task that they ask for, with these columns to join and to come out
abbrev pub task_with : Values → Option ThreeWords → List AskedColumn → Task
task_with values three columns = record {
  tree = values.tree;
  dates = dates_meant values;
  three = three;
  calendars = calendars_wanted (calendars_meant values) values.all values.otherwise;
  id = values.id;
  columns = columns;
  spans = spans_asked values.spans values.edtf;
  reading = (reading_asked values).dates;
  names = values.names;
  skip = (reading_asked values).skip;
  delimiter = (reading_asked values).delimiter;
  register = values.register;
  unknown = values.unknown;
  summary = values.summary;
  files = values.files;
}

-- the values ask for this task
abbrev pub Ask : Values → Task → Type 0
Ask values task =
    (three_asked values.three ≡ Ok task.three) × (columns_asked values.to ≡ Ok task.columns)
    × (task ≡ task_with values task.three task.columns)

-- the check of what is wrong where this holds, of which this is said
abbrev pub false_check : Bool → Text → Check
false_check holds what = record { fails = λ fault. (fault ≡ refused what) × (holds ≡ true); passes = holds ≡ false }

-- the check of what comes of words
abbrev pub result_check : {A : Type 0} → Result A Fault → Check
result_check {A} result = record { fails = λ f. result ≡ Err f; passes = (a : A) × (result ≡ Ok a) }

-- the check of a tree, and those of where the dates and their calendars are, of words, and of what is to come out
abbrev pub tree_check : Values → Check
tree_check values =
    false_check (is_at_odds values) (codes "--tree takes no --date, --three, --calendar, --all, --skip and --delimiter")

abbrev pub column_checks : List Text → List Text → List Text → Option Text → List Check
column_checks dates calendars all otherwise =
    false_check (length dates == 0) (codes "no column of dates: give --date COLUMN")
    ∷ false_check (nat_lt date_limit (length dates)) (codes "more than 8 columns of dates")
    ∷ false_check (are_misfits (length dates) (length calendars) (length all))
    (codes "give --calendar COLUMN or --all CALENDAR, once or once for each --date")
    ∷ false_check (is_else_alone (length calendars) otherwise) (codes "--else is for --calendar") ∷ []

abbrev pub date_checks : Values → List Check
date_checks values = column_checks (dates_meant values) (calendars_meant values) values.all values.otherwise

abbrev pub word_checks : Values → List Check
word_checks values =
    option_check order_of (codes "unknown order: ") values.order
    ∷ option_check short_of (codes "bad short years: ") values.short_years
    ∷ option_check short_hebrew_of (codes "bad short Hebrew years: ") values.short_hebrew_years
    ∷ option_check short_of (codes "bad short years of other calendars: ")
    (other_word values.short_other_years values.short_years)
    ∷ option_check skip_of (codes "bad number of records to skip: ") values.skip
    ∷ option_check delimiter_of (codes "unknown delimiter: ") values.delimiter ∷ []

abbrev pub file_checks : Bool → List Text → List Check
file_checks register files =
    false_check (register && (length files == 0)) (codes "--register is for files") ∷ file_check files ∷ []

abbrev pub output_checks : Values → List Check
output_checks values =
    result_check (columns_asked values.to) ∷ result_check (three_asked values.three)
    ∷ file_checks values.register values.files

-- all of them, in order
abbrev pub value_checks : Values → List Check
value_checks values = tree_check values ∷ (date_checks values ++ (word_checks values ++ output_checks values))

-- the command line, and what is asked by it
abbrev pub sheet_line : CommandLine Task
sheet_line = record {
  command = command_line;
  checks = λ found. value_checks (values_of found);
  asks = λ found. Ask (values_of found);
}

-- what the arguments mean and nothing else, what is wrong with them, and that something is
abbrev pub MeanJust : List Text → Meaning Task → Type 0
MeanJust = lines.MeanJust sheet_line

abbrev pub IsFaultOf : List Text → Fault → Type 0
IsFaultOf = lines.IsFaultOf sheet_line

abbrev pub AreWrong : List Text → Type 0
AreWrong = lines.AreWrong sheet_line

-- where a job takes the calendars from
abbrev pub wanted_by : CalendarsAsked → CalendarsWanted
wanted_by (asked.Columns words otherwise) =
    in_columns (map (λ word. word.now) words.items) (option_map (λ word. word.now) otherwise)
wanted_by (asked.All words) = all_have (map (λ word. word.now) words.items)

-- what a job asks for
abbrev pub task_of : Job → Task
task_of job = record {
  tree = job.tree;
  dates = map (λ date. date.now) job.dates.items;
  three = option_map words_seen job.three;
  calendars = wanted_by job.calendars;
  id = option_map (λ id. id.now) job.id;
  columns = job.columns.items;
  spans = job.spans;
  reading = job.reading;
  names = map (λ file. file.now) job.names.items;
  skip = job.skip;
  delimiter = job.delimiter;
  register = job.register;
  unknown = job.unknown;
  summary = job.summary;
  files = map (λ file. file.now) job.files.items;
}

-- what a request stands for
abbrev pub meaning_of : Request Job → Meaning Task
meaning_of = meaning_by task_of
