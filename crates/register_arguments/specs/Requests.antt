-- The command line: its options and its page of help, the values that arguments give to it, what these ask for, and what is
-- wrong with them.
use Rattle.std.specs.Prelude.{List, [], ◌∷◌, ◌++◌, Bool, codes, Option, unwrap_or, ◌≡◌, ℕ, map, if◌then◌else◌, Some, None}
use Rattle.std.specs.Prelude.{option_and_then, length}
use Rattle.clap.specs.Words.{App, Row, Text, all_of, first_of, one_of}
use Rattle.date_texts.specs.Calendars.{default_targets}
use Rattle.date_texts.specs.declared.target.Target.{Target}
use Rattle.register_records.specs.Entries.{Reading}
use Rattle.register_records.specs.Records.{has_notes}
use Rattle.register_records.specs.SetupRules.{largest_ring, most_stripes}
use Rattle.register_records.specs.Tables.{Layout}
use Rattle.register_records.specs.Views.{layout_of, reading_of}
use Rattle.register_records.specs.declared.setups.Form.TheVariants.{Plain, Sealed}
use Rattle.register_records.specs.declared.setups.Setup.{Setup}
use Rattle.programs.specs.Faults.{Fault}
use Rattle.programs.specs.Meanings as lines
use Rattle.programs.specs.Meanings.{Check, CommandLine, Meaning, file_check, option_check}
use Rattle.programs.specs.OptionRows.{OptionRow, command_by, flag, page_by, valued}
use Rattle.programs.specs.OwnLines as own_lines
use Rattle.programs.specs.Requests.{meaning_by}
use Rattle.programs.specs.Rules.{is_set}
use Rattle.programs.specs.Values.{byte_of, delimiter_of, number_of}
use Rattle.programs.specs.declared.values.Delimiter.TheVariants.{Comma}
use Rattle.programs.specs.declared.requests.Request.{Request}
use Rattle.register_arguments.specs.Fittings.{fitting_for}
use Rattle.register_arguments.specs.OptionValues.{AsksForTargets, IsListFault}
use Rattle.register_arguments.specs.declared.help.TheConstants.{ABOVE, BELOW, TO, DELIMITER, SEALED, SUMMARY, RING}
use Rattle.register_arguments.specs.declared.help.TheConstants.{STRIPES}
use Rattle.register_arguments.specs.declared.jobs.Job.{Job}

-- the options, in order
abbrev pub options : List OptionRow
options =
    valued (codes "to") (codes "LIST") TO.now
    ∷ valued (codes "delimiter") (codes "WORD") DELIMITER.now
    ∷ flag (codes "sealed") SEALED.now
    ∷ flag (codes "summary") SUMMARY.now
    ∷ valued (codes "ring") (codes "N") RING.now
    ∷ valued (codes "stripes") (codes "N") STRIPES.now ∷ []

-- the name of the program
abbrev pub name : Text
name = codes "register"

-- a line of the program's own
abbrev pub program_line : Text → Text
program_line = own_lines.program_line name

-- that memory ran out
abbrev pub memory_line : Text
memory_line = own_lines.memory_line name

-- the command line: the command with all arguments
abbrev pub command_line : App
command_line = command_by name options

-- the page of help
abbrev pub help_page : Text
help_page = page_by ABOVE.now options BELOW.now

-- the value of each option that is used, whether each flag is given, and the files, in order
pub record Values : Type 0 where
  pub to : Option Text
  pub ring : Option Text
  pub delimiter : Option Text
  pub stripes : Option Text
  pub sealed : Bool
  pub summary : Bool
  pub files : List Text

-- the values that clap finds in the arguments
abbrev pub values_of : List Row → Values
values_of found = record {
  to = first_of (codes "to") found;
  ring = first_of (codes "ring") found;
  delimiter = first_of (codes "delimiter") found;
  stripes = first_of (codes "stripes") found;
  sealed = is_set (one_of (codes "sealed") found);
  summary = is_set (one_of (codes "summary") found);
  files = unwrap_or (all_of (codes "file") found) [];
}

-- what arguments can ask of a run: how its registers are read and how its tables are written, the size of its rings and
-- the converters of a source where they are written, whether a summary is wanted, and the files
pub record Task : Type 0 where
  pub reading : Reading
  pub layout : Layout
  pub ring : Option ℕ
  pub stripes : Option ℕ
  pub summary : Bool
  pub files : List Text

-- these are the targets that the option asks for; without it, the default targets in their order
abbrev pub AreTargetsOf : Option Text → List Target → Type 0
AreTargetsOf None targets = targets ≡ default_targets
AreTargetsOf (Some list) targets = AsksForTargets list targets

-- the byte of the delimiter that values ask for
abbrev pub delimiter_asked : Values → ℕ
delimiter_asked values = byte_of (unwrap_or (option_and_then delimiter_of values.delimiter) Comma)

-- the task that they ask for, with these targets
abbrev pub task_with : Values → List Target → Task
task_with values targets = record {
  reading = record { delimiter = delimiter_asked values; form = if values.sealed then Sealed else Plain };
  layout = record {
    writing = record { delimiter = delimiter_asked values; has_notes = values.sealed };
    targets = targets;
  };
  ring = option_and_then (number_of largest_ring) values.ring;
  stripes = option_and_then (number_of most_stripes) values.stripes;
  summary = values.summary;
  files = values.files;
}

-- the values ask for this task
abbrev pub Ask : Values → Task → Type 0
Ask values task = AreTargetsOf values.to task.layout.targets × (task ≡ task_with values task.layout.targets)

-- what is wrong with the value of `--to`; without it, nothing is
abbrev pub IsTargetFault : Option Text → Fault → Type 0
IsTargetFault None fault = ⊥
IsTargetFault (Some list) fault = IsListFault list fault

-- the check of the targets
abbrev pub target_check : Option Text → Check
target_check value = record {
  fails = IsTargetFault value;
  passes = (targets : List Target) × AreTargetsOf value targets;
}

-- the checks of words, in order, and of all values
abbrev pub word_checks : Values → List Check
word_checks values =
    option_check (number_of largest_ring) (codes "bad ring size: ") values.ring
    ∷ option_check delimiter_of (codes "unknown delimiter: ") values.delimiter
    ∷ option_check (number_of most_stripes) (codes "bad stripes: ") values.stripes ∷ []

abbrev pub value_checks : Values → List Check
value_checks values = target_check values.to ∷ (word_checks values ++ file_check values.files ∷ [])

-- the command line, and what is asked by it
abbrev pub register_line : CommandLine Task
register_line = record {
  command = command_line;
  checks = λ found. value_checks (values_of found);
  asks = λ found. Ask (values_of found);
}

-- what the arguments mean and nothing else, what is wrong with them, and that something is
abbrev pub MeanJust : List Text → Meaning Task → Type 0
MeanJust = lines.MeanJust register_line

abbrev pub IsFaultOf : List Text → Fault → Type 0
IsFaultOf = lines.IsFaultOf register_line

abbrev pub AreWrong : List Text → Type 0
AreWrong = lines.AreWrong register_line

-- what a job asks of a run
abbrev pub task_of : Job → Task
task_of job = record {
  reading = record { delimiter = byte_of job.delimiter; form = job.form };
  layout = record {
    writing = record { delimiter = byte_of job.delimiter; has_notes = has_notes job.form };
    targets = job.targets.items;
  };
  ring = job.ring;
  stripes = job.stripes;
  summary = job.summary;
  files = map (λ file. file.now) job.files.items;
}

-- the setup is the task's, on a machine of so many processors: how registers are read and tables written, and the ring
-- and the converters that are written, or else those that fit
abbrev pub IsSetupOf : Task → ℕ → Setup → Type 0
IsSetupOf task processors setup =
    (reading_of setup ≡ task.reading) × (layout_of setup ≡ task.layout)
    × (setup.ring ≡ unwrap_or task.ring (fitting_for processors (length task.files)).ring)
    × (setup.stripes ≡ unwrap_or task.stripes (fitting_for processors (length task.files)).stripes)

-- what a request stands for
abbrev pub meaning_of : Request Job → Meaning Task
meaning_of = meaning_by task_of
