-- The options of a command line, in rows: the rule by which clap takes each, and its lines in the page of help.
use Rattle.std.specs.Prelude.{◌++◌, List, [], codes, flat_map, fold, map}
use Rattle.clap.specs.Words.{App, Rule, Text, with_rule}
use Rattle.programs.specs.HelpPages.{lines_on, page_with}
use Rattle.programs.specs.Rules.{bare_command, files_rule, flag_rule, option_rule, repeated_rule}

pub record OptionRow : Type 0 where
  pub rule : Rule
  pub lines : Text

-- an option of this name, with a value for which this stands, that does this; the same, as often as wanted; and a flag
abbrev pub valued : Text → Text → Text → OptionRow
valued name value words = record { rule = option_rule name; lines = lines_on name (codes " " ++ value) words }

abbrev pub repeated : Text → Text → Text → OptionRow
repeated name value words = record { rule = repeated_rule name; lines = lines_on name (codes " " ++ value) words }

abbrev pub flag : Text → Text → OptionRow
flag name words = record { rule = flag_rule name; lines = lines_on name [] words }

-- the command of this name with these options, and files
abbrev pub command_by : Text → List OptionRow → App
command_by name rows =
    with_rule (fold with_rule (bare_command name) (map (λ row. row.rule) rows)) (files_rule (codes "file"))

-- its page of help, between these texts
abbrev pub page_by : Text → List OptionRow → Text → Text
page_by above rows below = page_with above (flat_map (λ row. row.lines) rows) below
