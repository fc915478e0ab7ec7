-- The arguments of a command line, as clap takes them and finds their values.
use Rattle.std.specs.Prelude.{Bool, false, codes, true, Option, Some}
use Rattle.std.specs.Option.{option_map_or}
use Rattle.std.specs.Str.{bytes_eq}
use Rattle.clap.specs.Words.{App, Rule, Text, new_app, new_rule}
use Rattle.clap.specs.declared.builder.action.ArgAction.TheVariants.{Append, SetTrue}

-- an option that is written `--NAME VALUE` or `--NAME=VALUE`
abbrev pub option_rule : Text → Rule
option_rule name = record (new_rule name) { long = Some name; value_names = 1 }

-- the same, as often as wanted
abbrev pub repeated_rule : Text → Rule
repeated_rule name = record (new_rule name) { long = Some name; value_names = 1; action = Some Append }

-- a flag that is written `--NAME`
abbrev pub flag_rule : Text → Rule
flag_rule name = record (new_rule name) { long = Some name; action = Some SetTrue }

-- an argument that is no option, as often as wanted
abbrev pub files_rule : Text → Rule
files_rule name = record (new_rule name) { value_names = 1; action = Some Append }

-- a command with a version, and no argument for the program's own name
abbrev pub bare_command : Text → App
bare_command name =
    let new = new_app name in record new { top = record new.top { no_binary_name = true; has_version = true } }

-- whether a flag is given: clap gives it the text `true`
abbrev pub is_set : Option Text → Bool
is_set text = option_map_or (λ t. bytes_eq t (codes "true")) text false
