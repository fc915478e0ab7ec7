-- The arguments of a command line in a list.
use Rattle.std.specs.Prelude.{List, codes, fold}
use Rattle.clap.specs.Words.{App, Rule, Text, with_rule}
use Rattle.programs.specs.Rules.{bare_command, files_rule, flag_rule, option_rule, repeated_rule}
use Rattle.programs.specs.declared.arguments.Argument.{Argument}
use Rattle.programs.specs.declared.arguments.Kind.{Kind}
use Rattle.programs.specs.declared.arguments.Kind.TheVariants as kind
use Rattle.programs.specs.declared.arguments.Value.{Value}
use Rattle.programs.specs.declared.arguments.Value.TheVariants as value

-- the rule of an argument of this name and kind
abbrev pub rule_of_kind : Text → Kind → Rule
rule_of_kind name (kind.Valued value) = option_rule name
rule_of_kind name (kind.Repeated value) = repeated_rule name
rule_of_kind name kind.Flag = flag_rule name

abbrev pub rule_by : Argument → Rule
rule_by argument = rule_of_kind argument.name.now argument.kind

-- a command with one argument more
abbrev pub with_argument : App → Argument → App
with_argument app argument = with_rule app (rule_by argument)

-- the command of this name with these options, and files
abbrev pub app_with : Text → List Argument → App
app_with name arguments = with_rule (fold with_argument (bare_command name) arguments) (files_rule (codes "file"))

-- what stands for a value in the page of help
abbrev pub value_name : Value → Text
value_name (value.Text name) = name.now
value_name (value.Number name least most) = name.now
value_name (value.Words name words) = name.now
