-- The text of a page.
use Rattle.std.specs.Prelude.{◌++◌, ◌-◌, ◌==◌, ◌∷◌, ℕ, [], codes, flat_map, if◌then◌else◌, length, take}
use Rattle.clap.specs.Words.{Text}
use Rattle.programs.specs.ArgumentRules.{value_name}
use Rattle.programs.specs.declared.arguments.Argument.{Argument}
use Rattle.programs.specs.declared.arguments.Kind.{Kind}
use Rattle.programs.specs.declared.arguments.Kind.TheVariants as kind
use Rattle.programs.specs.declared.pages.Help.{Help}
use Rattle.programs.specs.declared.pages.Page.{Page}
use Rattle.programs.specs.declared.pages.Page.TheVariants as page
use Rattle.programs.specs.declared.pages.TheConstants.{OF_EACH}

-- the blanks before what an option does, and the end of a line with those of the next
abbrev pub blanks : Text
blanks = codes "                      "

abbrev pub line_break : Text
line_break = 10 ∷ blanks

-- what stands for the value of an option, behind a blank
abbrev pub value_part : Kind → Text
value_part (kind.Valued value) = codes " " ++ value_name value
value_part (kind.Repeated value) = codes " " ++ value_name value
value_part kind.Flag = []

-- an option of this name as it is given, with this for its value
abbrev pub head_of : Text → Text → Text
head_of name value = codes "    --" ++ (name ++ value)

-- so many blanks; where there is no room for one, a line of its own
abbrev pub gap : ℕ → Text
gap room = if room == 0 then line_break else take room blanks

-- the lines on an option, which does this: that begins behind 22 columns
abbrev pub lines_on : Text → Text → Text → Text
lines_on name value words =
    (head_of name value ++ gap (22 - length (head_of name value))) ++ (words ++ 10 ∷ [])

abbrev pub option_text : Argument → Text
option_text argument = lines_on argument.name.now (value_part argument.kind) argument.help.now

-- a page of help: the options stand between its two texts, in order, and then those of clap
abbrev pub page_with : Text → Text → Text → Text
page_with above options below = above ++ (options ++ (OF_EACH.now ++ below))

abbrev pub help_text : Help → Text
help_text help = page_with help.above.now (flat_map option_text help.arguments.now) help.below.now

abbrev pub page_text : Page → Text
page_text (page.Help help) = help_text help.now
page_text (page.Text text) = text.now
