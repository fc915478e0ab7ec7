use Rattle.std.proofs.Common.{◌≡◌, ◌++◌, flat_map, take}
use Rattle.std.specs.Io.KnownBytes.{Appends}
use Rattle.programs.specs.HelpPages.{option_text}
use Rattle.programs.proofs.pages.send_help.Given as goal

-- what stands above the options and the options so far were sent
abbrev pub invariant-options : goal.invariant-options
invariant-options g l =
    Appends (g.W.Output.contents l.fn.output) (g.W.Output.contents l.output)
    (l.help.above.now ++ flat_map option_text (take l.argument-index l.help.arguments.now))
    × (g.W.Output.own_mark l.output ≡ g.W.Output.own_mark l.fn.output)
