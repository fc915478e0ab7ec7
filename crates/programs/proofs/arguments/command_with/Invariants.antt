use Rattle.std.proofs.Common.{◌≡◌, fold, take}
use Rattle.clap.specs.Words.{app_of}
use Rattle.programs.specs.ArgumentRules.{with_argument}
use Rattle.programs.specs.Rules.{bare_command}
use Rattle.programs.proofs.arguments.command_with.Given as goal

-- the command has the arguments so far
abbrev pub invariant-arguments : goal.invariant-arguments
invariant-arguments l =
    app_of l.whole ≡ fold with_argument (bare_command l.name) (take l.argument-index l.arguments)
