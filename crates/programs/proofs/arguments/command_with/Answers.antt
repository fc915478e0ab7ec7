-- Each argument is added to those before it.
use Rattle.std.proofs.Common.{arith, take_all}
use Rattle.std.proofs.lemmas.List.Sums.{fold_more}
use Rattle.programs.proofs.arguments.command_with.Goals as goal

pub arguments-preserved : goal.arguments-preserved
arguments-preserved c = grind (arith, fold_more)

pub returns : goal.returns
returns c = grind (arith, take_all)
