-- A version and the program's name change the fields that they name, and nothing else.
use Rattle.std.proofs.Common.{arith}
use Rattle.programs.proofs.arguments.empty_command.Goals as goal

pub returns : goal.returns
returns c = grind (arith, c.no_binary_name.ensures, c.version.ensures, c.new.ensures.app)
