-- The lengths of the parts are taken one after the other.
use Rattle.std.proofs.Common.{arith, length-append}
use Rattle.programs.proofs.pages.room_behind.Goals as goal

pub returns : goal.returns
returns c = grind (arith, length-append)
