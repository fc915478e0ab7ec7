use Rattle.std.proofs.Common.{◌≤◌, ℕ, arith, nat_lt, ◌≡◌, false}
use Rattle.std.proofs.lemmas.Bool.Decides.{nat_tests}
use Rattle.sheets.specs.Choices.{date_limit}
use Rattle.sheets.proofs.sheet_writers.SheetWriters.take.Goals as goal

few_dates : (n : ℕ) → nat_lt date_limit n ≡ false → n ≤ date_limit
few_dates n few = grind (arith, nat_tests)

pub add-requires : goal.add-requires
add-requires g c =
    record { space = c.requires.space; few = few_dates _ c.args.setup.now.dated.few; read = c.requires.read }
