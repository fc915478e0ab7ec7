use Rattle.std.proofs.Common.{◌≡◌, arith, append_assoc}
use Rattle.sheets.proofs.Common.{taken_by}
use Rattle.sheets.proofs.HeadingLemmas.{first_free}
use Rattle.sheets.proofs.new_headings.NewNames.numbered.Goals as goal

pub returns-then-not-is_taken : goal.returns-then-not-is_taken
returns-then-not-is_taken c =
    first_free (taken_by c.args.self.now) c.args.wanted.now _ c.numbers.number (omega arith) (grind (arith, append_assoc))
    (grind arith) c.numbers.invariant

pub numbers-init : goal.numbers-init
numbers-init c fewer lt = let none : fewer ≡ 0 = omega arith in rw none c.requires
