use Rattle.std.proofs.Common.{◌≡◌, ◌∙◌, arith, sym}
use Rattle.std.proofs.lemmas.Fmt.{decimal_injective}
use Rattle.sheets.proofs.name_meanings.number_said.Goals as goal
use Rattle.sheets.proofs.name_meanings.number_said.Goals.{then-number-least-via-then-number-least}
use Rattle.sheets.proofs.name_meanings.number_said.Goals.{then-number-least-via-else-number-least+then-number-most}

pub returns-then-number-least-clause-none : goal.returns-then-number-least-clause-none
returns-then-number-least-clause-none c none number (low, high, is) =
    let same : c.in_ok-number.number ≡ number
    = decimal_injective c.in_ok-number.number number (omega arith) (omega arith) (sym c.in_ok-number.ensures.some ∙ is) in
    elim c.then-number-least.branch [
      | then-number-least-via-then-number-least w ↦ absurd (omega arith)
      | then-number-least-via-else-number-least+then-number-most w ↦ absurd (omega arith)
    ]
