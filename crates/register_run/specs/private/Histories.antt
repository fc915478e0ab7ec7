-- That the rows that were taken are of the entries of the machine.
use Rattle.std.specs.Prelude.{ℕ, List, Option}
use Rattle.register_records.specs.declared.rows.Row.{Row}
use Rattle.register_records.specs.declared.setups.Setup.{Setup}
use Rattle.register_run.specs.private.JoinedThreads.{IsOfGiven}
use Rattle.register_run.specs.declared.stripes.Stripe.{Stripe}
use Rattle.register_run.specs.Histories.{IsOfMachine}

-- the same, and each row that was taken is of one of its entries
abbrev pub Carries : Option (List ℕ) → Setup → ℕ → List Stripe → (Row → Type 0) → Type 0
Carries text setup count stripes took =
    (machine : IsOfMachine text setup count stripes) × ((row : Row) → took row → IsOfGiven machine.given row)
