-- What a source's table holds, by the rows that were taken from its stripes.
use Rattle.std.specs.Prelude.{ℕ, IfOk, List, Option}
use Rattle.std.specs.List.{Contains}
use Rattle.register_records.specs.declared.outputs.Output as outputs
use Rattle.register_records.specs.declared.rows.Row.{Row}
use Rattle.register_records.specs.declared.tables.Table.{Table}
use Rattle.register_records.specs.TablesWritten.{Holds}
use Rattle.register_records.specs.Views.{reading_of}
use Rattle.register_run.specs.declared.stripes.Stripe.{Stripe}
use Rattle.register_run.specs.declared.reading.Sent.{Sent}
use Rattle.register_run.specs.private.Histories.{Carries}
use Rattle.register_run.specs.private.Stripes.{AnyTook}
use Rattle.register_run.specs.private.JoinedThreads.{HasPassed}

module _ {W : Type 0} (o : outputs.Ghosts W) where
  -- the rows of the table were taken from the stripes, or were seen to be next
  abbrev pub Wrote : List Stripe → Table W → W → Type 0
  Wrote stripes table output =
      (rows : List Row) × Holds o table output rows × ((row : Row) → Contains rows row → AnyTook stripes row)

  -- the threads of the source have ended with this outcome, and the rows of the table are those that were taken from
  -- these stripes
  abbrev pub Concludes : Option (List ℕ) → Table W → W → Sent → List Stripe → Type 0
  Concludes text table output sent stripes =
      (rows : List Row) × Holds o table output rows × HasPassed text (reading_of table.setup) sent (λ row. Contains rows row)
      × IfOk sent.outcome (λ count. ∥ Carries text table.setup count stripes (λ row. Contains rows row) ∥₁)
