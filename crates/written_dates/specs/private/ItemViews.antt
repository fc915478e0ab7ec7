-- Items of which the last may still grow.
use Rattle.std.specs.Prelude.{List, [], ◌∷◌}
use Rattle.written_dates.specs.declared.items.Item.{Item}
use Rattle.written_dates.specs.Sums.{summed, summed_from}

-- what items so far, in which numbers that add up are one, and those behind them become
unfoldable pub resumed : List Item → List Item → List Item
resumed [] rest = summed rest
resumed (x ∷ []) rest = summed_from x rest
resumed (x ∷ y ∷ more) rest = x ∷ resumed (y ∷ more) rest
