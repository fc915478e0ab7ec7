use Rattle.std.proofs.Common.{◌≡◌, length}
use Rattle.std.specs.Prelude.{option_map}
use Rattle.written_dates.specs.Parts.{parts}
use Rattle.written_dates.specs.Names.{names_in}
use Rattle.written_dates.specs.Items.{items}
use Rattle.written_dates.specs.private.ItemViews.{resumed}
use Rattle.written_dates.specs.Sums.{found_items}
use Rattle.written_dates.proofs.items.items_of.Given as goal

abbrev pub invariant-items : goal.invariant-items
invariant-items g l =
    found_items l.calendar l.names.listed.now l.fn.text
    ≡ option_map (resumed l.found.items) (items (names_in l.calendar l.names.listed.now) 0 (parts l.rest))

abbrev pub decreases-items : goal.decreases-items
decreases-items g l = length l.rest
