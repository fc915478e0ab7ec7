-- What the lanes of a source carry, in order.
use Rattle.std.specs.Prelude.{List, map}
use Rattle.lane_rings.specs.Items.{entries_in}
use Rattle.lane_rings.specs.declared.item.Item.{Item}
use Rattle.register_records.specs.Entries.{Numbered}
use Rattle.register_records.specs.Seen.{entry_seen}
use Rattle.register_records.specs.declared.entries.Entry.{Entry}
use Rattle.register_records.specs.declared.rows.Row.{Row}

-- the entries of the rows among the items, in order
abbrev pub row_entries : List (Item Row) → List Entry
row_entries items = map (λ (row : Row). row.entry) (entries_in items)

-- the entries that a lane of entries carried, and those whose rows a lane of rows carried, as a text has them
abbrev pub carried : List (Item Entry) → List Numbered
carried items = map entry_seen (entries_in items)

abbrev pub rows_carried : List (Item Row) → List Numbered
rows_carried items = map entry_seen (row_entries items)
