use Rattle.std.proofs.Common.{◌≡◌, ◌++◌, length, map, take}
use Rattle.std.specs.List.{concat}
use Rattle.csv.specs.Records.{fields_of}
use Rattle.sheets.specs.Sheets.{chosen}
use Rattle.page_rules.proofs.picking.Picked.push_chosen.Given as goal

abbrev pub invariant-places : goal.invariant-places
invariant-places l =
    record {
      bytes : l.self.bytes.items
          ≡ l.fn.self.bytes.items ++ concat (chosen (take l.place-index l.places) (fields_of l.record));
      lengths : l.self.lengths.items
          ≡ l.fn.self.lengths.items ++ map length (chosen (take l.place-index l.places) (fields_of l.record));
      records : l.self.records ≡ l.fn.self.records;
      widest : l.self.widest ≡ l.fn.self.widest;
    }
