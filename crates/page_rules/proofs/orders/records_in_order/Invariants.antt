use Rattle.std.proofs.Common.{◌≡◌, ◌<◌, All, length, take}
use Rattle.register_records.specs.Entries.{text_records}
use Rattle.page_rules.specs.Orders.{records_at}
use Rattle.sheets.specs.Sheets.{records_text}
use Rattle.page_rules.proofs.orders.records_in_order.Given as goal

abbrev pub invariant-indices : goal.invariant-indices
invariant-indices l =
    record {
      made : l.made.items
          ≡ records_text l.delimiter (records_at (text_records l.delimiter l.text) (take l.index-index l.indices));
      there : All (λ index. index < length (text_records l.delimiter l.text)) (take l.index-index l.indices);
    }
