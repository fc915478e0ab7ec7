use Rattle.std.proofs.Common.{◌≡◌, ◌<◌, ◌++◌, arith, length, rules}
use Rattle.std.proofs.lemmas.List.{take_all}
use Rattle.std.proofs.lemmas.List.Elements.{All-more}
use Rattle.register_records.specs.Entries.{text_records}
use Rattle.page_rules.proofs.LineLemmas.{one_more}
use Rattle.page_rules.proofs.orders.records_in_order.Goals as goal

pub indices-preserved : goal.indices-preserved
indices-preserved c =
    let inv = c.indices.invariant in
    let records = text_records c.args.delimiter c.args.text.now in
    let lt : c.indices.index-index < length c.args.indices.now = c.indices-test.true in
    let there = c.in-Some.ensures c.args.delimiter records c.in_ok-lines.ensures in
    let grown : c.extend_from_slice.new.self.items ≡ c.indices.made.items ++ c.in-Some.line.now = search rules in
    record {
      made = one_more c.args.delimiter records c.args.indices.now c.indices.made.items c.in-Some.line.now _
          c.indices.index-index lt inv.made there.1 grown;
      there = All-more (λ index. index < length records) c.args.indices.now c.indices.index-index 0 lt inv.there there.0;
    }

pub returns-clause-there : goal.returns-clause-there
returns-clause-there c = rw (take_all c.indices.index-index c.args.indices.now (omega arith)) at c.indices.invariant.there
