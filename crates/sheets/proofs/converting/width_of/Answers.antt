use Rattle.std.proofs.Common.{◌≡◌, ◌∙◌, [], ap, arith, false, refl, rules, true, Ok}
use Rattle.sheets.proofs.Common.{text_records}
use Rattle.std.proofs.lemmas.List.{drop_more}
use Rattle.sheets.proofs.ReadingLemmas.{begun_reads}
use Rattle.sheets.proofs.converting.width_of.Goals as goal

pub records-init : goal.records-init
records-init c =
    let yes : c.in_ok-pass_names.field-0 ≡ true = search rules in
    let there = c.in_ok-pass_names.was ∙ ap Ok yes in
    let passed = c.pass_names.ensures in
    let all = text_records c.args.delimiter c.args.sheet.now in
    let is = c.records_of-records.ensures.left in
    let named = rw is at (passed.named there) in
    record {
      reading = begun_reads c.pass_names.new.records (passed.reading there);
      named = named;
      width = rw (c.len-width.ensures, passed.found there, passed.left there, is, drop_more all c.args.above [] named) refl;
    }

pub records-preserved : goal.records-preserved
records-preserved c =
    let yes : c.in_ok-read_next.field-0 ≡ true = search rules in
    let there = c.in_ok-read_next.was ∙ ap Ok yes in
    let inv = c.records.invariant in
    let width = rw (c.read_next.ensures.found there) at inv.width in
    record {
      reading = c.read_next.ensures.reading there;
      named = inv.named;
      width = omega (arith, width, c.max-width.ensures, c.len.ensures);
    }

pub returns-then-not-branch-2 : goal.returns-then-not-branch-2
returns-then-not-branch-2 c =
    let no : c.in_ok-read_next.field-0 ≡ false = search rules in
    let none = c.read_next.ensures.none (c.in_ok-read_next.was ∙ ap Ok no) in
    let width = rw none at c.records.invariant.width in
    record { some = (c.records.invariant.named, omega (arith, width)); none = tt }
