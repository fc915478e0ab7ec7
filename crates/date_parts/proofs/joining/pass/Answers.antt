use Rattle.std.proofs.Common.{◌≡◌, ◌∙◌, ap, arith, false, rules, sym, true}
use Rattle.std.specs.Prelude.{Ok}
use Rattle.csv.specs.Records.{fields_of}
use Rattle.sheets.specs.Reading.{left_of}
use Rattle.sheets.proofs.ListLemmas.{all_taken, one_taken}
use Rattle.date_parts.proofs.joining.pass.Goals as goal

pub passed-preserved : goal.passed-preserved
passed-preserved c =
    let inv = c.passed.invariant in
    let yes : c.in_ok-read_next.field-0 ≡ true = search rules in
    let found = c.read_next.ensures.found (c.in_ok-read_next.was ∙ ap Ok yes) in
    let (taken, left) = one_taken (left_of c.args.records.now) c.passed.counter (fields_of c.read_next.new.record) _
    (sym inv.left ∙ found) in
    record { reading = c.read_next.ensures.reading (c.in_ok-read_next.was ∙ ap Ok yes); left = sym left }

pub returns-then-not-branch-clause-none : goal.returns-then-not-branch-clause-none
returns-then-not-branch-clause-none c e =
    let no : c.in_ok-read_next.field-0 ≡ false = search rules in
    let none = c.read_next.ensures.none (c.in_ok-read_next.was ∙ ap Ok no) in
    (all_taken (left_of c.args.records.now) c.passed.counter c.args.count (sym c.passed.invariant.left ∙ none)
    (omega arith)).1
