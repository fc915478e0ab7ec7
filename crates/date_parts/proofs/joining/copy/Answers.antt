use Rattle.std.proofs.Common.{◌≡◌, ◌∙◌, ap, arith, false, rules, subst, sym, true}
use Rattle.std.specs.Prelude.{Ok}
use Rattle.csv.specs.Records.{fields_of}
use Rattle.sheets.specs.Reading.{left_of}
use Rattle.date_parts.specs.private.SheetViews.{GainsRecords}
use Rattle.sheets.proofs.ListLemmas.{all_taken, one_taken}
use Rattle.date_parts.proofs.RecordLemmas.{gains_more}
use Rattle.date_parts.proofs.joining.copy.Goals as goal

pub copied-preserved : goal.copied-preserved
copied-preserved c =
    let inv = c.copied.invariant in
    let yes : c.in_ok-read_next.field-0 ≡ true = search rules in
    let found = c.read_next.ensures.found (c.in_ok-read_next.was ∙ ap Ok yes) in
    let (taken, left) = one_taken (left_of c.args.records.now) c.copied.counter (fields_of c.read_next.new.record) _
    (sym inv.left ∙ found) in
    record {
      reading = c.read_next.ensures.reading (c.in_ok-read_next.was ∙ ap Ok yes);
      left = sym left;
      gained = gains_more _ _ _ _ _ _ inv.gained c.in_ok-put_own.ensures taken;
    }

pub returns-then-not-branch-clause-none : goal.returns-then-not-branch-clause-none
returns-then-not-branch-clause-none c e =
    let no : c.in_ok-read_next.field-0 ≡ false = search rules in
    let none = c.read_next.ensures.none (c.in_ok-read_next.was ∙ ap Ok no) in
    (all_taken (left_of c.args.records.now) c.copied.counter c.args.count (sym c.copied.invariant.left ∙ none)
    (omega arith)).1

pub returns-then-not-branch-clause-copied : goal.returns-then-not-branch-clause-copied
returns-then-not-branch-clause-copied c =
    let no : c.in_ok-read_next.field-0 ≡ false = search rules in
    let none = c.read_next.ensures.none (c.in_ok-read_next.was ∙ ap Ok no) in
    subst (λ taken. GainsRecords taken c.args.joined.now c.copied.joined)
    (sym (all_taken (left_of c.args.records.now) c.copied.counter c.args.count (sym c.copied.invariant.left ∙ none)
    (omega arith)).0) c.copied.invariant.gained
