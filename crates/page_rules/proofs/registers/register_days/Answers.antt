use Rattle.std.proofs.Common.{◌≡◌, ◌∙◌, ◌++◌, ◌∷◌, [], IfSome, Ok, ap, arith, false, length, length-append}
use Rattle.std.proofs.Common.{refl, rules, sym, true}
use Rattle.std.specs.Prelude.{is_err}
use Rattle.register_records.specs.Causes.{entry_fault_cause}
use Rattle.register_records.specs.Entries.{HasAllEntries, HasEntries, HasTooMany, IsNotSealed, Reading}
use Rattle.register_records.specs.Seen.{entry_seen}
use Rattle.register_records.specs.Views.{given_of, row_seen, targets_of}
use Rattle.register_records.proofs.StepLemmas.{passed_on}
use Rattle.register_records.proofs.TableLemmas.{of_reader, only_many, only_not_sealed}
use Rattle.page_rules.proofs.DayLemmas.{as_many, days_given, one_more, only_header, part_given}
use Rattle.page_rules.proofs.registers.register_days.Goals as goal

pub returns-in_err-entries-clause-bad_header : goal.returns-in_err-entries-clause-bad_header
returns-in_err-entries-clause-bad_header c =
    passed_on _ (entry_fault_cause c.in_err-entries.field-0.0) _ c.from_residual.ensures.1 (λ is. (
      c.in_err-entries.ensures.bad (only_header c.in_err-entries.field-0.0 _ refl is),
      c.clear.ensures.items,
    ))

pub returns-in_err-read_next-clause-part : goal.returns-in_err-read_next-clause-part
returns-in_err-read_next-clause-part c =
    let inv = c.entries.invariant in
    passed_on _ (entry_fault_cause c.in_err-read_next.field-0.0) _ c.from_residual-in_err-read_next.ensures.1
    (part_given _ _ _ _ _ _ _ inv.text inv.by c.entries.entries.first inv.days)

pub returns-in_err-read_next-clause-too_many : goal.returns-in_err-read_next-clause-too_many
returns-in_err-read_next-clause-too_many c =
    let inv = c.entries.invariant in
    let read = c.in_err-read_next.ensures.reads in
    passed_on _ (entry_fault_cause c.in_err-read_next.field-0.0) _ c.from_residual-in_err-read_next.ensures.1 (λ is.
    let past = read.many (only_many c.in_err-read_next.field-0.0 _ refl is) in (
      of_reader (λ reading text _. IfSome text (λ t. HasTooMany reading t)) _ _ _ _ [] [] (read.text.0 ∙ inv.text)
          (read.text.1 ∙ inv.by) refl past.1,
      as_many _ _ _ inv.days ∙ past.0,
    ))

pub returns-in_err-read_next-clause-not_sealed : goal.returns-in_err-read_next-clause-not_sealed
returns-in_err-read_next-clause-not_sealed c =
    let inv = c.entries.invariant in
    let read = c.in_err-read_next.ensures.reads in
    let text = read.text.0 ∙ inv.text in let by = read.text.1 ∙ inv.by in
    passed_on _ (entry_fault_cause c.in_err-read_next.field-0.0) _ c.from_residual-in_err-read_next.ensures.1 (λ is.
    let which = only_not_sealed c.in_err-read_next.field-0.0 _ refl is in
    let lacks = read.not_sealed which in (
      sym (ap (λ (reading : Reading). reading.form) by) ∙ lacks.0,
      of_reader (λ reading text _. IfSome text (λ t. IsNotSealed reading t)) _ _ _ _ [] [] text by refl lacks.1,
      days_given HasAllEntries _ _ _ _ _ _ _ _ text by read.kept (read.above which) inv.days,
    ))

pub returns-then-is_err-clause-part : goal.returns-then-is_err-clause-part
returns-then-is_err-clause-part c =
    let inv = c.entries.invariant in
    let kept : c.push.new.self.items ≡ c.entries.days.items = search rules in
    rw kept (part_given _ _ _ _ _ _ _ inv.text inv.by c.entries.entries.first inv.days)

pub entries-smaller : goal.entries-smaller
entries-smaller c =
    let yes : c.in_ok-read_next.field-0 ≡ true = search rules in
    let read = c.read_next.ensures.reads in
    let found = c.in_ok-read_next.was ∙ ap Ok yes in
    let given = read.gives found in
    let number = read.number found in
    omega (
      arith,
      number,
      ap length given,
      length-append (given_of c.entries.entries) (entry_seen c.read_next.new.entry ∷ []),
    )

pub entries-preserved : goal.entries-preserved
entries-preserved c =
    let inv = c.entries.invariant in
    let yes : c.in_ok-read_next.field-0 ≡ true = search rules in
    let read = c.read_next.ensures.reads in
    let found = c.in_ok-read_next.was ∙ ap Ok yes in
    let pushed : c.push.new.self.items ≡ c.entries.days.items ++ c.of.result ∷ [] = search rules in
    record {
      text = read.text.0 ∙ inv.text;
      by = read.text.1 ∙ inv.by;
      failed = read.fails ∙ ap is_err found;
      days = rw (read.gives found, pushed) (one_more (targets_of c.args.setup.now) (given_of c.entries.entries)
          c.entries.days.items (entry_seen c.read_next.new.entry) (row_seen c.renew.new.self) c.of.result inv.days
          c.renew.ensures.row c.of.ensures);
    }

pub returns-clause-whole : goal.returns-clause-whole
returns-clause-whole c =
    let inv = c.entries.invariant in
    let no : c.in_ok-read_next.field-0 ≡ false = search rules in
    let read = c.read_next.ensures.reads in
    let end = c.in_ok-read_next.was ∙ ap Ok no in
    days_given HasEntries _ _ _ _ _ _ _ _ (read.text.0 ∙ inv.text) (read.text.1 ∙ inv.by) (read.ends end).1
    (read.all end) inv.days
