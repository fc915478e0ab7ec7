use Rattle.std.proofs.Common.{◌≤◌, ◌∙◌, sym, arith}
use Rattle.page_rules.specs.private.FieldViews.{fields_left}
use Rattle.sheets.proofs.ListLemmas.{all_taken, one_taken}
use Rattle.page_rules.proofs.field_lists.FieldsLeft.take_record.Goals as goal

pub returns-in_default-clause-fields : goal.returns-in_default-clause-fields
returns-in_default-clause-fields c =
    let none = c.next.ensures.none c.in_default.is in
    let low : c.fields.counter ≤ c.args.count = omega (arith, c.fields-test.true) in
    c.fields.invariant.fields ∙ sym (all_taken _ _ c.args.count (sym c.fields.invariant.left ∙ none.0) low).0

pub returns-in_default-clause-left : goal.returns-in_default-clause-left
returns-in_default-clause-left c =
    let none = c.next.ensures.none c.in_default.is in
    let low : c.fields.counter ≤ c.args.count = omega (arith, c.fields-test.true) in
    let all = all_taken _ _ c.args.count (sym c.fields.invariant.left ∙ none.0) low in
    rw (none.1, all.1) none.0

pub fields-preserved : goal.fields-preserved
fields-preserved c =
    let one = one_taken (fields_left c.args.self.now) c.fields.counter c.in-Some.field.now
    (fields_left c.next.new.self) (sym c.fields.invariant.left ∙ c.in-Some.ensures.next) in
    let pushed = c.in_ok-push_field.ensures in
    record {
      fields = rw (pushed.fields, c.fields.invariant.fields, c.fields.invariant.partial) (sym one.0);
      partial = pushed.partial;
      left = sym one.1;
    }
