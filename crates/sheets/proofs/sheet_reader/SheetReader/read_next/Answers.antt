use Rattle.std.proofs.Common.{◌≡◌, ◌∙◌, arith, false, refl, rules, true}
use Rattle.sheets.proofs.Common.{record_read}
use Rattle.sheets.proofs.ReadingLemmas.{all_given, given_more, not_given}
use Rattle.sheets.proofs.sheet_reader.SheetReader.read_next.Goals as goal

pub invariant_of-self : goal.invariant_of-self
invariant_of-self c =
    let self = c.args.self.now in
    let found : c.in-Ok-true.field-0 ≡ true = search rules in
    let next = rw (c.in-Ok-true.is, found) at c.read_record-found.ensures.found in
    let more = given_more _ _ _ self.given c.push.new.self (record_read c.read_record-found.new.of_sheet) self.count
    (self.left c.requires) next.found self.first c.push.ensures in
    record {
      live = λ _. next.begun;
      sized = c.read_record-found.ensures.sized ∙ self.sized;
      called = rw c.read_record-found.ensures.names self.called;
      counted = omega (arith, more.2, self.counted);
      few = omega (arith, next.few);
      first = more.0;
      left = λ _. more.1;
    }

pub returns-in-Ok-true : goal.returns-in-Ok-true
returns-in-Ok-true c =
    let self = c.args.self.now in
    let found : c.in-Ok-true.field-0 ≡ true = search rules in
    let next = rw (c.in-Ok-true.is, found) at c.read_record-found.ensures.found in
    record {
      setup = refl;
      records = refl;
      given = rw found (record {
        gives = c.push.ensures;
        read = next.read;
        number = omega (arith, next.number, self.counted);
        few = omega (arith, next.few, self.counted);
        goes = c.requires;
      });
    }

pub returns-in-Ok-false : goal.returns-in-Ok-false
returns-in-Ok-false c =
    let self = c.args.self.now in
    let no : c.in-Ok-false.field-0 ≡ false = search rules in
    let none = rw (c.in-Ok-false.is, no) at c.read_record-found.ensures.found in
    record {
      setup = refl;
      records = refl;
      given = rw no (refl, all_given _ _ self.given self.count (self.left c.requires) none self.first);
    }

pub returns-in-Err : goal.returns-in-Err
returns-in-Err c =
    let self = c.args.self.now in
    let found = c.read_record-found in
    record {
      setup = refl;
      records = refl;
      given = rw c.in-Err.is (
        refl,
        not_given self.setup.choice self.count _ found.new.records found.new.of_sheet _ self.given
            _ self.counted (self.left c.requires) c.in-Err.ensures.found,
      );
    }
