use Rattle.std.proofs.Common.{◌≡◌, [], drop, take}
use Rattle.csv.specs.Records.{fields_of, partial_of}
use Rattle.page_rules.specs.private.FieldViews.{fields_left}
use Rattle.page_rules.proofs.field_lists.FieldsLeft.take_record.Given as goal

abbrev pub invariant-fields : goal.invariant-fields
invariant-fields l =
    record {
      fields : fields_of l.row ≡ take l.counter (fields_left l.fn.self);
      partial : partial_of l.row ≡ [];
      left : fields_left l.self ≡ drop l.counter (fields_left l.fn.self);
    }
