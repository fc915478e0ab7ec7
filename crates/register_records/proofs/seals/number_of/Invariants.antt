use Rattle.register_records.proofs.Common.{◌≡◌, ◌^◌, ◌<◌, true, take, all_digits, value_after}
use Rattle.register_records.proofs.seals.number_of.Given as goal

abbrev pub invariant-digits : goal.invariant-digits
invariant-digits l =
    record {
      digits : all_digits (take l.digit-index l.text) ≡ true;
      value : l.number ≡ value_after 0 (take l.digit-index l.text);
      small : l.number < 10 ^ l.digit-index;
    }
