-- What is read of the word is its number, since it has no sign.
use Rattle.std.proofs.Common.{◌≢◌, get_or, rules}
use Rattle.programs.proofs.ValueLemmas.{none_read, number_read}
use Rattle.programs.proofs.values.number_named.Goals as goal

pub returns-in_default-clause-named : goal.returns-in_default-clause-named
returns-in_default-clause-named c =
    let plain : get_or c.args.word.now 0 0 ≢ 43 = search rules in
    none_read c.args.word.now c.args.most c.parse.result c.in_default.field-0 c.parse.ensures.value.0 plain
    c.if-word-gt-MAX_DIGITS.false c.in_default.is

pub returns-then-number-most-clause-named : goal.returns-then-number-most-clause-named
returns-then-number-most-clause-named c =
    let plain : get_or c.args.word.now 0 0 ≢ 43 = search rules in
    number_read c.args.word.now c.args.most c.in-Ok.number c.parse.result c.parse.ensures.value.0 plain
    c.if-word-gt-MAX_DIGITS.false c.in-Ok.is c.if-number-ge1.true c.if-number-most.true
