use Rattle.std.proofs.Common.{◌≡◌, ◌<◌, ◌^◌, ◌∙◌, ℕ, List, Ok, Result, ap, arith, sym}
use Rattle.std.proofs.lemmas.Bool.{true≢false}
use Rattle.std.specs.Fmt.{decimal}
use Rattle.std.specs.Str.Parse.{ParsesUnsigned}
use Rattle.std.proofs.lemmas.Fmt.{parse-decimal}
use Rattle.sheets.proofs.name_meanings.number_of.Goals as goal

-- a field in decimal is read as its number
parsed : {E : Type 0} (number : ℕ) (field : List ℕ) (read : Result ℕ E) → number < 2 ^ 32 → field ≡ decimal number
    → ParsesUnsigned 32 10 field read → read ≡ Ok number
parsed number field read few is parses = parse-decimal 32 number field read (omega arith) (omega arith) is parses

pub returns-in_default-clause-none : goal.returns-in_default-clause-none
returns-in_default-clause-none c none number few is =
    let read = parsed number _ _ few is c.parse.ensures.value.0 in
    let same : c.in-Ok.number ≡ number = cc (c.in-Ok.is, read) in
    true≢false (sym (c.is_decimal.ensures.1 (is ∙ ap decimal (sym same))) ∙ c.if-is_decimal.false)

pub returns-in_default-2-clause-none : goal.returns-in_default-2-clause-none
returns-in_default-2-clause-none c none number few is =
    absurd (cc (c.in_default.is, parsed number _ _ few is c.parse.ensures.value.0))
