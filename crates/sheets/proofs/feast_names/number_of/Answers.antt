use Rattle.std.proofs.Common.{◌≡◌, ◌∙◌, FitsSigned, to_z-of_z, ℤ, List, ℕ, w16, rules, Ok, Result, ap, sym}
use Rattle.std.proofs.lemmas.Bool.{true≢false}
use Rattle.std.specs.Fmt.{signed_decimal}
use Rattle.std.specs.Str.Parse.{ParsesSigned}
use Rattle.std.proofs.lemmas.Fmt.{parse-signed_decimal}
use Rattle.std.proofs.lemmas.Int.{ints}
use Rattle.sheets.specs.NameMeanings.{IsFewDays}
use Rattle.sheets.proofs.MeaningLemmas.{few_mag}
use Rattle.sheets.proofs.feast_names.number_of.Goals as goal

-- a field in decimal is read as its number
parsed : {E : Type 0} (number : ℤ) (field : List ℕ) (read : Result ℤ E) → IsFewDays number
    → field ≡ signed_decimal number → ParsesSigned w16 10 field read → read ≡ Ok number
parsed number field read few is parses =
    parse-signed_decimal w16 number field read (search (rules, ints)) (few_mag number few) is parses

pub returns-in_default-clause-none : goal.returns-in_default-clause-none
returns-in_default-clause-none c none number fits is =
    let read = parsed number _ _ fits is c.parse.ensures.value.0 in
    let same : c.in-Ok.number ≡ number = cc (c.in-Ok.is, read) in
    let fits : FitsSigned w16 c.in-Ok.number = search rules in
    true≢false (sym (c.is_decimal.ensures.1 (is ∙ ap signed_decimal (sym same ∙ sym (to_z-of_z fits))))
    ∙ c.if-is_decimal.false)

pub returns-in_default-2-clause-none : goal.returns-in_default-2-clause-none
returns-in_default-2-clause-none c none number fits is =
    absurd (cc (c.in_default.is, parsed number _ _ fits is c.parse.ensures.value.0))
