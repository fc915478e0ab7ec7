use Rattle.std.proofs.Common.{arith, pos, refl}
use Rattle.day_numbers.proofs.SignedArithmeticLemmas.{signed_casts}
use Rattle.church_days.proofs.TestLemmas.{easter_on}
use Rattle.church_days.proofs.names.days_from_easter.Goals as goal

pub returns : goal.returns
returns c =
    let falls = (c.in_ok-date.ensures.only c.in_ok-date.date).0 refl in
    let on = easter_on c.args.church c.args.year (pos 0) c.in_ok-date.date falls in
    omega (
      arith,
      signed_casts,
      on,
      c.in_ok-easter.ensures,
      c.number.ensures.value,
      c.number.ensures.in_range,
      c.number-2.ensures.value,
      c.number-2.ensures.in_range,
    )
