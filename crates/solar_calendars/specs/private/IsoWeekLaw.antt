-- The law of the calendar trait for week dates: a day has one.
use Rattle.std.specs.Prelude.{◌≡◌, ℕ, ℤ, pos, ◌+ℤ◌, ◌≤ℤ◌, ◌<ℤ◌}
use Rattle.std.proofs.Common.{ap, arith}
use Rattle.std.proofs.lemmas.Int.{by_lt_z}
use Rattle.day_numbers.specs.Rules.{with_zero, year_length}
use Rattle.day_numbers.specs.declared.ymd.Ymd.{Ymd}
use Rattle.day_numbers.proofs.RulesLemmas.{start_mono}
use Rattle.day_numbers.proofs.DateLemmas.{ymd_same}
use Rattle.day_numbers.proofs.SignedArithmeticLemmas.{signed_arith}
use Rattle.solar_calendars.specs.Gregorian.{gregorian_rules}
use Rattle.solar_calendars.specs.IsoWeek.{week_year_start, IsWeekDate, week_day_number}

-- years of weeks begin in their order
week_years_follow : (y z : ℤ) → y <ℤ z → week_year_start (y +ℤ pos 1) ≤ℤ week_year_start z
unfolding week_year_start
week_years_follow y z lt =
    let le : (y +ℤ pos 1) ≤ℤ z = omega (arith, signed_arith) in
    let later = start_mono with_zero gregorian_rules.epoch (year_length gregorian_rules) (y +ℤ pos 1) z le in
    omega (arith, signed_arith, later)

-- so two week dates of one day have the same parts
week_unique : (y z : ℤ) (w v d e : ℕ) → IsWeekDate y w d → IsWeekDate z v e
    → week_day_number y w d ≡ week_day_number z v e → (y ≡ z) × (w ≡ v) × (d ≡ e)
week_unique y z w v d e h g same =
    let year : y ≡ z = by_lt_z y z (λ lt. absurd (omega (arith, signed_arith, week_years_follow y z lt, h, g, same)))
    (λ ge. by_lt_z z y (λ gt. absurd (omega (arith, signed_arith, week_years_follow z y gt, h, g, same)))
    (λ le. omega (arith, signed_arith))) in
    let start : week_year_start y ≡ week_year_start z = ap week_year_start year in
    (year, omega (arith, signed_arith, h, g, same, start), omega (arith, signed_arith, h, g, same, start))

-- and are one date
pub one_week_date : (d e : Ymd) → IsWeekDate d.year d.month d.day → IsWeekDate e.year e.month e.day
    → week_day_number d.year d.month d.day ≡ week_day_number e.year e.month e.day → d ≡ e
one_week_date d e h g same =
    let parts = week_unique d.year e.year d.month e.month d.day e.day h g same in
    ymd_same d e parts.0 parts.1 parts.2
