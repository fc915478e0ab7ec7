-- The names of specs and of crates below that these proofs cite, passed on from one place.
pub use Rattle.day_numbers.proofs.SignedArithmeticLemmas.{signed_arith, signed_casts}
pub use Rattle.day_numbers.specs.Dates.{IsBetween, IsYear}
pub use Rattle.day_numbers.specs.Days.{IsDayNumber}
pub use Rattle.day_numbers.specs.Rules.{HasYear, IsDateOf, day_number_of, days_before_month, days_of_month}
pub use Rattle.day_numbers.specs.Rules.{numbered_from, total_days, with_zero, without_zero, year_length, year_start}
pub use Rattle.solar_calendars.specs.Gregorian.{gregorian_rules, is_gregorian_leap}
pub use Rattle.solar_calendars.specs.Julian.{is_julian_leap, julian_rules}
pub use Rattle.solar_calendars.specs.private.Julian.{years_before}
pub use Rattle.solar_calendars.specs.TwelveMonths.{twelve_months}
pub use Rattle.solar_calendars.specs.declared.roman_date.RomanName.{RomanName}
pub use Rattle.solar_calendars.specs.declared.roman_date.RomanName.TheVariants.{Ides, Kalends, Nones, SecondSixth}
pub use Rattle.std.proofs.lemmas.Bool.{cases_eq, cases_lt, le-leb, lt-leb}
pub use Rattle.std.proofs.lemmas.Bool.Decides.{nat_tests}
pub use Rattle.std.proofs.lemmas.Int.{by_lt_z, ints}
pub use Rattle.std.specs.Int.{int_div_euclid}
