-- Which file serves which public clause:
--   RulesLemmas: `day_of` and `date_on` of each calendar by rules, by way of `day_by_rules` and `date_by_rules`. The
--     step from year to year, by which a formula meets the sums, is its `start_is`.
--   DateLemmas: `only` of `date_on`, and the laws `one_date` and `dates_have_days`.
--   NameLemmas: `Weekday::name`, and names in the crates above.
--   SignedArithmeticLemmas: quotients and remainders of signed numbers, for RulesLemmas and the crates of calendars.
pub mod NameLemmas
pub mod SignedArithmeticLemmas
pub mod RulesLemmas
pub mod DateLemmas
