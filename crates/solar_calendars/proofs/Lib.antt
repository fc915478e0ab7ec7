-- Which file serves which public clause:
--   ThirteenMonthsLemmas: `day_of` and `date_on` of Coptic, Ethiopic, Egyptian, Armenian, French and Republican, by the
--     starts of years.
--   CenturyLemmas: years by their centuries; for IsoWeek and French.
--   GregorianLemmas: `day_of` and `date_on` of Gregorian, by `jiff` and by the rules.
--   JulianLemmas: `day_of` and `date_on` of Julian, by the starts of years.
--   IsoWeekLemmas: `day_of` and `date_on` of IsoWeek.
--   RomanMonthLemmas, RomanPlaceLemmas: the clauses of `roman_day_of` and `roman_on`, and the law `one_roman_date`.
--   KnownDateExamples: the definitions computed on known dates; it serves no clause.
pub mod Common
pub mod ThirteenMonthsLemmas
pub mod CenturyLemmas
pub mod GregorianLemmas
pub mod JulianLemmas
pub mod RomanMonthLemmas
pub mod RomanPlaceLemmas
pub mod IsoWeekLemmas
mod KnownDateExamples
