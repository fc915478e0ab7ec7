-- Which file serves which public clause:
--   IslamicYearLemmas: `day_of` and `date_on` of Islamic, by the starts of years.
--   MonthSumLemmas, NewYearLemmas, the second upon the first: `value` of `hebrew_new_year`.
--   YearLengthLemmas: `start` of `hebrew_new_year`, the clauses of `hebrew_year_length`, and the years in `day_of` and
--     `date_on` of Hebrew.
--   MonthStartLemmas: the months in `date_on` of Hebrew.
pub mod IslamicYearLemmas
pub mod MonthStartLemmas
pub mod MonthSumLemmas
pub mod NewYearLemmas
pub mod YearLengthLemmas
