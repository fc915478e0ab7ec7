-- Which file serves which public clause:
--   RoundLemmas: a place by a remainder of the days moves one place on each day; for the files that follow.
--   HaabLemmas: `value` and `each_day` of `haab_on`, and the law `haab_days_in_range`.
--   TzolkinLemmas: `value` and `each_day` of `tzolkin_on`, and the law `tzolkin_numbers_in_range`.
--   NameListLemmas: the clauses of `Haab::day` and `Haab::month`, and the names, which are those of the lists.
--   LongCountLemmas: `value` and `only` of `long_on`.
pub mod RoundLemmas
pub mod HaabLemmas
pub mod TzolkinLemmas
pub mod LongCountLemmas
pub mod NameListLemmas
