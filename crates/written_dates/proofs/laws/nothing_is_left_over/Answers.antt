use Rattle.written_dates.proofs.ReadLawLemmas.{nothing_is_left_over, long_numbers_are_years, months_are_months, years_of_the_republic}
use Rattle.written_dates.proofs.ReadLawLemmas.{year_words_name_years, named_years_are_whole, days_stand_behind_months}
use Rattle.written_dates.proofs.ReadLawLemmas.{roman_numbers_are_months}
use Rattle.written_dates.proofs.laws.nothing_is_left_over.Goals as goal

pub returns-clause-used : goal.returns-clause-used
returns-clause-used c = nothing_is_left_over

pub returns-clause-years : goal.returns-clause-years
returns-clause-years c = long_numbers_are_years

pub returns-clause-months : goal.returns-clause-months
returns-clause-months c = months_are_months

pub returns-clause-republic : goal.returns-clause-republic
returns-clause-republic c = years_of_the_republic

pub returns-clause-days : goal.returns-clause-days
returns-clause-days c = days_stand_behind_months

pub returns-clause-roman : goal.returns-clause-roman
returns-clause-roman c = roman_numbers_are_months

pub returns-clause-words : goal.returns-clause-words
returns-clause-words c = year_words_name_years

pub returns-clause-whole : goal.returns-clause-whole
returns-clause-whole c = named_years_are_whole
