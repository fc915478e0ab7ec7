-- The names of specs and of crates below that these proofs cite, passed on from one place.
pub use Rattle.date_texts.proofs.DigitLemmas.{one_or_two, two_digits}
pub use Rattle.date_texts.specs.Buffers.{IsPut, padded}
pub use Rattle.date_texts.specs.Calendars.{IsCivil, IsDateBy, Reckoning, all_targets, by_rules, by_weeks, calendar_name}
pub use Rattle.date_texts.specs.Calendars.{day_number_by, first_day_by, grammar, reckoning, target_name}
pub use Rattle.date_texts.specs.Cells.{IsCell, IsDateCell, is_plain, no_date, numbered_name, on_date}
pub use Rattle.date_texts.specs.DateText.{IsDateText, SaysDate, canonical_text}
pub use Rattle.date_texts.specs.Dates.{IsDateOfCalendar, calendar_of_date, day_number_of_date}
pub use Rattle.date_texts.specs.Laws.{CellsAreShort, FewTargets, OneCell}
pub use Rattle.date_texts.specs.LongText.{IsLongText, canonical_long}
pub use Rattle.date_texts.specs.private.LongText.{place_row}
pub use Rattle.date_texts.specs.Names.{IsNamed}
pub use Rattle.date_texts.specs.Numerals.{IsNumeral, IsYearText, canonical_year, minus, plain}
pub use Rattle.date_texts.specs.Trimmed.{trim_start, trimmed}
pub use Rattle.date_texts.specs.declared.calendar.Calendar.{Calendar}
pub use Rattle.date_texts.specs.declared.calendar.Calendar.TheVariants.{Gregorian, Iso, Longcount}
pub use Rattle.date_texts.specs.declared.calendar.Calendar.TheVariants.{Roman as RomanCalendar}
pub use Rattle.date_texts.specs.declared.date.CivilDate.{CivilDate}
pub use Rattle.date_texts.specs.declared.date.Date.{Date}
pub use Rattle.date_texts.specs.declared.date.Date.TheVariants.{Civil, Long, Roman}
pub use Rattle.date_texts.specs.declared.grammar.Grammar.{Grammar}
pub use Rattle.date_texts.specs.declared.target.Target.{Target}
pub use Rattle.day_numbers.proofs.DateLemmas.{rules_have_days, rules_one_date, same_made, ymd_same}
pub use Rattle.day_numbers.specs.Dates.{IsBetween, IsYear}
pub use Rattle.day_numbers.specs.declared.ymd.Ymd.{Ymd}
pub use Rattle.maya_calendars.proofs.LongCountLemmas.{day_since_epoch, one_long_count, same_places}
pub use Rattle.maya_calendars.specs.declared.long_count.LongCount.{LongCount}
pub use Rattle.solar_calendars.proofs.RomanPlaceLemmas.{month_of, placed, roman_same}
pub use Rattle.solar_calendars.specs.Roman.{IsRomanDate, count_of, has_two_sixths}
pub use Rattle.solar_calendars.specs.declared.roman_date.RomanName.{RomanName}
pub use Rattle.std.proofs.Props.{props}
pub use Rattle.std.proofs.lemmas.Bool.{and_parts, cases_lt, false_from_ne_true}
pub use Rattle.std.proofs.lemmas.Bool.Decides.{eqb_tells, nat_tests, same_from_decides}
pub use Rattle.std.proofs.lemmas.Int.{by_lt_z, ints}
pub use Rattle.std.proofs.lemmas.List.{get_or-map, length-map, length-replicate, reverse-append, reverse-reverse}
pub use Rattle.std.proofs.lemmas.List.Folds.{find_at, list_all-append}
pub use Rattle.std.specs.Char.{is_ascii_alphanumeric, is_ascii_digit, to_ascii_lowercase}
pub use Rattle.std.specs.Fmt.{decimal}
pub use Rattle.std.specs.List.{list_all, list_any, position_or_len}
pub use Rattle.std.specs.Str.{bytes_eq, str_eq_ignore_ascii_case, str_to_ascii_lowercase}
