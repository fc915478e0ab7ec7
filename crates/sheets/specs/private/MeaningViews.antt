-- What a clause sees of the texts of meanings.
use Rattle.std.specs.Prelude.{Bool, true, false}
use Rattle.written_dates.specs.declared.meanings.Meaning.{Meaning}
use Rattle.written_dates.specs.declared.meanings.Meaning.TheVariants as meaning

-- a meaning is said by one text alone
abbrev pub is_bare : Meaning → Bool
is_bare meaning.Nothing = true
is_bare meaning.DayWord = true
is_bare meaning.Adar = true
is_bare meaning.LastDay = true
is_bare meaning.Decade = true
is_bare other = false

-- it is said with numbers, of which there are some
abbrev pub is_counted : Meaning → Bool
is_counted (meaning.Number number) = true
is_counted (meaning.Month month) = true
is_counted (meaning.Months first last) = true
is_counted (meaning.Part place parts) = true
is_counted (meaning.DecadeDay day) = true
is_counted (meaning.Century first) = true
is_counted other = false

-- it is said by one of some names
abbrev pub is_named : Meaning → Bool
is_named (meaning.YearWord era) = true
is_named (meaning.Word word) = true
is_named (meaning.Mark mark) = true
is_named (meaning.Weekday weekday) = true
is_named (meaning.Relation relation) = true
is_named (meaning.Sundays season) = true
is_named (meaning.Feast feast) = true
is_named other = false
