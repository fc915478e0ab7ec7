-- What holds of the dates of every calendar by rules. The trait `CalendarByRules` asks for it.
use Rattle.std.specs.Prelude.{◌≡◌}
use Rattle.day_numbers.specs.Rules.{Rules, IsDateOf, day_number_of, HasDayOf}
use Rattle.day_numbers.specs.declared.ymd.Ymd.{Ymd}

-- two dates of one day are one date, and each date's day is one that the calendar has
abbrev pub HasOneDateOnEachDay : Rules → Type 0
HasOneDateOnEachDay r =
    ((d e : Ymd) → IsDateOf r d.year d.month d.day → IsDateOf r e.year e.month e.day
    → day_number_of r d.year d.month d.day ≡ day_number_of r e.year e.month e.day → d ≡ e)
    × ((d : Ymd) → IsDateOf r d.year d.month d.day → HasDayOf r (day_number_of r d.year d.month d.day))
