-- The law of Roman dates.
use Rattle.std.specs.Prelude.{◌≡◌}
use Rattle.solar_calendars.specs.Roman.{roman_day_number, IsRomanDate}
use Rattle.solar_calendars.specs.declared.roman_date.RomanDate.{RomanDate}

-- two valid Roman dates of one day are one date, also where its number is out of range
abbrev pub OneRomanDate : Type 0
OneRomanDate =
    (d e : RomanDate) → IsRomanDate d.year d.month d.name → IsRomanDate e.year e.month e.name
    → roman_day_number d.year d.month d.name ≡ roman_day_number e.year e.month e.name → d ≡ e
