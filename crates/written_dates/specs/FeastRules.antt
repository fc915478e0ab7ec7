-- What items say as a day named by a feast, by rules of this project. A weekday among them has to be that of the day: this
-- is tested of every date that is found, and not here.
use Rattle.std.specs.Prelude.{not, ◌&&◌, ◌==◌, nat_le, if◌then◌else◌, List, [], ◌∷◌, Option, Some, None, pos, neg_ℤ}
use Rattle.std.specs.Ordering.{int_eq}
use Rattle.day_numbers.specs.declared.day.Weekday.{Weekday as Day}
use Rattle.church_year.specs.declared.feasts.Anchor.TheVariants.{Fixed, Easter}
use Rattle.church_year.specs.declared.feasts.Feast.{Feast as Festival}
use Rattle.church_year.specs.declared.feasts.Feast.TheVariants as feasts
use Rattle.church_year.specs.declared.feasts.Season.{Season}
use Rattle.church_year.specs.declared.feasts.Season.TheVariants as seasons
use Rattle.church_year.specs.declared.feasts.Place.{Place}
use Rattle.church_year.specs.declared.feasts.Place.TheVariants as places
use Rattle.written_dates.specs.declared.meanings.Relation.{Relation as Related}
use Rattle.written_dates.specs.declared.meanings.Relation.TheVariants.{After, Before, Eve, Morrow, Octave}
use Rattle.written_dates.specs.declared.items.Number.{Number as Numeral}
use Rattle.written_dates.specs.declared.items.Item.{Item}
use Rattle.written_dates.specs.declared.items.Item.TheVariants.{Number, Weekday, Relation, Feast, Sundays}
use Rattle.written_dates.specs.declared.feast_rules.Naming.{Naming}
use Rattle.written_dates.specs.Items.{is_long}

-- a weekday, a number or a relation in front, if one is, and what follows
abbrev pub weekday_first : List Item → Option Day × List Item
weekday_first (Weekday w ∷ rest) = (Some w, rest)
weekday_first rest = (None, rest)

abbrev pub number_first : List Item → Option Numeral × List Item
number_first (Number n ∷ rest) = (Some n, rest)
number_first rest = (None, rest)

abbrev pub relation_first : List Item → Option Related × List Item
relation_first (Relation r ∷ rest) = (Some r, rest)
relation_first rest = (None, rest)

-- the season whose Sundays are counted after a feast: Epiphany, Easter, Pentecost or Trinity
abbrev pub season_after : Festival → Option Season
season_after (feasts.Day (Fixed m d) days) =
    if (m == 1) && (d == 6) && int_eq days (pos 0) then Some seasons.Epiphany else None
season_after (feasts.Day Easter days) =
    if int_eq days (pos 0) then Some seasons.Easter
    else if int_eq days (pos 49) then Some seasons.Pentecost
    else if int_eq days (pos 56) then Some seasons.Trinity
    else None
season_after (feasts.Sunday season number) = None

abbrev pub named : Numeral → Festival → Place → Option Naming
named year feast place = Some (record { year = year; feast = feast; place = place })

-- the Sunday of a number in a season, unless a word for day stands beside the number
abbrev pub numbered : Numeral → Numeral → Option Season → Option Naming
numbered n year None = None
numbered n year (Some season) =
    if not (is_long n) && not n.day && nat_le n.value 255
    then named year (feasts.Sunday season n.value) (places.Days (pos 0)) else None

-- with a relation: the eve, the morrow or the octave of a feast; a weekday after or before it; or the Sunday of a number
-- after it
abbrev pub related : Option Day → Option Numeral → Related → Festival → Numeral → Option Naming
related None None Eve feast year = named year feast (places.Days (neg_ℤ (pos 1)))
related None None Morrow feast year = named year feast (places.Days (pos 1))
related None None Octave feast year = named year feast (places.Days (pos 7))
related (Some w) None After feast year = named year feast (places.After w)
related (Some w) None Before feast year = named year feast (places.Before w)
related weekday (Some n) After feast year = numbered n year (season_after feast)
related weekday number relation feast year = None

-- with a feast: its day; or what a relation says
abbrev pub feasted : Option Day → Option Numeral → Option Related → Festival → Numeral → Option Naming
feasted weekday None None feast year = named year feast (places.Days (pos 0))
feasted weekday number None feast year = None
feasted weekday number (Some relation) feast year = related weekday number relation feast year

-- with Sundays that are numbered: that of the number
abbrev pub in_season : Option Numeral → Option Related → Season → Numeral → Option Naming
in_season (Some n) None season year = numbered n year (Some season)
in_season number relation season year = None

-- the feast or the Sundays stand before the year, which is last
abbrev pub ending : Option Day → Option Numeral → Option Related → List Item → Option Naming
ending weekday number relation (Feast feast ∷ Number year ∷ []) = feasted weekday number relation feast year
ending weekday number relation (Sundays season ∷ Number year ∷ []) = in_season number relation season year
ending weekday number relation rest = None

-- behind a weekday and a number, a relation
abbrev pub behind_front : Option Day → Option Numeral → List Item → Option Naming
behind_front weekday number rest = ending weekday number (relation_first rest).0 (relation_first rest).1

-- in front a weekday and a number, in either order
abbrev pub behind_number : Option Day → Option Numeral → List Item → Option Naming
behind_number None number rest = behind_front (weekday_first rest).0 number (weekday_first rest).1
behind_number (Some w) number rest = behind_front (Some w) number rest

abbrev pub behind_weekday : Option Day → List Item → Option Naming
behind_weekday weekday rest = behind_number weekday (number_first rest).0 (number_first rest).1

abbrev pub feast_naming : List Item → Option Naming
feast_naming items = behind_weekday (weekday_first items).0 (weekday_first items).1
