-- The names of days in the church year, in Latin, and their feasts: of two that fall on one day the first one here has
-- precedence (Grotefend, Zeitrechnung des deutschen Mittelalters und der Neuzeit; Taschenbuch der Zeitrechnung).
use Rattle.std.specs.Prelude.{ℕ, ℤ, pos, neg_ℤ, List, [], ◌∷◌, codes}
use Rattle.day_numbers.specs.declared.day.Weekday.TheVariants as weekdays
use Rattle.church_year.specs.declared.feasts.Anchor.TheVariants.{Fixed, Easter}
use Rattle.church_year.specs.declared.feasts.Feast.{Feast}
use Rattle.church_year.specs.declared.feasts.Feast.TheVariants.{Day, Sunday}
use Rattle.church_year.specs.declared.feasts.Place.{Place}
use Rattle.church_year.specs.declared.feasts.Place.TheVariants.{Days, After, Before}
use Rattle.church_year.specs.declared.feasts.Season.{Season}
use Rattle.church_year.specs.declared.feasts.Season.TheVariants as seasons

-- a name, and the day that it means by a feast
pub record DayName : Type 0 where
  pub text : List ℕ
  pub feast : Feast
  pub place : Place

abbrev pub name : List ℕ → Feast → Place → DayName
name text feast place = record { text = text; feast = feast; place = place }

-- the feast's day itself
abbrev pub on : Place
on = Days (pos 0)

-- a month and a day, so many days from Easter, the Sunday of a number in a season
abbrev pub fixed : List ℕ → ℕ → ℕ → DayName
fixed text month day = name text (Day (Fixed month day) (pos 0)) on

abbrev pub moving : List ℕ → ℤ → DayName
moving text days = name text (Day Easter days) on

abbrev pub sunday : List ℕ → Season → ℕ → DayName
sunday text season number = name text (Sunday season number) on

abbrev pub day_names : List DayName
day_names =
    -- feasts that have their names on Sundays too
    fixed (codes "Nativitas Domini") 12 25
    ∷ fixed (codes "Circumcisio Domini") 1 1
    ∷ fixed (codes "Epiphania Domini") 1 6
    -- the Sundays of Advent, of Christmas and after Epiphany
    ∷ sunday (codes "Dominica I Adventus") seasons.Advent 1
    ∷ sunday (codes "Dominica II Adventus") seasons.Advent 2
    ∷ sunday (codes "Dominica III Adventus") seasons.Advent 3
    ∷ sunday (codes "Dominica IV Adventus") seasons.Advent 4
    ∷ name (codes "Dominica infra octavam Nativitatis") (Day (Fixed 12 25) (pos 0)) (After weekdays.Sunday)
    ∷ name (codes "Dominica ante Epiphaniam") (Day (Fixed 1 6) (pos 0)) (Before weekdays.Sunday)
    ∷ sunday (codes "Dominica I post Epiphaniam") seasons.Epiphany 1
    ∷ sunday (codes "Dominica II post Epiphaniam") seasons.Epiphany 2
    ∷ sunday (codes "Dominica III post Epiphaniam") seasons.Epiphany 3
    ∷ sunday (codes "Dominica IV post Epiphaniam") seasons.Epiphany 4
    ∷ sunday (codes "Dominica V post Epiphaniam") seasons.Epiphany 5
    ∷ sunday (codes "Dominica VI post Epiphaniam") seasons.Epiphany 6
    -- the days that move with Easter
    ∷ moving (codes "Dominica Septuagesima") (neg_ℤ (pos 63))
    ∷ moving (codes "Dominica Sexagesima") (neg_ℤ (pos 56))
    ∷ moving (codes "Dominica Estomihi") (neg_ℤ (pos 49))
    ∷ moving (codes "Dies Cinerum") (neg_ℤ (pos 46))
    ∷ moving (codes "Dominica Invocavit") (neg_ℤ (pos 42))
    ∷ moving (codes "Dominica Reminiscere") (neg_ℤ (pos 35))
    ∷ moving (codes "Dominica Oculi") (neg_ℤ (pos 28))
    ∷ moving (codes "Dominica Laetare") (neg_ℤ (pos 21))
    ∷ moving (codes "Dominica Judica") (neg_ℤ (pos 14))
    ∷ moving (codes "Dominica Palmarum") (neg_ℤ (pos 7))
    ∷ moving (codes "Coena Domini") (neg_ℤ (pos 3))
    ∷ moving (codes "Parasceve") (neg_ℤ (pos 2))
    ∷ moving (codes "Sabbatum sanctum") (neg_ℤ (pos 1))
    ∷ moving (codes "Pascha") (pos 0)
    ∷ moving (codes "Feria secunda Paschae") (pos 1)
    ∷ moving (codes "Feria tertia Paschae") (pos 2)
    ∷ moving (codes "Dominica Quasimodogeniti") (pos 7)
    ∷ moving (codes "Dominica Misericordias Domini") (pos 14)
    ∷ moving (codes "Dominica Jubilate") (pos 21)
    ∷ moving (codes "Dominica Cantate") (pos 28)
    ∷ moving (codes "Dominica Rogate") (pos 35)
    ∷ moving (codes "Ascensio Domini") (pos 39)
    ∷ moving (codes "Dominica Exaudi") (pos 42)
    ∷ moving (codes "Pentecostes") (pos 49)
    ∷ moving (codes "Feria secunda Pentecostes") (pos 50)
    ∷ moving (codes "Feria tertia Pentecostes") (pos 51)
    ∷ moving (codes "Dominica Trinitatis") (pos 56)
    ∷ moving (codes "Corpus Christi") (pos 60)
    ∷ sunday (codes "Dominica I post Trinitatis") seasons.Trinity 1
    ∷ sunday (codes "Dominica II post Trinitatis") seasons.Trinity 2
    ∷ sunday (codes "Dominica III post Trinitatis") seasons.Trinity 3
    ∷ sunday (codes "Dominica IV post Trinitatis") seasons.Trinity 4
    ∷ sunday (codes "Dominica V post Trinitatis") seasons.Trinity 5
    ∷ sunday (codes "Dominica VI post Trinitatis") seasons.Trinity 6
    ∷ sunday (codes "Dominica VII post Trinitatis") seasons.Trinity 7
    ∷ sunday (codes "Dominica VIII post Trinitatis") seasons.Trinity 8
    ∷ sunday (codes "Dominica IX post Trinitatis") seasons.Trinity 9
    ∷ sunday (codes "Dominica X post Trinitatis") seasons.Trinity 10
    ∷ sunday (codes "Dominica XI post Trinitatis") seasons.Trinity 11
    ∷ sunday (codes "Dominica XII post Trinitatis") seasons.Trinity 12
    ∷ sunday (codes "Dominica XIII post Trinitatis") seasons.Trinity 13
    ∷ sunday (codes "Dominica XIV post Trinitatis") seasons.Trinity 14
    ∷ sunday (codes "Dominica XV post Trinitatis") seasons.Trinity 15
    ∷ sunday (codes "Dominica XVI post Trinitatis") seasons.Trinity 16
    ∷ sunday (codes "Dominica XVII post Trinitatis") seasons.Trinity 17
    ∷ sunday (codes "Dominica XVIII post Trinitatis") seasons.Trinity 18
    ∷ sunday (codes "Dominica XIX post Trinitatis") seasons.Trinity 19
    ∷ sunday (codes "Dominica XX post Trinitatis") seasons.Trinity 20
    ∷ sunday (codes "Dominica XXI post Trinitatis") seasons.Trinity 21
    ∷ sunday (codes "Dominica XXII post Trinitatis") seasons.Trinity 22
    ∷ sunday (codes "Dominica XXIII post Trinitatis") seasons.Trinity 23
    ∷ sunday (codes "Dominica XXIV post Trinitatis") seasons.Trinity 24
    ∷ sunday (codes "Dominica XXV post Trinitatis") seasons.Trinity 25
    ∷ sunday (codes "Dominica XXVI post Trinitatis") seasons.Trinity 26
    ∷ sunday (codes "Dominica XXVII post Trinitatis") seasons.Trinity 27
    -- the days of months
    ∷ fixed (codes "Fabiani et Sebastiani") 1 20
    ∷ fixed (codes "Agnetis") 1 21
    ∷ fixed (codes "Vincentii") 1 22
    ∷ fixed (codes "Conversio Pauli") 1 25
    ∷ fixed (codes "Purificatio Mariae") 2 2
    ∷ fixed (codes "Blasii") 2 3
    ∷ fixed (codes "Agathae") 2 5
    ∷ fixed (codes "Valentini") 2 14
    ∷ fixed (codes "Cathedra Petri") 2 22
    ∷ name (codes "Matthiae") (Day (Fixed 3 1) (neg_ℤ (pos 5))) on
    ∷ fixed (codes "Gertrudis") 3 17
    ∷ fixed (codes "Benedicti") 3 21
    ∷ fixed (codes "Annuntiatio Mariae") 3 25
    ∷ fixed (codes "Tiburtii et Valeriani") 4 14
    ∷ fixed (codes "Marci") 4 25
    ∷ fixed (codes "Philippi et Jacobi") 5 1
    ∷ fixed (codes "Inventio crucis") 5 3
    ∷ fixed (codes "Urbani") 5 25
    ∷ fixed (codes "Viti") 6 15
    ∷ fixed (codes "Nativitas Johannis Baptistae") 6 24
    ∷ fixed (codes "Johannis et Pauli") 6 26
    ∷ fixed (codes "Petri et Pauli") 6 29
    ∷ fixed (codes "Visitatio Mariae") 7 2
    ∷ fixed (codes "Kiliani") 7 8
    ∷ fixed (codes "Divisio apostolorum") 7 15
    ∷ fixed (codes "Mariae Magdalenae") 7 22
    ∷ fixed (codes "Jacobi") 7 25
    ∷ fixed (codes "Annae") 7 26
    ∷ fixed (codes "Petri ad vincula") 8 1
    ∷ fixed (codes "Laurentii") 8 10
    ∷ fixed (codes "Assumptio Mariae") 8 15
    ∷ fixed (codes "Bartholomaei") 8 24
    ∷ fixed (codes "Decollatio Johannis") 8 29
    ∷ fixed (codes "Aegidii") 9 1
    ∷ fixed (codes "Nativitas Mariae") 9 8
    ∷ fixed (codes "Exaltatio crucis") 9 14
    ∷ fixed (codes "Lamberti") 9 17
    ∷ fixed (codes "Matthaei") 9 21
    ∷ fixed (codes "Mauritii") 9 22
    ∷ fixed (codes "Michaelis") 9 29
    ∷ fixed (codes "Remigii") 10 1
    ∷ fixed (codes "Francisci") 10 4
    ∷ fixed (codes "Dionysii") 10 9
    ∷ fixed (codes "Galli") 10 16
    ∷ fixed (codes "Lucae") 10 18
    ∷ fixed (codes "Undecim milium virginum") 10 21
    ∷ fixed (codes "Crispini et Crispiniani") 10 25
    ∷ fixed (codes "Simonis et Judae") 10 28
    ∷ fixed (codes "Omnium Sanctorum") 11 1
    ∷ fixed (codes "Animarum") 11 2
    ∷ fixed (codes "Leonhardi") 11 6
    ∷ fixed (codes "Martini") 11 11
    ∷ fixed (codes "Elisabethae") 11 19
    ∷ fixed (codes "Praesentatio Mariae") 11 21
    ∷ fixed (codes "Caeciliae") 11 22
    ∷ fixed (codes "Clementis") 11 23
    ∷ fixed (codes "Catharinae") 11 25
    ∷ fixed (codes "Andreae") 11 30
    ∷ fixed (codes "Barbarae") 12 4
    ∷ fixed (codes "Nicolai") 12 6
    ∷ fixed (codes "Conceptio Mariae") 12 8
    ∷ fixed (codes "Luciae") 12 13
    ∷ fixed (codes "Thomae") 12 21
    ∷ name (codes "Vigilia Nativitatis") (Day (Fixed 12 25) (pos 0)) (Days (neg_ℤ (pos 1)))
    ∷ fixed (codes "Stephani") 12 26
    ∷ fixed (codes "Johannis Evangelistae") 12 27
    ∷ fixed (codes "Innocentium") 12 28
    ∷ fixed (codes "Thomae martyris") 12 29
    ∷ fixed (codes "Silvestri") 12 31
    ∷ []
