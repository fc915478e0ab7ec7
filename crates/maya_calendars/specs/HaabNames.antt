-- The haab, a round of 365 names: days 0 to 19 of eighteen months, and days 0 to 4 of Uayeb (Reingold and
-- Dershowitz, Calendrical Calculations, "The Mayan Calendars").
use Rattle.std.specs.Prelude.{ℕ, ◌+◌, ◌-◌, ◌==◌, if◌then◌else◌, ℤ, ◌-ℤ◌, List, [], ◌∷◌, codes}
use Rattle.day_numbers.specs.Numbered.{words}
use Rattle.maya_calendars.specs.Rounds.{epoch, number_after, number_before, after_days}
use Rattle.maya_calendars.specs.declared.haab.HaabMonth.{HaabMonth}
use Rattle.maya_calendars.specs.declared.haab.HaabMonth.TheVariants.{Pop, Uo, Zip, Zotz, Tzec, Xul, Yaxkin, Mol, Chen}
use Rattle.maya_calendars.specs.declared.haab.HaabMonth.TheVariants.{Yax, Zac, Ceh, Mac, Kankin, Muan, Pax, Kayab}
use Rattle.maya_calendars.specs.declared.haab.HaabMonth.TheVariants.{Cumku, Uayeb}

-- the months in their order, from month 1 to month 19
abbrev pub all_months : List HaabMonth
all_months =
    Pop ∷ Uo ∷ Zip ∷ Zotz ∷ Tzec ∷ Xul ∷ Yaxkin ∷ Mol ∷ Chen ∷ Yax ∷ Zac ∷ Ceh ∷ Mac ∷ Kankin ∷ Muan ∷ Pax ∷ Kayab
    ∷ Cumku ∷ Uayeb ∷ []

-- their names, in the same order
abbrev pub month_names : List (List ℕ)
month_names = words (codes "Pop Uo Zip Zotz Tzec Xul Yaxkin Mol Chen Yax Zac Ceh Mac Kankin Muan Pax Kayab Cumku Uayeb")

-- the last day of the month of this number: 4 in Uayeb, which is month 19, and 19 in the others
abbrev pub last_day : ℕ → ℕ
last_day month = if month == 19 then 4 else 19

-- the haab after a haab, each as its day and the number of its month: a day more, and after the last day
-- of a month day 0 of the next, where Pop follows Uayeb
abbrev pub haab_after : ℕ × ℕ → ℕ × ℕ
haab_after (day, month) = if day == last_day month then (0, number_after 19 month) else (day + 1, month)

-- and the haab before it
abbrev pub haab_before : ℕ × ℕ → ℕ × ℕ
haab_before (day, month) =
    if day == 0 then (last_day (number_before 19 month), number_before 19 month) else (day - 1, month)

-- the haab of a day; that of the epoch is 8 Cumku, which is month 18
abbrev pub haab_of : ℤ → ℕ × ℕ
haab_of day = after_days haab_after haab_before (8, 18) (day -ℤ epoch)
