-- The haab by a remainder.
use Rattle.std.proofs.Common.{◌≡◌, ℕ, ◌+◌, ◌<◌, ◌/◌, ◌%◌, ◌==◌, if◌then◌else◌, arith, refl, ap, sym, ◌-◌, ◌∙◌, ℤ, pos}
use Rattle.std.proofs.Common.{◌+ℤ◌, ◌-ℤ◌}
use Rattle.std.proofs.lemmas.Bool.Decides.{nat_tests}
use Rattle.std.proofs.lemmas.Int.{ints}
use Rattle.maya_calendars.specs.Rounds.{epoch, round_number, StepsOnEachDay}
use Rattle.maya_calendars.specs.HaabNames.{haab_after, haab_before, haab_of}
use Rattle.maya_calendars.specs.Laws.{HaabDaysInRange}
use Rattle.maya_calendars.proofs.RoundLemmas.{after_days_are, each_day_from_epoch, place_in, place_below, place_next}
use Rattle.maya_calendars.proofs.RoundLemmas.{round_number_is}

-- the haab at a place in the round, counted from 0 Pop
abbrev pub haab_at : ℕ → ℕ × ℕ
haab_at place = (place % 20, place / 20 + 1)

haab_next : (p q : ℕ) → p < 365 → q ≡ (if p + 1 == 365 then 0 else p + 1) → haab_at q ≡ haab_after (haab_at p)
haab_next p q h e = grind (arith, nat_tests)

haab_undone : (p : ℕ) → p < 365 → haab_before (haab_after (haab_at p)) ≡ haab_at p
haab_undone p h = grind (arith, nat_tests)

-- the haab that many days after the epoch
abbrev haab_by : ℤ → ℕ × ℕ
haab_by days = haab_at (place_in 365 (days +ℤ pos 348))

by_each_day : StepsOnEachDay haab_after haab_by
by_each_day days = grind (arith, ints, haab_next, place_in, place_below, place_next)

by_undone : (days : ℤ) → haab_before (haab_after (haab_by days)) ≡ haab_by days
by_undone days = haab_undone (place_in 365 (days +ℤ pos 348)) (place_below 365 (days +ℤ pos 348) (omega arith))

-- the haab moves one place on each day
pub haab_each_day : StepsOnEachDay haab_after haab_of
haab_each_day = each_day_from_epoch haab_after haab_before haab_by by_each_day by_undone

-- and its place in the round gives it, where 8 Cumku is the 349th name
pub haab_is : (day : ℤ) (number place d m : ℕ) → number ≡ round_number 365 349 day → place ≡ number - 1 → d ≡ place % 20
    → m ≡ place / 20 + 1 → (d, m) ≡ haab_of day
haab_is day number place d m e f g h =
    let named : (d, m) ≡ haab_at place = cc in
    let by = round_number_is 365 348 349 day refl (omega arith) in
    let placed : place ≡ place_in 365 ((day -ℤ epoch) +ℤ pos 348) = omega (arith, e, f, by) in
    named ∙ ap haab_at placed ∙ sym (after_days_are haab_after haab_before haab_by by_each_day by_undone (day -ℤ epoch))

pub haab_days : HaabDaysInRange
haab_days day = grind (arith, haab_is)
