-- A long count is known by its day.
use Rattle.std.proofs.Common.{◌≡◌, ℕ, ◌+◌, ◌*◌, ◌≤◌, ◌≤ℤ◌}
use Rattle.std.proofs.Common.{arith}
use Rattle.std.proofs.Props.{props}
use Rattle.std.proofs.lemmas.Int.{ints}
use Rattle.day_numbers.proofs.DateLemmas.{same_made}
use Rattle.maya_calendars.specs.Rounds.{epoch}
use Rattle.maya_calendars.specs.Places.{ArePlaces}
use Rattle.maya_calendars.specs.LongCounts.{IsLongCount, long_day}
use Rattle.maya_calendars.specs.declared.long_count.LongCount.{LongCount}

abbrev pub Numbers : Type 0
Numbers = ℕ × ℕ × ℕ × ℕ × ℕ

-- two long counts with the same places are one value
pub same_places : (c d : LongCount)
    → ◌≡◌ {A = Numbers} (c.baktun, c.katun, c.tun, c.uinal, c.kin) (d.baktun, d.katun, d.tun, d.uinal, d.kin) → c ≡ d
same_places c d same =
    same_made (λ (x : Numbers). ArePlaces x.0 x.1 x.2 x.3 x.4)
    (λ x h. record { baktun = x.0; katun = x.1; tun = x.2; uinal = x.3; kin = x.4; places = h })
    (λ x. hlevel props) _ _ same c.places d.places

-- the places of a number of days are the only ones
same_numbers : (b k t u n b' k' t' u' n' : ℕ) → k ≤ 19 → t ≤ 19 → u ≤ 17 → n ≤ 19 → k' ≤ 19 → t' ≤ 19 → u' ≤ 17
    → n' ≤ 19 → 144_000 * b + 7_200 * k + 360 * t + 20 * u + n ≡ 144_000 * b' + 7_200 * k' + 360 * t' + 20 * u' + n'
    → ◌≡◌ {A = Numbers} (b, k, t, u, n) (b', k', t', u', n')
same_numbers b k t u n b' k' t' u' n' i j l m i' j' l' m' e = grind (arith, ints)

pub one_long_count : (c d : LongCount) → IsLongCount c → IsLongCount d → long_day c ≡ long_day d → c ≡ d
one_long_count c d h g e = grind (arith, ints, same_places, same_numbers)

pub day_since_epoch : (c : LongCount) → epoch ≤ℤ long_day c
day_since_epoch c = omega (arith, ints)
