use Rattle.std.proofs.Common.{◌≡◌, ◌≤◌, ℤ, arith, length, refl}
use Rattle.maya_calendars.specs.LongCounts.{IsLongCount, long_day}
use Rattle.date_texts.specs.declared.target.Target.TheVariants.{Date as DateTarget}
use Rattle.date_texts.proofs.Common.{canonical_text, CellsAreShort, ints, Long, LongCount, Longcount, on_date}
use Rattle.date_texts.proofs.cells.write_long_count.Goals as goal

short_text : CellsAreShort → (n : ℤ) (count : LongCount) → IsLongCount count → long_day count ≡ n
    → length (canonical_text (Long count)) ≤ 16
short_text law n count is day =
    law (DateTarget Longcount) n (canonical_text (Long count)) (on_date (Long count) refl is day refl)

pub overflow_cast-result : goal.overflow_cast-result
overflow_cast-result c = grind (arith, ints, short_text)

pub returns-in-Some-clause-few : goal.returns-in-Some-clause-few
returns-in-Some-clause-few c = grind (arith, ints, short_text)

pub returns-in-Some-clause-value : goal.returns-in-Some-clause-value
returns-in-Some-clause-value c =
    let found = c.in-Some.ensures.value in
    on_date (Long c.in-Some.count) refl found.0 found.1 c.put_long.ensures.value
