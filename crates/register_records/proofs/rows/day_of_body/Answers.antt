use Rattle.register_records.proofs.Common.{◌≡◌, None, Err, refl, ap, rules, no_date_text, refused, unknown_calendar}
use Rattle.date_texts.specs.declared.refusal.Refusal.TheVariants as refusal
use Rattle.register_records.proofs.OutcomeLemmas.{day_outcome, no_calendar}
use Rattle.register_records.proofs.rows.day_of_body.Goals as goal

pub returns-in_default : goal.returns-in_default
returns-in_default c =
    let named = rw c.as_str.ensures.value at c.calendar_named.ensures in
    let none : c.calendar_named.result ≡ None = search rules in
    rw c.in-Fields.is (unknown_calendar (no_calendar c.in-Fields.calendar.bytes c.calendar_named.result none named))

pub returns-in-Err : goal.returns-in-Err
returns-in-Err c =
    let named = (rw c.as_str.ensures.value at c.in-Some.ensures) c.in-Some.calendar in
    let refused = rw c.as_str-in-Fields.ensures.value at c.in-Err.ensures.refused in
    let which : c.in-Err.refusal ≡ refusal.DateText = c.in-Err.ensures.only_refusal in
    rw (c.in-Fields.is, which) (no_date_text c.in-Some.calendar (named.0 refl) (refused.0 (ap Err which)))

pub returns-in-Refused : goal.returns-in-Refused
returns-in-Refused c = rw c.in-Refused.is refused

pub returns-in-Ok : goal.returns-in-Ok
returns-in-Ok c =
    let named = (rw c.as_str.ensures.value at c.in-Some.ensures) c.in-Some.calendar in
    let dated = (rw c.as_str-in-Fields.ensures.value at c.in-Ok.ensures.value) c.in-Ok.date in
    let day = c.day_of_date.ensures in
    rw c.in-Fields.is (day_outcome _ c.in-Some.calendar c.in-Ok.date
    (record { named = named.0 refl; dated = dated.0 refl }) c.day_of_date.result
    (day.succeeds, day.value, day.no_such_date, day.out_of_range))
