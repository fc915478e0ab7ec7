use Rattle.std.proofs.Common.{◌∙◌, ap, arith, inl, inr, sym}
use Rattle.std.proofs.lemmas.Int.{ints}
use Rattle.day_numbers.specs.Days.{weekday_number}
use Rattle.church_days.proofs.ComputedLemmas.{named_in_year, nameless_out}
use Rattle.church_days.proofs.NameLemmas.{out_of_years}
use Rattle.church_days.proofs.TestLemmas.{weekday_numbered}
use Rattle.church_days.proofs.names.name_on.Goals.{then-year-lt1-via-then-year-lt1}
use Rattle.church_days.proofs.names.name_on.Goals.{then-year-lt1-via-else-year-lt1+then-year-gt9999}
use Rattle.church_days.proofs.names.name_on.Goals as goal

pub returns-then-year-lt1-clause-named : goal.returns-then-year-lt1-clause-named
returns-then-year-lt1-clause-named c =
    out_of_years c.args.church c.args.day.number c.date_on-date.result c.date_on-date.ensures.valid
    c.date_on-date.ensures.value (elim c.then-year-lt1.branch [
      | then-year-lt1-via-then-year-lt1 w ↦ inl (omega (arith, ints, c.year.ensures, w.if-year-lt1))
      | then-year-lt1-via-else-year-lt1+then-year-gt9999 w ↦
          inr (omega (arith, ints, w.year-else-year-lt1.ensures, w.if-year-gt9999))
    ])

pub returns-then-year-lt1-clause-computed : goal.returns-then-year-lt1-clause-computed
returns-then-year-lt1-clause-computed c =
    sym (nameless_out c.args.church c.args.day.number c.date_on-date.result c.date_on-date.ensures.valid
    c.date_on-date.ensures.value (elim c.then-year-lt1.branch [
      | then-year-lt1-via-then-year-lt1 w ↦ inl (omega (arith, ints, c.year.ensures, w.if-year-lt1))
      | then-year-lt1-via-else-year-lt1+then-year-gt9999 w ↦
          inr (omega (arith, ints, w.year-else-year-lt1.ensures, w.if-year-gt9999))
    ]))

pub returns-clause-computed : goal.returns-clause-computed
returns-clause-computed c =
    c.name_among.ensures.computed
    ∙ sym (named_in_year c.args.church c.args.day.number c.date_on-date.result _ c.date_on-date.ensures.valid
    c.date_on-date.ensures.value
    (omega (
      arith,
      ints,
      c.year.ensures,
      c.year-else-year-lt1.ensures,
      c.year-year.ensures,
      c.if-year-lt1.false,
      c.if-year-gt9999.false,
    ))
    c.args.day.in_range
    (omega (
      arith,
      ints,
      c.year.ensures,
      c.year-else-year-lt1.ensures,
      c.year-year.ensures,
      c.if-year-lt1.false,
      c.if-year-gt9999.false,
    ))
    (omega (
      arith,
      ints,
      c.year.ensures,
      c.year-else-year-lt1.ensures,
      c.year-year.ensures,
      c.if-year-lt1.false,
      c.if-year-gt9999.false,
    )))

pub invariant_of-sought-clause-on_weekday : goal.invariant_of-sought-clause-on_weekday
invariant_of-sought-clause-on_weekday c =
    ap weekday_number c.date_on-date.ensures.value
    ∙ weekday_numbered (weekday_number c.args.day.number) c.weekday.result c.weekday.ensures

pub invariant_of-sought-clause-after_easter : goal.invariant_of-sought-clause-after_easter
invariant_of-sought-clause-after_easter c = rw c.date_on-date.ensures.value c.days_from_easter.ensures
