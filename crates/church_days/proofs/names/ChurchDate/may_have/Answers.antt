use Rattle.std.proofs.Common.{◌∙◌, sym}
use Rattle.day_numbers.specs.declared.day.Weekday.TheVariants as weekdays
use Rattle.church_days.proofs.TestLemmas.{one_weekday, sunday_on}
use Rattle.church_days.proofs.names.ChurchDate.may_have.Goals as goal

pub returns-in-Sunday : goal.returns-in-Sunday
returns-in-Sunday c off falls =
    let date = c.args.self.now in
    let sunday = sunday_on date.church date.year c.in-Sunday.field-0 c.in-Sunday.field-1 date.date
    (rw c.in-Sunday.is at falls) in
    let same = one_weekday date.weekday weekdays.Sunday (sym date.on_weekday ∙ sunday) in
    let alike = rw same at c.eq.ensures in cc
