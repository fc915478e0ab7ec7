use Rattle.std.proofs.Common.{◌∙◌, arith}
use Rattle.std.proofs.lemmas.Int.{ints}
use Rattle.church_days.proofs.TestLemmas.{fixed_by}
use Rattle.church_days.proofs.names.ChurchDate.may_be_from.Goals as goal

pub returns-else-month : goal.returns-else-month
returns-else-month c off falls =
    let date = c.args.self.now in
    let on = fixed_by date.church date.year c.in-Fixed.month c.in-Fixed.day c.args.days c.args.anchor date.date
    c.in-Fixed.is (omega (arith, ints, c.if-days-ne0.false)) falls in
    c.if-month.false (c.month.ensures ∙ on.0)
