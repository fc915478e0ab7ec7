use Rattle.std.proofs.Common.{◌∙◌, sym}
use Rattle.std.proofs.lemmas.Bool.{false≢true}
use Rattle.std.proofs.lemmas.Bool.Decides.{Decides-eqb}
use Rattle.church_days.proofs.TestLemmas.{on_weekday}
use Rattle.church_days.proofs.names.ChurchDate.may_be.Goals as goal

pub returns-in-After : goal.returns-in-After
returns-in-After c off falls =
    let date = c.args.self.now in
    let there = on_weekday date.church date.year c.args.feast c.args.place c.in-After.weekday date.date c.in-After.is falls in
    let same = c.number_of.ensures.value ∙ sym date.on_weekday ∙ there ∙ sym c.number_of-in-After.ensures.value in
    false≢true (sym off ∙ (Decides-eqb c.number_of.result c.number_of-in-After.result).1 same)
