use Rattle.std.proofs.Common.{◌≡◌, ◌∙◌, refl, subst, take}
use Rattle.date_texts.specs.CivilText.{canonical_civil}
use Rattle.date_texts.proofs.Common.{no_date}
use Rattle.date_texts.proofs.CellLemmas.{civil_cell_is, since_first_in}
use Rattle.date_texts.proofs.cells.write_civil.Goals as goal

pub returns-in-Some-clause-value : goal.returns-in-Some-clause-value
returns-in-Some-clause-value g c =
    let found = c.in-Some.ensures.value in
    let date = c.requires.dates c.in-Some.date found.0 in
    civil_cell_is c.args.calendar c.args.day.number c.in-Some.date _ c.requires.civil date.0 (date.1 ∙ found.1)
    (subst (λ g. take c.put_civil.result c.put_civil.new.buffer
    ≡ canonical_civil g c.in-Some.date.year c.in-Some.date.month c.in-Some.date.day) c.grammar.ensures
    c.put_civil.ensures.value.value)

pub returns-in-None-clause-value : goal.returns-in-None-clause-value
returns-in-None-clause-value g c = no_date (λ date of is day.
    let since = since_first_in c.args.calendar c.args.day.number date of is day in
    let before = c.in-None.ensures.dated.1
    (rw c.requires.first_day since) in
    absurd (cc)) refl
