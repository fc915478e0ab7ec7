use Rattle.std.proofs.Common.{◌∙◌, Some, ap, rules, to_z-of_z, FitsSigned, w32, refl}
use Rattle.date_texts.specs.private.Reading.{◌>>=◌}
use Rattle.date_texts.proofs.Common.{Civil, CivilDate}
use Rattle.date_texts.proofs.DateTextLemmas.{civil, civil_parts, none_says, some_says}
use Rattle.date_texts.proofs.civil_text.civil_date_at.Goals as goal

pub returns-in_err-year : goal.returns-in_err-year
returns-in_err-year c = search (rules, none_says, civil_parts, civil)

pub returns : goal.returns
returns c =
    let f : FitsSigned w32 c.in_ok-year.year = search rules in
    let parts = simp to_z-of_z at c.in_ok-ymd.ensures.value in
    let date : CivilDate = record { calendar = c.args.calendar; ymd = c.in_ok-ymd.ymd; civil = c.result-1.given.0 } in
    let read = civil_parts c.args.calendar c.args.grammar c.args.text.now c.civil_at.result c.requires.civil
    c.requires.own c.civil_at.ensures.value ∙ ap (λ o. o >>= λ x. Some (civil x)) c.in_ok-year.was in
    some_says c.args.calendar c.args.text.now (Civil date) refl (cc)
