use Rattle.std.proofs.Common.{rules, to_z-of_z, FitsSigned, w32, refl}
use Rattle.date_texts.proofs.Common.{Roman, RomanCalendar}
use Rattle.date_texts.proofs.DateTextLemmas.{none_says, some_says}
use Rattle.date_texts.proofs.roman_text.roman_date_at.Goals as goal

pub returns-in_err-year : goal.returns-in_err-year
returns-in_err-year c = search (rules, none_says)

pub returns : goal.returns
returns c =
    let fits : FitsSigned w32 c.in_ok-year.year = search rules in
    let parts = simp to_z-of_z at c.in_ok-date.ensures.value in
    some_says RomanCalendar c.args.text.now (Roman c.in_ok-date.date) refl
    (rw (← c.roman_at.ensures.value, c.in_ok-year.was) (cc))
