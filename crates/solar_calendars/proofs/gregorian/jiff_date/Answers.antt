use Rattle.std.proofs.Common.{◌≡◌, ◌↔◌, ◌∙◌, sym, IsOk, arith, rules, pos, to_z, to_z-of_z, FitsSigned, w8, w16, w32}
use Rattle.jiff_core.specs.Calendar.{IsDate}
use Rattle.solar_calendars.proofs.Common.{ints, signed_arith}
use Rattle.solar_calendars.proofs.GregorianLemmas.{jiff_valid}
use Rattle.solar_calendars.proofs.gregorian.jiff_date.Goals as goal

pub returns-clause-valid : goal.returns-clause-valid
returns-clause-valid c =
    let valid = jiff_valid c.args.date.year c.args.date.month c.args.date.day c.requires in
    let month : to_z w8 c.month.result ≡ pos c.args.date.month = omega (arith, ints) in
    let day : to_z w8 c.day.result ≡ pos c.args.date.day = omega (arith, ints) in
    let y : FitsSigned w32 c.year.result = search rules in
    let y16 : FitsSigned w16 c.year.result = omega (arith, signed_arith) in
    let succeeds = simp to_z-of_z at c.new.ensures.succeeds in
    let dated : IsOk c.new.result ↔ IsDate c.args.date.year (pos c.args.date.month) (pos c.args.date.day) =
    rw (c.year.ensures, month, day) at succeeds in
    (λ some. valid.0 (dated.0 (sym c.ok.ensures.variant ∙ some)), λ date. c.ok.ensures.variant ∙ dated.1 (valid.1 date))
