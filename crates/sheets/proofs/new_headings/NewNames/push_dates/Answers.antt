use Rattle.std.proofs.Common.{◌+◌, get_or, length, nat_lt, subst, sym, take}
use Rattle.sheets.proofs.Common.{Fields, NamesMore, fields_of}
use Rattle.std.proofs.lemmas.List.{take_more}
use Rattle.sheets.specs.Headings.{wanted_for}
use Rattle.sheets.proofs.HeadingLemmas.{then_named}
use Rattle.sheets.proofs.RowLemmas.{flat_more, no_column}
use Rattle.sheets.proofs.new_headings.NewNames.push_dates.Goals as goal

pub dates-preserved : goal.dates-preserved
dates-preserved c =
    let named = fields_of c.args.self.now.own in
    let wanted = wanted_for (nat_lt 1 (length c.args.dates.now)) named c.args.spans c.args.columns.now in
    subst (λ (names : Fields). NamesMore names c.args.self.now c.push_all.new.self)
    (sym (flat_more wanted (take (c.dates.date-index + 1) c.args.dates.now) (take c.dates.date-index c.args.dates.now) _
    (take_more c.args.dates.now c.dates.date-index no_column c.dates-test.true)))
    (then_named _ (λ (own : Fields). wanted_for (nat_lt 1 (length c.args.dates.now)) own c.args.spans c.args.columns.now
    (get_or c.args.dates.now c.dates.date-index no_column)) c.args.self.now c.dates.self c.push_all.new.self c.dates.invariant
    c.in_ok-push_all.ensures)
