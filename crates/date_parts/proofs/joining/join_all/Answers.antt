use Rattle.std.proofs.Common.{◌≡◌, ◌∙◌, ap, drop, refl, rules, subst, take, true}
use Rattle.std.specs.Prelude.{List, Ok}
use Rattle.register_records.specs.Entries.{Fields}
use Rattle.date_parts.specs.JoinedDates.{dated_records}
use Rattle.sheets.specs.Reading.{left_of}
use Rattle.date_parts.specs.private.SheetViews.{GainsRecords}
use Rattle.date_parts.proofs.RecordLemmas.{gains_dated, gains_more, then_ok}
use Rattle.date_parts.proofs.joining.join_all.Goals as goal

pub returns-then-branch : goal.returns-then-branch
returns-then-branch c =
    let given = c.args.joined.now in
    let mid = c.copy.new.joined in
    let new = c.join_named.new.joined in
    let all = left_of c.args.records.now in
    let yes : c.in_ok-copy.field-0 ≡ true = search rules in
    let left = c.copy.ensures.left (c.in_ok-copy.was ∙ ap Ok yes) in
    let copied = c.in_ok-copy.ensures.copied in
    then_ok c.join_named.result _ _ c.join_named.ensures
    (λ gains. gains_more (take c.args.above all) (dated_records given.places given.width (drop c.args.above all)) _
    given mid new copied
    (gains_dated (λ places width. dated_records places width (drop c.args.above all)) given mid new copied.places
    copied.width (subst (λ (records : List Fields). GainsRecords (dated_records mid.places mid.width records) mid new)
    left gains)) refl)
