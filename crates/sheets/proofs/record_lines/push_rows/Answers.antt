use Rattle.std.proofs.Common.{◌∙◌, ◌+◌, ℕ, List, ap, arith, map, subst, sym, take, take_all}
use Rattle.sheets.proofs.Common.{flat_map, GainsFields, dated_seen}
use Rattle.std.proofs.lemmas.List.{length-map}
use Rattle.sheets.specs.Converted.{dated_fields}
use Rattle.sheets.proofs.LineLemmas.{both_gained, gained_as, none_gained}
use Rattle.sheets.proofs.ReadingLemmas.{rows_in}
use Rattle.sheets.proofs.RowLemmas.{flat_more, seen_more}
use Rattle.sheets.proofs.record_lines.push_rows.Goals as goal

pub columns-preserved : goal.columns-preserved
columns-preserved c =
    let columns = c.deref-dates-items.result.now in
    let i = c.columns.dates-index in
    let column = c.dates-item.result in
    subst (λ (more : List (List ℕ)). GainsFields more c.args.lines.now c.push_dated.new.lines)
    (sym (flat_more (dated_fields c.args.setup.now.choice) (take (i + 1) (map dated_seen columns))
    (take i (map dated_seen columns)) (dated_seen column) (seen_more dated_seen columns i column c.columns-test.true
    c.dates-item.is))) (both_gained _ _ c.args.lines.now c.columns.lines c.push_dated.new.lines c.columns.invariant
    c.in_ok-push_dated.ensures)

pub columns-init : goal.columns-init
columns-init c = none_gained c.args.lines.now

pub returns : goal.returns
returns c =
    let columns = c.deref-dates-items.result.now in
    gained_as _ _ c.args.lines.now c.columns.lines (ap (flat_map (dated_fields c.args.setup.now.choice))
    (take_all c.columns.dates-index (map dated_seen columns) (omega (
      arith,
      length-map columns dated_seen,
      c.columns-test.false,
    )) ∙ ap (map dated_seen) c.deref-dates-items.ensures.value ∙ sym (rows_in c.args.of_sheet.now.columns.items)))
    c.columns.invariant
