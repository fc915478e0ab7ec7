use Rattle.std.proofs.Common.{◌∙◌, [], append-nil, arith, get_or, refl, subst, sym}
use Rattle.sheets.proofs.Common.{Fields, GainsFields, row_seen, DayNumber}
use Rattle.std.proofs.lemmas.List.{drop_all}
use Rattle.sheets.proofs.AskedLemmas.{asked_step, few_taken}
use Rattle.sheets.proofs.LineLemmas.{both_gained, none_gained}
use Rattle.sheets.proofs.asked.push_cells.Goals as goal

pub columns-init : goal.columns-init
columns-init c = record { few = omega arith; line = ([], none_gained c.args.lines.now, refl) }

pub columns-preserved : goal.columns-preserved
columns-preserved c =
    let (made, gains, whole) = c.columns.invariant.line in
    let row = row_seen c.args.row.now in
    let taken = c.in_ok-taken.ensures.taken in
    record {
      few = omega (arith, taken, few_taken (get_or c.args.columns.now c.columns.column-index DayNumber));
      line = (
        _,
        both_gained made _ c.args.lines.now c.columns.lines c.push_column.new.lines gains c.in_ok-taken.ensures.line,
        asked_step c.args.columns.now c.columns.column-index DayNumber row row.cells c.columns.taken c.in_ok-taken.field-0
            made _ c.columns-test.true taken whole,
      );
    }

pub returns : goal.returns
returns c =
    let (made, gains, whole) = c.columns.invariant.line in
    let columns = c.args.columns.now in
    let last = drop_all c.columns.column-index columns (omega (arith, c.columns-test.false)) in
    subst (λ (fields : Fields). GainsFields fields c.args.lines.now c.columns.lines)
    (sym (append-nil made) ∙ rw last at whole) gains
