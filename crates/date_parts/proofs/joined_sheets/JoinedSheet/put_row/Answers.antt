use Rattle.std.proofs.Common.{◌≡◌, ◌∙◌, ◌++◌, ℕ, List, ap, refl, subst}
use Rattle.csv.specs.Records.{fields_of}
use Rattle.date_parts.specs.JoinedDates.{with_field}
use Rattle.register_records.specs.Lines.{line_text}
use Rattle.date_parts.specs.private.SheetViews.{Holds}
use Rattle.date_parts.proofs.RecordLemmas.{gains_one, then_ok}
use Rattle.date_parts.proofs.joined_sheets.JoinedSheet.put_row.Goals as goal

pub returns : goal.returns
returns c =
    let old = c.args.self.now in
    let made : fields_of c.make_row.new.row ≡ with_field old.width old.field.items (fields_of c.args.own.now)
    = c.in_ok-make_row.ensures
    ∙ ap (λ (field : List ℕ). with_field old.width field (fields_of c.args.own.now)) c.as_slice.ensures.value in
    then_ok c.write.result _ _ c.write.ensures
    (λ gains. gains_one _ _ _ (subst (λ (fields : List (List ℕ)). (d : ℕ) (text : List ℕ)
    → Holds d text old.sheet → Holds d (text ++ line_text d fields) c.write.new.sheet) made gains) refl refl)
