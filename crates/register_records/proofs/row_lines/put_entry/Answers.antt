use Rattle.register_records.proofs.Common.{[], ◌∷◌, decimal, ◌∙◌, arith, body_seen, Begins, line_bytes, text_shown}
use Rattle.register_records.specs.declared.table_columns.ColumnKind.TheVariants.{Id, Calendar, Date}
use Rattle.register_records.proofs.row_lines.put_entry.Goals as goal
use Rattle.register_records.proofs.row_lines.put_entry.Goals.{After-put_column-3}

three : (c : After-put_column-3)
    → Begins c.args.lines.now.delimiter (line_bytes c.args.lines.now)
    (decimal c.number.result ∷ text_shown (body_seen c.body-body.result.now) Id
    ∷ text_shown (body_seen c.body-body.result.now) Calendar ∷ text_shown (body_seen c.body-body.result.now) Date ∷ [])
    (line_bytes c.put_column-3.new.lines)
three c =
    let number = decimal c.number.result in
    let text = text_shown (body_seen c.body-body.result.now) in
    let one = c.begin_by_number.ensures.grows.0 in
    let two = c.put_column.ensures.grows.0 ∙ one in
    let id = (rw one at c.put_column.ensures.value) _ (number ∷ []) (omega arith) c.begin_by_number.ensures.value in
    let calendar = (rw two at c.put_column-2.ensures.value) _ (number ∷ text Id ∷ []) (omega arith) id in
    let three = c.put_column-2.ensures.grows.0 ∙ two in
    (rw three at c.put_column-3.ensures.value) _ (number ∷ text Id ∷ text Calendar ∷ []) (omega arith) calendar

pub returns-else-has_notes-clause-value : goal.returns-else-has_notes-clause-value
returns-else-has_notes-clause-value c =
    rw (c.if-has_notes.false, ← c.entry-entry.ensures, ← c.body-body.ensures.value, ← c.number.ensures.value)
    (three (goal.at.returns-else-has_notes-clause-value c).After-put_column-3)

pub returns-then-has_notes-clause-value : goal.returns-then-has_notes-clause-value
returns-then-has_notes-clause-value c =
    let before = three (goal.at.returns-then-has_notes-clause-value c).After-put_column-3 in
    let same = c.put_column-3.ensures.grows.0 ∙ c.put_column-2.ensures.grows.0 ∙ c.put_column.ensures.grows.0
    ∙ c.begin_by_number.ensures.grows.0 in
    let text = text_shown (body_seen c.body-body.result.now) in
    rw (c.if-has_notes.true, ← c.entry-entry.ensures, ← c.body-body.ensures.value, ← c.number.ensures.value)
    ((rw same at c.put_column-then-has_notes.ensures.value) _
    (decimal c.number.result ∷ text Id ∷ text Calendar ∷ text Date ∷ []) (omega arith) before)
