-- Rows whose entries are numbered from 1 are the first rows of some records.
use Rattle.std.proofs.Common.{◌≡◌, ℕ, ◌+◌, ◌≤◌, true, false, List, [], ◌∷◌, ◌++◌, map, length, replicate, ℤ, None, Ok}
use Rattle.std.proofs.Common.{Err, Result, sym, refl, ap, ◌∙◌, subst, append-nil, arith, rules}
use Rattle.register_records.proofs.Common.{Refusal, Target, entry_order, AreNumberedFrom, HasFirstEntries, Numbered}
use Rattle.register_records.proofs.Common.{Reading, are_fit, body_of, entries_from, record_limit, IsOutcome, IsRowOf}
use Rattle.register_records.proofs.Common.{TableRow, Fields, Texts, has_notes, before_seal, entry_records, is_seal}
use Rattle.register_records.proofs.Common.{entry_seen, entry_field, row_fields, table_text, row_seen, Row, Form, Plain}
use Rattle.register_records.proofs.Common.{Sealed, and_parts, nat_tests, length-map, AllZip, ⊤, chars, is_utf8}
use Rattle.register_records.proofs.OutcomeLemmas.{outcome_of_same, AreInOrder, numbered as in_order}
use Rattle.date_texts.specs.declared.refusal.Refusal.TheVariants as refusal
use Rattle.register_records.specs.Tables.{Layout, heading_line, lines_text}
use Rattle.register_records.proofs.FieldLemmas.{no_bytes}
use Rattle.register_records.proofs.LineLemmas.{fields_in_parts}
use Rattle.register_records.specs.Sources.{IsFrontOfTable}

-- a body without the note for which a plain form has no place, and so an entry and a row
abbrev placed : Form → Result Texts Refusal → Result Texts Refusal
placed Plain (Ok t) = Ok (record { id = t.id; calendar = t.calendar; date = t.date; note = [] })
placed Plain (Err r) = Err r
placed Sealed body = body

abbrev placed_entry : Form → Numbered → Numbered
placed_entry form entry = record { number = entry.number; body = placed form entry.body }

abbrev placed_row : Form → TableRow → TableRow
placed_row form row =
    record { number = row.number; body = placed form row.body; outcome = row.outcome; cells = row.cells }

-- a record of that body
abbrev of_texts : Form → Texts → Fields
of_texts Plain t = t.id ∷ t.calendar ∷ t.date ∷ []
of_texts Sealed t = t.id ∷ t.calendar ∷ t.date ∷ t.note ∷ []

abbrev of_id : Form → List ℕ → Fields
of_id form id = of_texts form (record { id = id; calendar = []; date = []; note = [] })

abbrev record_of : Form → Result Texts Refusal → Fields
record_of form (Ok t) = of_texts form t
record_of form (Err refusal.FieldTooLong) = of_id form (replicate 41 0)
record_of form (Err refusal.NotUtf8) = of_id form (255 ∷ [])
record_of form (Err r) = []

abbrev records_of : Form → List Numbered → List Fields
records_of form entries = map (λ (entry : Numbered). record_of form entry.body) entries

-- FF stands in no text
no_text : is_utf8 (255 ∷ []) ≡ false
unfolding is_utf8 chars
no_text = refl

body_made : (form : Form) (body : Result Texts Refusal) → are_fit body ≡ true
    → body_of form (record_of form body) ≡ placed form body
body_made form body fit = search (rules, no_bytes, and_parts, no_text)

no_seal : (body : Result Texts Refusal) → is_seal (record_of Sealed body) ≡ false
no_seal body = search rules

all_before : (entries : List Numbered) → before_seal (records_of Sealed entries) ≡ records_of Sealed entries
unfolding before_seal
all_before [] = refl
all_before (entry ∷ entries) = rw (no_seal entry.body, all_before entries) refl

all_records : (form : Form) (entries : List Numbered)
    → entry_records form (records_of form entries) ≡ records_of form entries
all_records form entries = search (rules, all_before)

-- entries as the type of an entry has them
abbrev AreFit : List Numbered → Type 0
AreFit [] = ⊤
AreFit (entry ∷ entries) = (entry.number ≤ record_limit) × (are_fit entry.body ≡ true) × AreFit entries

rows_fit : (rows : List Row) → AreFit (map (λ (row : Row). entry_seen row.entry) rows)
rows_fit [] = tt
rows_fit (row ∷ rows) = (row.entry.limited, row.entry.fit, rows_fit rows)

entry_made : (n m : ℕ) (a b : Result Texts Refusal) → n ≡ m → a ≡ b
    → ◌≡◌ {A = Numbered} (record { number = n; body = a }) (record { number = m; body = b })
entry_made n m a b e f = rw (e, f) refl

entries_made : (form : Form) (k : ℕ) (entries : List Numbered) → AreNumberedFrom (k + 1) entries → AreFit entries
    → entries_from form k (records_of form entries) ≡ map (placed_entry form) entries
unfolding entries_from
entries_made form k [] numbered fit = refl
entries_made form k (entry ∷ entries) numbered fit =
    search (rules, nat_tests, entry_made, body_made, entries_made form (k + 1) entries numbered.1 fit.2)

some_records : (reading : Reading) (entries : List Numbered) → AreNumberedFrom 1 entries → AreFit entries
    → HasFirstEntries reading None (map (placed_entry reading.form) entries)
some_records reading entries numbered fit =
    let made = ap (entries_from reading.form 0) (all_records reading.form entries)
    ∙ entries_made reading.form 0 entries numbered fit in
    ([], (records_of reading.form entries, tt, append-nil _ ∙ sym made))

-- the rows of those entries
of_form : (form : Form) (body : Result Texts Refusal) (outcome : Result ℤ Refusal) → IsOutcome body outcome
    → IsOutcome (placed form body) outcome
of_form Plain (Ok t) outcome is = outcome_of_same (Ok t) _ outcome (refl, refl) is
of_form form body outcome is = is

rows_placed : (form : Form) (targets : List Target) (entries : List Numbered) (rows : List TableRow)
    → AllZip (IsRowOf targets) entries rows
    → AllZip (IsRowOf targets) (map (placed_entry form) entries) (map (placed_row form) rows)
rows_placed form targets (entry ∷ entries) (row ∷ rows) are =
    let body = ap (placed form) are.0.body in
    search (rules, body, of_form, rows_placed form targets entries rows are.1)
rows_placed form targets entries rows are = search (rules, placed, of_form)

-- and their fields and lines
texts_placed : (form : Form) (number : ℕ) (body : Result Texts Refusal) (outcome : Result ℤ Refusal)
    (cells : List (List ℕ)) (row : TableRow)
    → row ≡ record { number = number; body = body; outcome = outcome; cells = cells }
    → map (entry_field (placed_row form row)) (entry_order (has_notes form))
    ≡ map (entry_field row) (entry_order (has_notes form))
texts_placed form number body outcome cells row is = search rules

fields_placed : (form : Form) (targets : List Target) (row : TableRow)
    → row_fields (has_notes form) targets (placed_row form row) ≡ row_fields (has_notes form) targets row
fields_placed form targets row =
    let texts = texts_placed form row.number row.body row.outcome row.cells row refl in
    let parts = fields_in_parts (has_notes form) targets in
    cc (parts row, parts (placed_row form row), texts)

lines_placed : (form : Form) (layout : Layout) → layout.writing.has_notes ≡ has_notes form → (rows : List TableRow)
    → lines_text layout (map (placed_row form) rows) ≡ lines_text layout rows
unfolding lines_text
lines_placed form layout notes [] = refl
lines_placed form layout notes (row ∷ rows) =
    grind (arith, notes, fields_placed form layout.targets row, lines_placed form layout notes rows)

-- rows are the first rows of some records, by what an entry may hold
pub front_of_some : (reading : Reading) (layout : Layout) → layout.writing.has_notes ≡ has_notes reading.form
    → (rows : List Row) → AreNumberedFrom 1 (map (λ (row : Row). entry_seen row.entry) rows)
    → AllZip (IsRowOf layout.targets) (map (λ (row : Row). entry_seen row.entry) rows) (map row_seen rows)
    → IsFrontOfTable reading layout None (length (map row_seen rows)) (table_text layout (map row_seen rows))
front_of_some reading layout notes rows numbered are =
    let form = reading.form in
    let entries = map (λ (row : Row). entry_seen row.entry) rows in (
      map (placed_entry form) entries,
      map (placed_row form) (map row_seen rows),
      record {
        numbered = subst (AreInOrder 1) (entries_made form 0 entries numbered (rows_fit rows)) (in_order form 0 _);
        converted = rows_placed form layout.targets entries (map row_seen rows) are;
        written =
            ap (λ (lines : List ℕ). heading_line layout ++ lines)
            (sym (lines_placed form layout notes (map row_seen rows)));
      },
      (some_records reading entries numbered (rows_fit rows), sym (length-map (map row_seen rows) (placed_row form))),
    )
