use Rattle.std.proofs.Common.{◌≡◌, ◌∙◌, ◌++◌, ◌∷◌, [], ℕ, Bool, List, ap, append-nil, append_assoc, codes, false, rules}
use Rattle.std.proofs.Common.{subst, true, OnOk}
use Rattle.sheets.proofs.Common.{Fields, row_seen, Dated, DatedEnd, GainsFields, dated_seen}
use Rattle.register_records.specs.Outcomes.{TableRow}
use Rattle.sheets.specs.Converted.{asked_cells, shown_in}
use Rattle.sheets.specs.DateEnds.{mark_text, told}
use Rattle.sheets.specs.private.DateViews.{edtf_field, fields_behind}
use Rattle.sheets.proofs.LineLemmas.{both_gained, gained_at_last}
use Rattle.sheets.proofs.record_lines.push_ends.Goals as goal

together : (xs : Fields) (with_edtf : Bool) (dated : Dated)
    → ((xs ++ edtf_field with_edtf dated) ++ mark_text dated.marks ∷ [])
    ++ shown_in (codes "refusal") (told dated) ∷ [] ≡ xs ++ fields_behind with_edtf dated
together xs true dated =
    let m = mark_text dated.marks ∷ [] in
    let r = shown_in (codes "refusal") (told dated) ∷ [] in
    append_assoc (xs ++ dated.edtf ∷ []) m r ∙ append_assoc xs (dated.edtf ∷ []) (m ++ r)
together xs false dated =
    let m = mark_text dated.marks ∷ [] in
    let r = shown_in (codes "refusal") (told dated) ∷ [] in
    append_assoc (xs ++ []) m r ∙ ap (λ (ys : Fields). ys ++ (m ++ r)) (append-nil xs)

pub returns : goal.returns
returns c =
    let columns = c.args.columns.now in
    let dated = dated_seen c.args.dates.now in
    let old = c.args.lines.now in
    let last : row_seen c.last.result.now.row ≡ dated.last.row = ap (λ (end : DatedEnd). end.row) c.last.ensures in
    let cells = subst (λ (row : TableRow). GainsFields (asked_cells columns row) c.push_cells.new.lines
    c.push_cells-2.new.lines) last c.in_ok-push_cells-2.ensures in
    let text : c.as_bytes.result.now ≡ mark_text dated.marks = search rules in
    let mark = subst (λ (text : List ℕ). GainsFields (text ∷ []) c.push_edtf.new.lines c.push.new.self) text
    c.in_ok-push.ensures in
    let refusal = subst (λ (row : TableRow). OnOk c.push_refusal.result (GainsFields (shown_in (codes "refusal") row ∷ [])
    c.push.new.self c.push_refusal.new.lines)) c.told.ensures c.push_refusal.ensures in
    gained_at_last c.push_refusal.result _ (shown_in (codes "refusal") (told dated) ∷ []) _ old c.push.new.self
    c.push_refusal.new.lines (both_gained _ _ old c.push_edtf.new.lines c.push.new.self
    (both_gained _ _ old c.push_cells-2.new.lines c.push_edtf.new.lines
    (both_gained _ _ old c.push_cells.new.lines c.push_cells-2.new.lines c.in_ok-push_cells.ensures cells)
    c.in_ok-push_edtf.ensures) mark) refusal
    (together (asked_cells columns dated.first.row ++ asked_cells columns dated.last.row) c.args.with_edtf dated)
