-- The lines of records, one behind the other.
use Rattle.std.proofs.Common.{◌≡◌, ◌≤◌, ◌<◌, ◌+◌, ◌∙◌, ℕ, List, [], ◌∷◌, ◌++◌, Option, Some}
use Rattle.std.proofs.Common.{append-nil, ap, arith, Bor, drop, false, get_or, inl, inr, length, length-append, None, ◌-◌}
use Rattle.std.proofs.Common.{refl, slice_get, sym, take}
use Rattle.std.specs.Prelude.{MatchOption, OnOk, Result, Ok, Err, is_err}
use Rattle.csv.specs.Writing.{default_writer, escaped, field_text, fields_text, is_blank, row_body, row_text}
use Rattle.csv.specs.Writing.{with_delimiter}
use Rattle.register_records.specs.Entries.{Fields}
use Rattle.register_records.specs.Lines.{line_text}
use Rattle.page_rules.specs.Orders.{records_at}
use Rattle.sheets.specs.Sheets.{records_text}
use Rattle.page_rules.specs.private.RecordViews.{AreBounds, HasLines, writing}
use Rattle.page_rules.specs.declared.lines.RecordLines.{RecordLines}
use Rattle.std.proofs.Math.Nat.{eq-or-lt_of_le}
use Rattle.std.proofs.Math.Seq.{drop-append_seam, take-append_seam}
use Rattle.std.proofs.lemmas.List.{drop_more, flat_map_more, get_or_append_left, get_or_push, length_push, map-append}
use Rattle.std.proofs.lemmas.List.{take-append-drop, take-append-le, take_all, take_more}
use Rattle.std.proofs.lemmas.List.Concat.{flat_map-append}
use Rattle.std.proofs.lemmas.Option.{get_or_from_slice_get, slice_get_within}
use Rattle.std.specs.List.{slice_range}
use Rattle.std.specs.Slice.{IsGetRangeResult}

-- a line is the same text whether records may differ in length or not
same_escaped : (d : ℕ) (field : List ℕ)
    → escaped (writing d) field ≡ escaped (with_delimiter default_writer d) field
unfolding escaped
same_escaped d [] = refl
same_escaped d (b ∷ rest) = rw (same_escaped d rest) refl

same_field : (d : ℕ) (field : List ℕ)
    → field_text (writing d) field ≡ field_text (with_delimiter default_writer d) field
same_field d field = rw (same_escaped d field) refl

same_fields : (d : ℕ) (fields : List (List ℕ))
    → fields_text (writing d) fields ≡ fields_text (with_delimiter default_writer d) fields
unfolding fields_text
same_fields d [] = refl
same_fields d (field ∷ rest) = rw (same_field d field, same_fields d rest) refl

same_blank : (d : ℕ) (fields : List (List ℕ))
    → is_blank (writing d) fields ≡ is_blank (with_delimiter default_writer d) fields
unfolding is_blank
same_blank d fields = grind (arith, same_field)

same_body : (d : ℕ) (fields : List (List ℕ))
    → row_body (writing d) fields ≡ row_body (with_delimiter default_writer d) fields
same_body d fields = grind (arith, same_field, same_fields)

pub same_line : (d : ℕ) (fields : List (List ℕ)) → row_text (writing d) fields ≡ line_text d fields
same_line d fields = rw (same_body d fields, same_blank d fields) refl

-- what holds of a call that did not fail
pub of_ok : {T E : Type 0} (r : Result T E) (P : Type 0) → is_err r ≡ false → OnOk r P → P
of_ok (Ok x) P e h = h
of_ok (Err x) P e h = absurd (cc)

-- bytes that were written and have left the writer's buffer
pub all_out : (before row held pending mid waiting out kept : List ℕ) → held ≡ before → pending ≡ []
    → mid ++ waiting ≡ (held ++ pending) ++ row → out ++ kept ≡ mid ++ waiting → kept ≡ [] → out ≡ before ++ row
all_out before row held pending mid waiting out kept a b c d e =
    let whole : out ++ [] ≡ (before ++ []) ++ row = rw (e, c, a, b) at d in
    sym (append-nil out) ∙ whole ∙ ap (λ (t : List ℕ). t ++ row) (append-nil before)

-- one more line
pub more_text : (d : ℕ) (records : List Fields) (fields : Fields)
    → records_text d (records ++ fields ∷ []) ≡ records_text d records ++ line_text d fields
more_text d records fields = sym (flat_map_more (line_text d) [] records fields)

pub more_bounds : (d : ℕ) (records : List Fields) (fields : Fields) (bounds : List ℕ) (end : ℕ)
    → AreBounds d records bounds → end ≡ length (records_text d (records ++ fields ∷ []))
    → AreBounds d (records ++ fields ∷ []) (bounds ++ end ∷ [])
more_bounds d records fields bounds end are is =
    let more = length_push records fields in
    let long = length_push bounds end in
    record {
      count = omega (arith, more, long, are.count);
      at = λ i low. elim (eq-or-lt_of_le low) [
        | inl last ↦ get_or_push bounds end 0 i (omega (arith, last, more, are.count)) ∙ is
            ∙ ap (λ all. length (records_text d all)) (sym (take_all i (records ++ fields ∷ []) (omega (arith, last))))
        | inr less ↦
            let there : i ≤ length records = omega (arith, less, more) in
            get_or_append_left bounds (end ∷ []) 0 i (omega (arith, there, are.count)) ∙ are.at i there
            ∙ ap (λ all. length (records_text d all)) (sym (take-append-le i records (fields ∷ []) there))
      ];
    }

-- a line in the text of all
in_middle : (a b c : List ℕ) → slice_range (a ++ (b ++ c)) (length a) (length a + length b) ≡ b
in_middle a b c =
    let gap : (length a + length b) - length a ≡ length b = omega arith in
    rw (drop-append_seam a (b ++ c), gap) (take-append_seam b c)

text_around : (d : ℕ) (records : List Fields) (i : ℕ) → i < length records
    → records_text d records
    ≡ records_text d (take i records) ++ (line_text d (get_or records i []) ++ records_text d (drop (i + 1) records))
text_around d records i lt =
    ap (records_text d) (sym (take-append-drop i records))
    ∙ flat_map-append (line_text d) (take i records) (drop i records)
    ∙ ap (λ all. records_text d (take i records) ++ records_text d all) (drop_more records i [] lt)

line_ends : (d : ℕ) (records : List Fields) (i : ℕ) → i < length records
    → length (records_text d (take (i + 1) records))
    ≡ length (records_text d (take i records)) + length (line_text d (get_or records i []))
line_ends d records i lt =
    ap (λ all. length (records_text d all)) (take_more records i [] lt)
    ∙ ap length (more_text d (take i records) (get_or records i []))
    ∙ length-append (records_text d (take i records)) (line_text d (get_or records i []))

line_in : (d : ℕ) (records : List Fields) (i begin end : ℕ) → i < length records
    → begin ≡ length (records_text d (take i records)) → end ≡ length (records_text d (take (i + 1) records))
    → (begin ≤ end) × (end ≤ length (records_text d records))
    × (slice_range (records_text d records) begin end ≡ line_text d (get_or records i []))
line_in d records i begin end lt from to =
    let front = records_text d (take i records) in
    let line = line_text d (get_or records i []) in
    let back = records_text d (drop (i + 1) records) in
    let around = text_around d records i lt in
    let ends : end ≡ length front + length line = to ∙ line_ends d records i lt in
    let long = ap length around ∙ length-append front (line ++ back) in (
      omega (arith, from, ends),
      omega (arith, from, ends, long, length-append line back),
      rw (around, from, ends) (in_middle front line back),
    )

pub line_found : (d : ℕ) (records : List Fields) (lines : RecordLines) (text : List ℕ) (index begin end : ℕ)
    (found : Option (Bor (List ℕ))) → HasLines d records lines → slice_get lines.bounds.items index ≡ Some begin
    → slice_get lines.bounds.items (index + 1) ≡ Some end → text ≡ records_text d records
    → IsGetRangeResult text begin end found
    → MatchOption found (length records ≤ index) (λ line. (index < length records)
    × (line.now ≡ line_text d (get_or records index [])))
line_found d records lines text index begin end found has first next whole got =
    let bounds = lines.bounds.items in
    let within = slice_get_within bounds (index + 1) end next in
    let lt : index < length records = omega (arith, within, has.bounds.count) in
    let from = sym (get_or_from_slice_get bounds index begin 0 first) ∙ has.bounds.at index (omega (arith, lt)) in
    let to = sym (get_or_from_slice_get bounds (index + 1) end 0 next) ∙ has.bounds.at (index + 1) (omega (arith, lt)) in
    let there = line_in d records index begin end lt from to in
    by_part found (rw whole at got) there
  where
    by_part : (found : Option (Bor (List ℕ))) → IsGetRangeResult (records_text d records) begin end found
        → (begin ≤ end) × (end ≤ length (records_text d records))
        × (slice_range (records_text d records) begin end ≡ line_text d (get_or records index []))
        → MatchOption found (length records ≤ index) (λ line. (index < length records)
        × (line.now ≡ line_text d (get_or records index [])))
    by_part None got there = let some = got.1 (there.0, there.1) in absurd (cc)
    by_part (Some line) got there =
        let within = slice_get_within lines.bounds.items (index + 1) end next in
        (omega (arith, within, has.bounds.count), got.0.2 ∙ there.2)

-- one more record in the order
pub one_more : (d : ℕ) (records : List Fields) (indices made line new : List ℕ) (i : ℕ) → i < length indices
    → made ≡ records_text d (records_at records (take i indices))
    → line ≡ line_text d (get_or records (get_or indices i 0) []) → new ≡ made ++ line
    → new ≡ records_text d (records_at records (take (i + 1) indices))
one_more d records indices made line new i lt before is e =
    let index = get_or indices i 0 in
    let next : records_at records (take (i + 1) indices)
    ≡ records_at records (take i indices) ++ get_or records index [] ∷ []
    = ap (records_at records) (take_more indices i 0 lt)
    ∙ map-append (λ (k : ℕ). get_or records k []) (take i indices) (index ∷ []) in
    e ∙ rw (before, is) (sym (ap (records_text d) next ∙ more_text d (records_at records (take i indices))
    (get_or records index [])))
