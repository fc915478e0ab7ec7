-- The fields of a tail, while they are appended, and the cells among them.
use Rattle.std.proofs.Common.{◌≡◌, ℕ, zero, suc, ◌+◌, ◌-◌, ◌<◌, ◌≤◌, min, Bool, true, false, List, [], ◌∷◌, ◌++◌, map}
use Rattle.std.proofs.Common.{length, get_or, take, drop, ℤ, pos, negsuc, IsTrue, nat_le, ◌==◌, Ok, Err, decimal}
use Rattle.std.proofs.Common.{Result, flat_map, sym, refl, ap, ◌∙◌, subst, append_assoc, append-nil, add-one, arith}
use Rattle.std.proofs.Common.{length-drop, take_all, drop-cons, take_at, rules, eq-eqb}
use Rattle.register_records.proofs.Common.{fields_text, needs_byte, needs_quotes, is_plain, CellsArePlain, OneCell}
use Rattle.register_records.proofs.Common.{refusal_number, Refusal, Target, IsDayNumber, weekday_names, weekday_number}
use Rattle.register_records.proofs.Common.{Day, Column, cell_columns, writing, fields_behind, AreCells, cells_of}
use Rattle.register_records.proofs.Common.{outcome_seen, is_delimiter, ∥∥₁_elim, props, or_parts, nat_tests, ints}
use Rattle.register_records.proofs.Common.{signed_decimal, AllZip, list_all, onto_first, position_or_len, slice_split}
use Rattle.std.proofs.lemmas.Slice.Zip.{AllZip-long, all_zipped_more}
use Rattle.std.proofs.lemmas.Fmt.{length-decimal-le, length_signed_le}
use Rattle.std.proofs.lemmas.List.Splits.{length-slice_split}
use Rattle.day_numbers.specs.Numbered.{words}
use Rattle.day_numbers.proofs.NameLemmas.{each_name}
use Rattle.register_records.specs.RowTails.{fields_of}
use Rattle.register_records.specs.private.TableColumns.{column_texts, tail_texts, row_with, IsCellField}
use Rattle.register_records.specs.declared.row_tails.RowTail.{RowTail}
use Rattle.register_records.specs.declared.table_columns.ColumnKind.TheVariants.{Cells, Refusal as RefusalColumn}
use Rattle.register_records.proofs.OutcomeLemmas.{has_cells, one_cells}
use Rattle.register_records.proofs.LineLemmas.{more_fields_text, plain_bytes, plain_text, plain_day, plain_decimal}
use Rattle.std.proofs.Math.Seq.{drop-append_seam}

-- the bytes of fields behind delimiters
abbrev pub text : ℕ → List (List ℕ) → List ℕ
text d fields = fields_text (writing d) fields

-- of one that needs no quotes
one_field : (d : ℕ) (field : List ℕ) → needs_quotes (writing d) field ≡ false → text d (field ∷ []) ≡ d ∷ field
unfolding fields_text
one_field d field h = rw (plain_text d field h) (ap (λ (t : List ℕ). d ∷ t) (append-nil field))

-- a delimiter cuts
abbrev cuts : ℕ → ℕ → Bool
cuts d b = b == d

plain_byte_stays : (d b : ℕ) → needs_byte (writing d) b ≡ false → cuts d b ≡ false
plain_byte_stays d b h = grind (arith, nat_tests)

-- a field that needs no quotes is not cut
plain_is_whole : (d : ℕ) (field : List ℕ) → needs_quotes (writing d) field ≡ false
    → slice_split (cuts d) field ≡ field ∷ []
plain_is_whole d [] h = refl
plain_is_whole d (b ∷ field) h =
    let both = or_parts (needs_byte (writing d) b) (needs_quotes (writing d) field) h in
    rw (plain_byte_stays d b both.0, plain_is_whole d field both.1) refl

-- one more part at the end
part_behind : (b : ℕ) (parts : List (List ℕ)) (field : List ℕ) → 1 ≤ length parts
    → onto_first b (parts ++ field ∷ []) ≡ onto_first b parts ++ field ∷ []
part_behind b parts field some = search rules

part_after_first : (parts : List (List ℕ)) (field : List ℕ) → 1 ≤ length parts
    → drop 1 (parts ++ field ∷ []) ≡ drop 1 parts ++ field ∷ []
part_after_first parts field some = search rules

some_parts : (d : ℕ) (bytes : List ℕ) → 1 ≤ length (slice_split (cuts d) bytes)
some_parts d bytes = omega (arith, length-slice_split (cuts d) bytes)

one_more_part : (d : ℕ) (bytes field : List ℕ) → needs_quotes (writing d) field ≡ false
    → slice_split (cuts d) (bytes ++ d ∷ field) ≡ slice_split (cuts d) bytes ++ field ∷ []
one_more_part d [] field h = rw (eq-eqb d d refl, plain_is_whole d field h) refl
one_more_part d (b ∷ bytes) field h = search (rules, cuts, part_behind, some_parts, one_more_part d bytes field h)

-- bytes to which these fields were appended
pub record Grown (d : ℕ) (more : List (List ℕ)) (old new : List ℕ) : Type 0 where
  pub fields : fields_behind d new ≡ fields_behind d old ++ more
  pub plain : new ≡ text d (fields_behind d new)

pub grown : (d : ℕ) (field old new : List ℕ) → needs_quotes (writing d) field ≡ false
    → old ≡ text d (fields_behind d old) → new ≡ old ++ d ∷ field → Grown d (field ∷ []) old new
grown d field old new h before is =
    let fields : fields_behind d new ≡ fields_behind d old ++ field ∷ [] =
    ap (fields_behind d) is ∙ ap (drop 1) (one_more_part d old field h)
    ∙ part_after_first (slice_split (cuts d) old) field (some_parts d old) in
    record {
      fields = fields;
      plain = cc (is, before, one_field d field h, more_fields_text d (fields_behind d old) (field ∷ []), fields);
    }

pub not_grown : (d : ℕ) (old : List ℕ) → old ≡ text d (fields_behind d old) → Grown d [] old old
not_grown d old is = record { fields = sym (append-nil _); plain = is }

pub grown_more : (d : ℕ) (more : List (List ℕ)) (field old bytes new : List ℕ)
    → needs_quotes (writing d) field ≡ false → Grown d more old bytes → new ≡ bytes ++ d ∷ field
    → Grown d (more ++ field ∷ []) old new
grown_more d more field old bytes new h before is =
    let last = grown d field bytes new h before.plain is in
    record {
      fields = cc (last.fields, before.fields, append_assoc (fields_behind d old) more (field ∷ []));
      plain = last.plain;
    }

-- a text that needs no quotes, with so many bytes at most
pub record Fits (d limit : ℕ) (text : List ℕ) : Type 0 where
  pub plain : needs_quotes (writing d) text ≡ false
  pub short : length text ≤ limit

-- a day number has eight
pub day_length : (z : ℤ) → IsDayNumber z → length (signed_decimal z) ≤ 8
day_length (pos n) r = length_signed_le 7 (pos n) (omega (arith, ints, r.0, r.1)) (omega (arith, ints, r.0, r.1))
day_length (negsuc n) r = length_signed_le 7 (negsuc n) (omega (arith, ints, r.0, r.1)) (omega (arith, ints, r.0, r.1))

-- the name of a weekday has nine
abbrev is_short : List ℕ → Bool
is_short name = nat_le (length name) 9

short_length : (name : List ℕ) → IsTrue (is_short name) → length name ≤ 9
short_length name h = grind (arith, nat_tests)

pub weekday_fits : (d : ℕ) → is_delimiter d ≡ true → (number : ℕ) → Fits d 9 (get_or weekday_names number [])
unfolding words
weekday_fits d h number = record {
  plain = plain_bytes d h _ (each_name (list_all is_plain) weekday_names number refl refl);
  short = short_length _ (each_name is_short weekday_names number refl refl);
}

-- so what stands in the first two columns of a tail needs no quotes
first_two : (d : ℕ) → is_delimiter d ≡ true → (o : Result Day Refusal) (ts : List Target) (cells : List (List ℕ)) (k : ℕ)
    → k < 2 → needs_quotes (writing d) (get_or (tail_texts ts (outcome_seen o) cells) k []) ≡ false
first_two d h (Ok day) ts cells zero lt = plain_day d h day.number day.in_range
first_two d h (Ok day) ts cells (suc zero) lt = (weekday_fits d h (weekday_number day.number)).plain
first_two d h o ts cells k lt = grind arith

-- the first delimiter behind a field that needs no quotes ends it
ends_at : (d : ℕ) (field : List ℕ) (more : List (List ℕ)) → needs_quotes (writing d) field ≡ false
    → position_or_len (cuts d) (field ++ text d more) ≡ length field
unfolding fields_text
ends_at d [] [] h = refl
ends_at d [] (next ∷ more) h = rw (eq-eqb d d refl) refl
ends_at d (b ∷ field) more h =
    let both = or_parts (needs_byte (writing d) b) (needs_quotes (writing d) field) h in
    rw (plain_byte_stays d b both.0, ends_at d field more both.1) (omega arith)

pub behind_first : (d : ℕ) (bytes rest : List ℕ) (start place : ℕ) (field : List ℕ) (more : List (List ℕ))
    → start ≡ min (length bytes) 1 → rest ≡ take (length bytes - start) (drop start bytes)
    → place ≡ position_or_len (cuts d) rest → needs_quotes (writing d) field ≡ false → bytes ≡ text d (field ∷ more)
    → take (length rest - place) (drop place rest) ≡ text d more
unfolding fields_text
behind_first d bytes rest start place field more from is at h whole =
    let one : start ≡ 1 = omega (arith, ap length whole) in
    let parts : rest ≡ field ++ text d more =
    grind (arith, take_all (length bytes - start) (drop start bytes), length-drop, plain_text d field h) in
    take_all (length rest - place) (drop place rest) (omega (arith, length-drop place rest))
    ∙ ap (λ k. drop k rest) (at ∙ ap (position_or_len (cuts d)) parts ∙ ends_at d field more h)
    ∙ ap (drop (length field)) parts ∙ drop-append_seam field (text d more)

-- what is left behind one more of the first two fields
pub one_passed : (d : ℕ) → is_delimiter d ≡ true → (o : Result Day Refusal) (ts : List Target) (cells : List (List ℕ))
    (k : ℕ) (bytes rest : List ℕ) → k < 2 → bytes ≡ text d (drop k (tail_texts ts (outcome_seen o) cells))
    → ((field : List ℕ) (more : List (List ℕ)) → needs_quotes (writing d) field ≡ false
    → bytes ≡ text d (field ∷ more) → rest ≡ text d more)
    → rest ≡ text d (drop (k + 1) (tail_texts ts (outcome_seen o) cells))
one_passed d h o ts cells k bytes rest lt is behind =
    let fields = tail_texts ts (outcome_seen o) cells in
    let split : drop k fields ≡ get_or fields k [] ∷ drop (k + 1) fields =
    rw (add-one, drop-cons fields k [] (omega arith)) refl in
    behind (get_or fields k []) (drop (k + 1) fields) (first_two d h o ts cells k lt) (is ∙ ap (text d) split)

-- the number of a refusal has one digit
pub refusal_fits : (d : ℕ) → is_delimiter d ≡ true → (r : Refusal) → Fits d 1 (decimal (refusal_number r))
refusal_fits d h r = search (rules, plain_decimal, length-decimal-le)

-- the field of a target needs no quotes
pub plain_field : CellsArePlain → (d : ℕ) → is_delimiter d ≡ true → (o : Result ℤ Refusal) (t : Target) (field : List ℕ)
    → IsCellField o t field → needs_quotes (writing d) field ≡ false
plain_field law d h o t field is = search (rules, plain_bytes)

-- what stands in the columns of the cells: on a day the cells, and else nothing
day_cells : (n : ℤ) (place : ℕ) (all : List (List ℕ)) (ts : List Target) (cells : List (List ℕ))
    → drop place all ≡ cells → AreCells ts (Ok n) cells
    → map (λ (c : Column). c.field (row_with (Ok n) all)) (cell_columns place ts) ≡ cells
day_cells n place all (t ∷ ts) (x ∷ cells) e a =
    let lt : place < length all = omega (arith, length-drop place all, ap length e) in
    let split : drop place all ≡ get_or all place [] ∷ drop (place + 1) all = rw (add-one, drop-cons all place [])
    refl in
    cc (split, e, day_cells n (place + 1) all ts cells (cc (split, e)) a.1)
day_cells n place all ts cells e a = search (rules, length-drop, add-one, drop-cons)

nothing_at : (place : ℕ) → get_or {A = List ℕ} [] place [] ≡ []
nothing_at place = search rules

no_cells : (r : Refusal) (place : ℕ) (ts : List Target) (fields : List (List ℕ))
    → AllZip (IsCellField (Err r)) ts fields
    → map (λ (c : Column). c.field (row_with (Err r) [])) (cell_columns place ts) ≡ fields
no_cells r place (t ∷ ts) (x ∷ fields) a =
    grind (arith, ints, no_cells r (place + 1) ts fields a.1, nothing_at place, a.0)
no_cells r place ts fields a = search (rules, ints, nothing_at)

-- what was appended in four steps
pub four_texts : {A : Type 0} {none one two three four : List A} (a b c d : List A) → none ≡ [] → one ≡ none ++ a
    → two ≡ one ++ b → three ≡ two ++ c → four ≡ three ++ d → four ≡ a ++ (b ++ (c ++ (d ++ [])))
four_texts a b c d e f g h i = rw (i, h, g, f, e) (simp (append_assoc, append-nil))

-- what stands in the column of each target is what stands in those of the cells
pub shown_cells : OneCell → (o : Result ℤ Refusal) (ts : List Target) (fields cells : List (List ℕ))
    → AllZip (IsCellField o) ts fields → AreCells ts o cells → fields ≡ column_texts ts o cells Cells
shown_cells law (Ok n) ts fields cells shown are =
    cc (one_cells law (Ok n) ts fields cells shown are, day_cells n 0 cells ts cells refl are)
shown_cells law (Err r) ts fields cells shown are = cc (are, no_cells r 0 ts fields shown)

-- bytes to which the fields of these targets were appended
pub record HasCells (d : ℕ) (o : Result ℤ Refusal) (ts : List Target) (old new : List ℕ) : Type 0 where
  pub fields : List (List ℕ)
  pub are : AllZip (IsCellField o) ts fields
  pub put : Grown d fields old new

pub no_cell : (d : ℕ) (o : Result ℤ Refusal) (old : List ℕ) → old ≡ text d (fields_behind d old) → HasCells d o [] old old
no_cell d o old is = record { fields = []; are = tt; put = not_grown d old is }

pub one_more_cell : {d : ℕ} {o : Result ℤ Refusal} {ts : List Target} {old bytes new : List ℕ} (t : Target)
    → CellsArePlain → is_delimiter d ≡ true → HasCells d o ts old bytes
    → (cell : List ℕ) × IsCellField o t cell × (new ≡ bytes ++ d ∷ cell) → HasCells d o (ts ++ t ∷ []) old new
one_more_cell {d = d} {o = o} {ts = ts} {old = old} {bytes = bytes} {new = new} t law h before (cell, is, more) =
    record {
      fields = before.fields ++ cell ∷ [];
      are = all_zipped_more (IsCellField o) ts before.fields t cell before.are is;
      put = grown_more d before.fields cell old bytes new (plain_field law d h o t cell is) before.put more;
    }

pub all_cells : OneCell → (d : ℕ) (o : Result ℤ Refusal) (ts : List Target) (old new : List ℕ) → HasCells d o ts old new
    → (cells : List (List ℕ)) → AreCells ts o cells
    → fields_behind d new ≡ fields_behind d old ++ column_texts ts o cells Cells
all_cells law d o ts old new has cells are = cc (has.put.fields, shown_cells law o ts has.fields cells has.are are)

-- the cells stand among the fields of all columns of a tail
cells_among : (ts : List Target) (o : Result Day Refusal) (cells : List (List ℕ)) (tail : RowTail)
    → AreCells ts (outcome_seen o) cells → fields_of tail ≡ tail_texts ts (outcome_seen o) cells
    → cells_of ts o tail ≡ cells
cells_among ts (Ok day) cells tail are is =
    let behind = flat_map (column_texts ts (Ok day.number) cells) (RefusalColumn ∷ []) in
    let all = take_at cells behind (length ts) (AllZip-long (IsCellField (Ok day.number)) ts cells are) in
    cc (is, all, day_cells day.number 0 cells ts cells refl are)
cells_among ts (Err r) cells tail are is = sym are

pub record AreWhole (ts : List Target) (o : Result Day Refusal) (tail : RowTail) : Type 0 where
  pub cells : AreCells ts (outcome_seen o) (cells_of ts o tail)
  pub written : fields_of tail ≡ tail_texts ts (outcome_seen o) (cells_of ts o tail)

pub whole_tail : (ts : List Target) (o : Result Day Refusal) (tail : RowTail)
    → ((cells : List (List ℕ)) → AreCells ts (outcome_seen o) cells
    → fields_of tail ≡ tail_texts ts (outcome_seen o) cells)
    → AreWhole ts o tail
whole_tail ts o tail is =
    let (known, are) = has_cells ts (outcome_seen o) in
    let same = sym (cells_among ts o known tail are (is known are)) in
    record {
      cells = subst (λ (cells : List (List ℕ)). AreCells ts (outcome_seen o) cells) same are;
      written = is known are ∙ ap (tail_texts ts (outcome_seen o)) same;
    }

-- what is only said of its cells is known of them, since they are the only ones
pub known_cells : OneCell → (ts : List Target) (o : Result ℤ Refusal) (cells : List (List ℕ)) → ∥ AreCells ts o cells ∥₁
    → AreCells ts o cells
known_cells law ts o cells said =
    let (known, are) = has_cells ts o in
    let same : known ≡ cells =
    ∥∥₁_elim said (Prim.hlevel props) (λ is. one_cells law o ts known cells are is) in
    subst (λ (xs : List (List ℕ)). AreCells ts o xs) same are
