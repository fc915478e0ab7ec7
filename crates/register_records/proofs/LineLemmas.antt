-- The fields of a line, while they are appended.
use Rattle.std.proofs.Common.{◌≡◌, ℕ, ◌+◌, ◌%◌, ◌^◌, ◌<◌, ◌≤◌, Bool, true, false, List, [], ◌∷◌, ◌++◌, map, length}
use Rattle.std.proofs.Common.{get_or, take, drop, set, ℤ, if◌then◌else◌, ◌==◌, decimal, Result, flat_map, sym, refl, ap}
use Rattle.std.proofs.Common.{◌∙◌, append_assoc, append-nil, arith, length-append, length-set, length-take-le, rules}
use Rattle.register_records.proofs.Common.{escaped-double, escaped-other, fields-snoc, field_text, fields_text}
use Rattle.register_records.proofs.Common.{is_blank, needs_byte, needs_quotes, row_body, target_name, is_plain, Refusal}
use Rattle.register_records.proofs.Common.{Target, IsDayNumber, has_plain_texts, Column, cell_columns, columns}
use Rattle.register_records.proofs.Common.{entry_order, kind_columns, tail_order, writing}
use Rattle.register_records.proofs.Common.{line_text, TableRow, Texts, is_delimiter, entry_field, kind_name, kind_names}
use Rattle.register_records.proofs.Common.{row_fields, text_shown, take-append-add, and_parts, nat_tests, ints}
use Rattle.register_records.proofs.Common.{map-append, take_more, AllPass-from_list_all, signed_decimal, list_all}
use Rattle.std.proofs.lemmas.Fmt.{length-decimal-le, decimal_by_steps}
use Rattle.std.proofs.lemmas.List.{at_drop_more, flat_map_more, take_more_set, take-append-le}
use borrow.Rule.Slice.PartMut.{put_mid}
use Rattle.register_records.specs.private.LineRoom.{columns_room, number_room}
use Rattle.register_records.specs.private.TableColumns.{tail_texts, row_with, heading, kind_fields, laid_out}
use Rattle.register_records.specs.declared.table_columns.ColumnKind.{ColumnKind}
use Rattle.register_records.specs.declared.table_columns.ColumnKind.TheVariants.{Cells}
use Rattle.register_records.proofs.BareLemmas.{bare_text}
use Rattle.std.proofs.lemmas.List.Folds.{list_any-append, list_any_none}
use Rattle.std.proofs.lemmas.Grind.{flat_map-append}

-- the bytes of some fields, and of one more
abbrev pub body : ℕ → List (List ℕ) → List ℕ
body d fields = row_body (writing d) fields

pub one_more : (d : ℕ) (before : List ℕ) (fields : List (List ℕ)) (field old mid new : List ℕ) → 1 ≤ length fields
    → old ≡ before ++ body d fields → mid ≡ old ++ d ∷ [] → new ≡ mid ++ field_text (writing d) field
    → new ≡ before ++ body d (fields ++ field ∷ [])
one_more d before fields field old mid new some is m n = search (rules, fields-snoc, append_assoc)

-- a field that needs no quotes
pub plain_text : (d : ℕ) (field : List ℕ) → needs_quotes (writing d) field ≡ false
    → field_text (writing d) field ≡ field
plain_text d field h = rw h refl

pub only_field : (d : ℕ) (before field bytes : List ℕ) → needs_quotes (writing d) field ≡ false
    → bytes ≡ before ++ field → bytes ≡ before ++ body d (field ∷ [])
unfolding fields_text
only_field d before field bytes h e = search (rules, plain_text, append-nil)

-- a line that one field begins
pub first_text : (d : ℕ) (before field bytes : List ℕ) → bytes ≡ before ++ field_text (writing d) field
    → bytes ≡ before ++ body d (field ∷ [])
unfolding fields_text
first_text d before field bytes e = search (rules, append-nil)

-- a line is blank where it shows no byte
blank_shows_none : (d : ℕ) (fields : List (List ℕ)) → is_blank (writing d) fields ≡ (length (body d fields) == 0)
unfolding is_blank fields_text
blank_shows_none d [] = refl
blank_shows_none d (field ∷ []) = cc (append-nil (field_text (writing d) field))
blank_shows_none d (field ∷ next ∷ rest) = grind (arith, nat_tests, length-append)

-- such a line gets two quotes, and each a line feed
same_test : (n begun shown : ℕ) → n ≡ begun + shown → (n == begun) ≡ (shown == 0)
same_test n begun shown e = grind (arith, nat_tests)

pub ended_from : (d : ℕ) (before : List ℕ) (fields : List (List ℕ)) (n begun : ℕ) (old mid new : List ℕ)
    → n ≡ length old → length before ≡ begun → old ≡ before ++ body d fields
    → mid ≡ old ++ (if n == begun then 34 ∷ 34 ∷ [] else []) → new ≡ mid ++ 10 ∷ []
    → new ≡ before ++ line_text d fields
ended_from d before fields n begun old mid new long at is m e =
    let test : (n == begun) ≡ is_blank (writing d) fields =
    same_test n begun (length (body d fields)) (omega (arith, ap length is, length-append before (body d fields)))
    ∙ sym (blank_shows_none d fields) in
    search (rules, test, append_assoc, body)

-- a line of two fields or more is never blank
pub ended : (d : ℕ) (before : List ℕ) (fields : List (List ℕ)) (old new : List ℕ) → 2 ≤ length fields
    → old ≡ before ++ body d fields → new ≡ old ++ 10 ∷ [] → new ≡ before ++ line_text d fields
unfolding is_blank
ended d before fields old new some is n = search (rules, append_assoc, body)

-- there is room for the columns behind one that was written
pub room_for_rest : {C : Type 0} (room : C → ℕ) (columns : List C) (i : ℕ) (e : C) (old new limit : ℕ)
    → i < length columns → new ≤ old + room (get_or columns i e) → old + columns_room room (drop i columns) ≤ limit
    → new + columns_room room (drop (i + 1) columns) ≤ limit
room_for_rest room columns i e old new limit lt grows before =
    grind (arith, ints, at_drop_more (columns_room room) columns i e lt)

-- those of one more column
pub one_column : (f : ColumnKind → List (List ℕ)) (d : ℕ) (before : List ℕ) (first : List (List ℕ))
    (columns : List ColumnKind) (i : ℕ) (e : ColumnKind) (new : List ℕ) → i < length columns
    → new ≡ before ++ body d ((first ++ flat_map f (take i columns)) ++ f (get_or columns i e))
    → new ≡ before ++ body d (first ++ flat_map f (take (i + 1) columns))
one_column f d before first columns i e new lt is =
    cc (is, flat_map_more f first (take i columns) (get_or columns i e), take_more columns i e lt)

-- more fields
pub more_fields_text : (d : ℕ) (fields more : List (List ℕ))
    → fields_text (writing d) (fields ++ more) ≡ fields_text (writing d) fields ++ fields_text (writing d) more
unfolding fields_text
more_fields_text d [] more = refl
more_fields_text d (f ∷ fields) more = search (rules, append_assoc, more_fields_text d fields more)

pub more_fields : (d : ℕ) (before : List ℕ) (fields more : List (List ℕ)) (old new : List ℕ) → 1 ≤ length fields
    → old ≡ before ++ body d fields → new ≡ old ++ fields_text (writing d) more
    → new ≡ before ++ body d (fields ++ more)
more_fields d before fields more old new some is n = search (rules, more_fields_text, append_assoc)

-- a byte is set in a list, and others are written from the place after it: what lies before, the byte, and some of them
pub put_after : (room places : List ℕ) (at d k count : ℕ) → at < length room → count ≤ length places
    → take (at + 1 + count) (put_mid (at + 1) k (set room at d) places) ≡ take at room ++ d ∷ take count places
put_after room places at d k count lt few =
    grind (arith, length-take-le, length-set, take-append-add, take-append-le, take_more_set room at d lt, append_assoc)

-- a digit or a minus sign needs no quotes
plain_byte : (d c : ℕ) → is_delimiter d ≡ true → 45 ≤ c → c < 58 → needs_byte (writing d) c ≡ false
plain_byte d c h low high = grind (arith, nat_tests)

pub plain_decimal : (d : ℕ) → is_delimiter d ≡ true → (n : ℕ) → n < 2 ^ 64
    → needs_quotes (writing d) (decimal n) ≡ false
plain_decimal d h =
    decimal_by_steps (λ n ds. needs_quotes (writing d) ds ≡ false)
    (λ n lt. rw (plain_byte d (48 + n) h (omega arith) (omega arith)) refl)
    (λ n ds ge before. rw (
      list_any-append (needs_byte (writing d)) ds ((48 + n % 10) ∷ []),
      before,
      plain_byte d (48 + n % 10) h (omega arith) (omega arith),
    ) refl)

-- a line that a number begins
pub only_number : (d : ℕ) (before bytes : List ℕ) → is_delimiter d ≡ true → (n : ℕ) → n ≤ 99999999
    → bytes ≡ before ++ decimal n → bytes ≡ before ++ body d (decimal n ∷ [])
only_number d before bytes h n small e = only_field d before (decimal n) bytes (plain_decimal d h n (omega arith)) e

pub number_length : (n : ℕ) → n ≤ 99999999 → length (decimal n) ≤ number_room
number_length n small = length-decimal-le 8 n (omega arith) (omega arith) (omega arith)

-- a number of a day
pub plain_day : (d : ℕ) → is_delimiter d ≡ true → (z : ℤ) → IsDayNumber z
    → needs_quotes (writing d) (signed_decimal z) ≡ false
plain_day d h z r = search (rules, plain_decimal, ints, plain_byte)

-- the bytes of cells need no quotes
plain_cell_byte : (d c : ℕ) → is_delimiter d ≡ true → is_plain c ≡ true → needs_byte (writing d) c ≡ false
plain_cell_byte d c h p = grind (arith, nat_tests)

pub plain_bytes : (d : ℕ) → is_delimiter d ≡ true → (text : List ℕ) → list_all is_plain text ≡ true
    → needs_quotes (writing d) text ≡ false
plain_bytes d h text p =
    let all = AllPass-from_list_all is_plain text p in
    list_any_none (needs_byte (writing d)) text (λ k e lt. plain_cell_byte d _ h (all k e lt))

-- a map of all lists
map_of_all : {X Y Z : Type 0} (f : Y → Z) (g : X → List Y) (xs : List X)
    → map f (flat_map g xs) ≡ flat_map (λ x. map f (g x)) xs
map_of_all f g [] = refl
map_of_all f g (x ∷ xs) = map-append f (g x) (flat_map g xs) ∙ cc (map_of_all f g xs)

-- the texts of an entry none of whose bytes calls for quotes
pub plain_column : (d : ℕ) → is_delimiter d ≡ true → (body : Result Texts Refusal) → has_plain_texts body ≡ true
    → (column : ColumnKind) → needs_quotes (writing d) (text_shown body column) ≡ false
plain_column d h body bare column = search (rules, and_parts, bare_text)

-- what a function gives of the columns of a table: of those of an entry, of which each is one, and of those of a tail
in_kinds : {X : Type 0} (f : Column → X) (notes : Bool) (ts : List Target)
    → map f (columns (laid_out notes ts))
    ≡ flat_map (λ c. map f (kind_columns ts c)) (entry_order notes) ++ flat_map (λ c. map f (kind_columns ts c)) tail_order
in_kinds f notes ts =
    map_of_all f (kind_columns ts) (entry_order notes ++ tail_order)
    ∙ flat_map-append (λ c. map f (kind_columns ts c)) (entry_order notes) tail_order

pub name_columns : (place : ℕ) (ts : List Target)
    → map (λ (c : Column). c.name) (cell_columns place ts) ≡ map target_name ts
name_columns place [] = refl
name_columns place (t ∷ ts) = cc (name_columns (place + 1) ts)

entry_names : (notes : Bool) (ts : List Target) → flat_map (kind_names ts) (entry_order notes) ≡ map kind_name (entry_order notes)
entry_names false ts = refl
entry_names true ts = refl

pub heading_names : (notes : Bool) (ts : List Target)
    → heading notes ts ≡ map kind_name (entry_order notes) ++ flat_map (kind_names ts) tail_order
heading_names notes ts = in_kinds (λ (c : Column). c.name) notes ts ∙ cc (entry_names notes ts)

-- each kind but the cells has one name
pub one_name : (ts : List Target) (kind : ColumnKind) → (kind ≡ Cells → ⊥) → kind_names ts kind ≡ kind_name kind ∷ []
one_name ts Cells other = absurd (other refl)
one_name ts kind other = refl

-- what stands in the columns of a tail does not depend on the entry
cell_fields : (row : TableRow) (place : ℕ) (ts : List Target)
    → map (λ (c : Column). c.field row) (cell_columns place ts)
    ≡ map (λ (c : Column). c.field (row_with row.outcome row.cells)) (cell_columns place ts)
cell_fields row place [] = refl
cell_fields row place (t ∷ ts) = cc (cell_fields row (place + 1) ts)

tail_same : (row : TableRow) (ts : List Target)
    → flat_map (kind_fields ts row) tail_order ≡ tail_texts ts row.outcome row.cells
tail_same row ts = rw (cell_fields row 0 ts) refl

pub tail_alike : (row : TableRow) (ts : List Target)
    → map (λ (c : Column). c.field row) (flat_map (kind_columns ts) tail_order) ≡ tail_texts ts row.outcome row.cells
tail_alike row ts = map_of_all (λ (c : Column). c.field row) (kind_columns ts) tail_order ∙ tail_same row ts

entry_fields : (notes : Bool) (ts : List Target) (row : TableRow)
    → flat_map (kind_fields ts row) (entry_order notes) ≡ map (entry_field row) (entry_order notes)
entry_fields false ts row = refl
entry_fields true ts row = refl

pub fields_in_parts : (notes : Bool) (ts : List Target) (row : TableRow)
    → row_fields notes ts row ≡ map (entry_field row) (entry_order notes) ++ tail_texts ts row.outcome row.cells
fields_in_parts notes ts row =
    in_kinds (λ (c : Column). c.field row) notes ts ∙ cc (entry_fields notes ts row, tail_same row ts)

-- the steps of making a line, and of putting a byte of a quoted field
pub ruleset line_steps = (ended, fields_in_parts, heading_names, length-append, one_column, room_for_rest)

pub ruleset escape_steps = (escaped-double, escaped-other, append_assoc)
