-- The sheet that comes back.
use Rattle.std.specs.Prelude.{◌≡◌, ◌⊎◌, ◌+◌, ◌++◌, ◌<◌, ◌≤◌, ⊤, ℕ, codes, List, [], ◌∷◌}
use Rattle.std.specs.Prelude.{drop, get_or, length, map, take}
use Rattle.std.specs.List.{AllZip, find, flat_map}
use Rattle.std.specs.Option.{option_map_or}
use Rattle.std.specs.Str.{bytes_eq}
use Rattle.register_records.specs.Columns.{Column, kind_columns, tail_order}
use Rattle.register_records.specs.Entries.{Fields, record_limit, text_records}
use Rattle.register_records.specs.Outcomes.{TableRow}
use Rattle.sheets.specs.ChurchNames.{church_shown}
use Rattle.sheets.specs.DateEnds.{Dated, IsDated, mark_text, told}
use Rattle.sheets.specs.DateCounts.{AreSheetCounts}
use Rattle.sheets.specs.Sheets.{filled, records_text, widest}
use Rattle.sheets.specs.declared.choices.AskedColumn.{AskedColumn}
use Rattle.sheets.specs.declared.choices.AskedColumn.TheVariants.{Cells, Church, DayNumber, Weekday}
use Rattle.sheets.specs.declared.choices.SheetChoice.{SheetChoice}
use Rattle.sheets.specs.declared.choices.Spans.{Spans}
use Rattle.sheets.specs.declared.choices.Spans.TheVariants as spans
use Rattle.sheets.specs.declared.date_counts.SheetCounts.{SheetCounts}

-- what a table without targets shows of a row in the column of this name
abbrev pub shown_in : List ℕ → TableRow → List ℕ
shown_in name row =
    option_map_or (λ (c : Column). c.field row)
    (find (λ (c : Column). bytes_eq c.name name) (flat_map (kind_columns []) tail_order)) []

-- what stands in a column asked of a row of which these cells are left, and how many of them it takes
abbrev pub asked_text : AskedColumn → TableRow → List (List ℕ) → List ℕ
asked_text DayNumber row cells = shown_in (codes "rd") row
asked_text Weekday row cells = shown_in (codes "weekday") row
asked_text Church row cells = church_shown row
asked_text (Cells target) row cells = get_or cells 0 []

abbrev pub cells_taken : AskedColumn → ℕ
cells_taken (Cells target) = 1
cells_taken column = 0

-- what stands in those columns
abbrev pub asked_texts : List AskedColumn → TableRow → List (List ℕ) → Fields
asked_texts [] row cells = []
asked_texts (column ∷ columns) row cells =
    asked_text column row cells ∷ asked_texts columns row (drop (cells_taken column) cells)

abbrev pub asked_cells : List AskedColumn → TableRow → Fields
asked_cells columns row = asked_texts columns row row.cells

-- and behind them the refusal
abbrev pub asked_fields : List AskedColumn → TableRow → Fields
asked_fields columns row = asked_cells columns row ++ shown_in (codes "refusal") row ∷ []

-- what comes behind a record for a column of dates: the columns asked of its day and the refusal; with spans, those of its
-- first day, those of its last day, the text of EDTF where it is asked, the mark, and the refusal
abbrev pub fields_by : Spans → List AskedColumn → Dated → Fields
fields_by spans.Unread columns dated = asked_fields columns dated.first.row
fields_by spans.Ends columns dated =
    asked_cells columns dated.first.row ++ asked_cells columns dated.last.row
    ++ mark_text dated.marks ∷ shown_in (codes "refusal") (told dated) ∷ []
fields_by spans.EndsAndEdtf columns dated =
    asked_cells columns dated.first.row ++ asked_cells columns dated.last.row
    ++ dated.edtf ∷ mark_text dated.marks ∷ shown_in (codes "refusal") (told dated) ∷ []

abbrev pub dated_fields : SheetChoice → Dated → Fields
dated_fields choice dated = fields_by choice.spans choice.columns.now dated

-- what each column of dates has of the record with this number
abbrev pub AreRowsOfRecord : SheetChoice → ℕ → Fields → List Dated → Type 0
AreRowsOfRecord choice number fields rows = AllZip (IsDated choice number fields) choice.dates.now rows

-- those of each of these records, the first of which has the number after k
abbrev pub AreRowsFrom : SheetChoice → ℕ → List Fields → List (List Dated) → Type 0
AreRowsFrom choice k [] [] = ⊤
AreRowsFrom choice k (fields ∷ records) (rows ∷ others) =
    AreRowsOfRecord choice (k + 1) fields rows × AreRowsFrom choice (k + 1) records others
AreRowsFrom choice k records others = ⊥

-- the records of a sheet by a choice
abbrev pub records_by : SheetChoice → List ℕ → List Fields
records_by choice sheet = text_records choice.delimiter sheet

-- of the records of a sheet, those below the names
abbrev pub below : SheetChoice → List Fields → List Fields
below choice records = drop (choice.above + 1) records

-- the most fields of the names and of the records below them
abbrev pub sheet_width : SheetChoice → List Fields → ℕ
sheet_width choice records = widest (drop choice.above records)

-- the names, and behind them those of the columns asked
abbrev pub head_record : SheetChoice → List Fields → Fields
head_record choice records =
    filled (sheet_width choice records) (get_or records choice.above []) ++ map (λ name. name.now) choice.headings.now

-- a record, and behind it what comes for its dates
abbrev pub body_record : ℕ → SheetChoice → Fields → List Dated → Fields
body_record width choice fields rows = filled width fields ++ flat_map (dated_fields choice) rows

-- each of these records, as far as there are rows
abbrev pub body_records : ℕ → SheetChoice → List Fields → List (List Dated) → List Fields
body_records width choice [] others = []
body_records width choice (fields ∷ records) [] = []
body_records width choice (fields ∷ records) (rows ∷ others) =
    body_record width choice fields rows ∷ body_records width choice records others

-- the records of the sheet that comes back, by the rows of the records below the names
abbrev pub sheet_records : SheetChoice → List Fields → List (List Dated) → List Fields
sheet_records choice records rows =
    take choice.above records ++ head_record choice records
    ∷ body_records (sheet_width choice records) choice (below choice records) rows

-- these are the rows of the first records below the names, so many
pub record AreFirstRows (choice : SheetChoice) (records : List Fields) (rows : List (List Dated)) : Type 0 where
  pub has_names : choice.above < length records
  pub converted : AreRowsFrom choice 0 (take (length rows) (below choice records)) rows
  pub limited : length rows ≤ record_limit

-- these bytes are the sheet with the columns asked, with so many records below the names, of whose dates so many were
-- refused or are empty
pub record IsWholeSheet (choice : SheetChoice) (records : List Fields) (count : ℕ) (counts : SheetCounts)
    (bytes : List ℕ) : Type 0 where
  pub rows : List (List Dated)
  pub first : AreFirstRows choice records rows
  pub all : length rows ≡ length (below choice records)
  pub counted : count ≡ length rows
  pub dates_counted : AreSheetCounts choice.dates.now (below choice records) rows counts
  pub written : bytes ≡ records_text choice.delimiter (sheet_records choice records rows)

-- these bytes are its first records, which may be none
pub record IsFrontOfSheet (choice : SheetChoice) (records : List Fields) (bytes : List ℕ) : Type 0 where
  pub rows : List (List Dated)
  pub count : ℕ
  pub first : AreFirstRows choice records rows
  pub written : bytes ≡ records_text choice.delimiter (take count (sheet_records choice records rows))

-- these bytes are none, or the first records
abbrev pub ArePartOfSheet : SheetChoice → List Fields → List ℕ → Type 0
ArePartOfSheet choice records bytes = (bytes ≡ []) ⊎ IsFrontOfSheet choice records bytes

-- these bytes are the sheet down to the last record that may be converted, and there are more
pub record IsFullSheet (choice : SheetChoice) (records : List Fields) (bytes : List ℕ) : Type 0 where
  pub rows : List (List Dated)
  pub first : AreFirstRows choice records rows
  pub full : length rows ≡ record_limit
  pub more : record_limit < length (below choice records)
  pub written : bytes ≡ records_text choice.delimiter (sheet_records choice records rows)
