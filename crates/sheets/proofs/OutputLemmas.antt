-- What one reading of a sheet makes.
use Rattle.std.proofs.Common.{◌≡◌, ◌≤◌, ◌<◌, ◌∙◌, ◌++◌, ◌+◌, ◌-◌, ℕ, List, [], ◌∷◌, Some, ap, IsErrAnd}
use Rattle.std.proofs.Common.{arith, drop, false, inl, inr, length, map, nat_lt, refl, replicate, subst, sym, take}
use Rattle.std.proofs.Common.{true, ◌⊎◌, Err, IsOk, Ok, OnOk, Result, slice_get}
use Rattle.sheets.proofs.Common.{AllZip, Fields, record_limit, Dated, as_text, below, AreLines, Produced}
use Rattle.sheets.proofs.Common.{ending_of, first_fault, body_line, top_records, HasNotes, AreRegisterWriters}
use Rattle.sheets.proofs.Common.{HasReadSheet, line_of_entry, AreSheetCounts, all_dates, Finishes, Gathers}
use Rattle.sheets.proofs.Common.{Waits, AreRecordsRead, DateRead, IsDateRead, RecordRead, fields_read}
use Rattle.sheets.proofs.Common.{records_text, widest, DateColumn, SheetChoice, SheetCause, LineWriter}
use Rattle.sheets.proofs.Common.{EntryLine}
use Rattle.std.proofs.lemmas.List.{get_or-append_right, get_or-replicate, get_or_append_left, length-append}
use Rattle.std.proofs.lemmas.List.{length-map, length-replicate, take-append-drop}
use Rattle.std.proofs.lemmas.Bool.Decides.{nat_tests}
use Rattle.std.proofs.lemmas.Option.{gets, slice_get-map, slice_get_cases, slice_get_within}
use Rattle.std.proofs.KnownBytes.{Appends-nil}
use Rattle.register_records.specs.declared.outputs.Output as outputs
use Rattle.sheets.specs.Choices.{register_record}
use Rattle.sheets.specs.DateEnds.{IsDated, one_end}
use Rattle.sheets.specs.Converted.{AreFirstRows, AreRowsFrom, body_records, sheet_records}
use Rattle.sheets.specs.SheetOutputs.{AreMadeRegisters, IsMadeRegister, IsMadeSheet, OfColumn, registers_by}
use Rattle.sheets.specs.SheetOutputs.{sheet_ending}
use Rattle.sheets.specs.Produced.{Ending, cut, lost, untouched, whole}
use Rattle.sheets.specs.private.Produced.{Agrees}
use Rattle.sheets.specs.private.RecordLines.{entry_at, entry_line, if_dated}
use Rattle.sheets.specs.Registers.{AreEntries, AreFirstEntries, IsEntry, register_head}
use Rattle.sheets.specs.private.SheetReadings.{entry_maker, sheet_end}
use Rattle.sheets.specs.UnknownNames.{AreUnread}
use Rattle.sheets.specs.private.LineWriters.{FinishesEach, GathersEach}
use Rattle.sheets.specs.private.SheetRecords.{rows_read}
use Rattle.sheets.specs.declared.choices.End.{End}
use Rattle.sheets.specs.declared.choices.End.TheVariants as ends
use Rattle.sheets.specs.declared.choices.Spans.{Spans}
use Rattle.sheets.specs.declared.choices.Spans.TheVariants as spans
use Rattle.sheets.specs.declared.sheet_ends.SheetCause.TheVariants as cause
use Rattle.sheets.specs.declared.sheet_ends.SheetEnd.{SheetEnd}
use Rattle.sheets.specs.declared.sheet_ends.SheetEnd.TheVariants as end
use Rattle.sheets.specs.declared.sheet_notes.SheetNotes.{SheetNotes}
use Rattle.std.proofs.lemmas.Slice.Zip.{AllZip-long}
use Rattle.sheets.proofs.EachLemmas.{found_at}
use Rattle.sheets.proofs.NoteLemmas.{zip_place}
use Rattle.sheets.proofs.CountLemmas.{one_found}
use Rattle.sheets.proofs.LineWriterLemmas.{holds_waiting}
use Rattle.sheets.proofs.RowLemmas.{body_front, sheet_made}

-- what is said of the bytes may be said otherwise
pub produced_as : {W : Type 0} (o : outputs.Ghosts W) (given written : W) (ending : Ending) (P Q : List ℕ → Type 0)
    → ((bytes : List ℕ) → P bytes → Q bytes) → Produced o given written ending P → Produced o given written ending Q
produced_as o given written untouched P Q f h = (h.0, f [] h.1)
produced_as o given written whole P Q f h = ((h.0.0, f h.0.0 h.0.1, h.0.2), h.1, h.2, h.3)
produced_as o given written cut P Q f h = ((h.0.0, f h.0.0 h.0.1, h.0.2), h.1, h.2)
produced_as o given written lost P Q f h = h

-- what the columns have of a record, and of all
rows_of_record : (choice : SheetChoice) (number : ℕ) (fields : Fields) (columns : List DateColumn)
    (dates : List DateRead) → AllZip (IsDateRead choice number fields) columns dates
    → AllZip (IsDated choice number fields) columns (map (λ (date : DateRead). date.dated) dates)
rows_of_record choice number fields [] [] h = tt
rows_of_record choice number fields (column ∷ columns) (date ∷ dates) h =
    (h.0.dated, rows_of_record choice number fields columns dates h.1)
rows_of_record choice number fields columns dates h = absurd h

rows_from : (choice : SheetChoice) (k : ℕ) (reads : List RecordRead) → AreRecordsRead choice k reads
    → AreRowsFrom choice k (fields_read reads) (map rows_read reads)
rows_from choice k [] h = tt
rows_from choice k (read ∷ reads) h = (
  subst (λ (n : ℕ). AllZip (IsDated choice n read.fields) choice.dates.now (rows_read read)) h.0
      (rows_of_record choice read.number read.fields choice.dates.now read.dates h.1),
  rows_from choice (k + 1) reads h.2,
)

-- their lines
body_lines : (choice : SheetChoice) (width : ℕ) (reads : List RecordRead)
    → map (body_line width choice) reads ≡ body_records width choice (fields_read reads) (map rows_read reads)
body_lines choice width [] = refl
body_lines choice width (read ∷ reads) = ap (λ rest. body_line width choice read ∷ rest) (body_lines choice width reads)

reads_first : (records : List Fields) (reads : List RecordRead) → fields_read reads ≡ take (length reads) records
    → records ≡ fields_read reads ++ drop (length reads) records
reads_first records reads e =
    sym (take-append-drop (length reads) records) ∙ ap (λ xs. xs ++ drop (length reads) records) (sym e)

length_fields : (reads : List RecordRead) → length (fields_read reads) ≡ length reads
length_fields reads = length-map reads (λ (read : RecordRead). read.fields)

ok_read : (result : Result (Unit {0}) SheetCause) {P : Type 0} → IsOk result → OnOk result P → P
ok_read (Ok v) is h = h
ok_read (Err c) is h = absurd (cc)

-- the entry of a column of dates
date_at : (choice : SheetChoice) (number : ℕ) (fields : Fields) (columns : List DateColumn) (dates : List DateRead)
    (place : ℕ) (column : DateColumn) → AllZip (IsDateRead choice number fields) columns dates
    → slice_get columns place ≡ Some column
    → (date : DateRead) × (slice_get dates place ≡ Some date) × IsDateRead choice number fields column date
date_at choice number fields columns dates place column h there =
    let (date, at) = found_at dates place
    (omega (arith, slice_get_within columns place column there, AllZip-long _ columns dates h)) in
    (date, at, zip_place (IsDateRead choice number fields) columns dates place column date h there at)

entry_is : (choice : SheetChoice) (place : ℕ) (column : DateColumn) (end : End) (k : ℕ) (read : RecordRead)
    (date : DateRead) → read.number ≡ k + 1 → slice_get read.dates place ≡ Some date
    → IsDateRead choice read.number read.fields column date
    → IsEntry choice column end (k + 1) read.fields (entry_line place end choice read)
entry_is choice place column end k read date numbered there is =
    let one = one_end end (as_text date.dated.first) (as_text date.dated.last) in
    record {
      first = as_text date.dated.first;
      last = as_text date.dated.last;
      marks = date.dated.marks;
      ends = is.dated.ends;
      is = ap (if_dated choice read end) there
          ∙ ap (λ (calendar : List ℕ). entry_at choice read calendar one) is.calendar
          ∙ ap (λ (n : ℕ). register_record choice column n read.fields one) numbered;
    }

entries_are : (choice : SheetChoice) (place : ℕ) (column : DateColumn) (end : End)
    → slice_get choice.dates.now place ≡ Some column → (k : ℕ) (reads : List RecordRead) → AreRecordsRead choice k reads
    → AreEntries choice column end k (fields_read reads) (map (entry_line place end choice) reads)
entries_are choice place column end there k [] h = tt
entries_are choice place column end there k (read ∷ reads) h =
    let (date, at, is) = date_at choice read.number read.fields choice.dates.now read.dates place column h.1 there in
    (entry_is choice place column end k read date h.0 at is, entries_are choice place column end there (k + 1) reads h.2)

same_ending : (answer : Result (Unit {0}) SheetCause) (notes : SheetNotes)
    → sheet_ending (sheet_end answer notes) ≡ ending_of answer
same_ending (Ok v) notes = refl
same_ending (Err c) notes = refl

module _ (choice : SheetChoice) (records : List Fields) (reads : List RecordRead) (named : choice.above < length
    records)
    (result : Result (Unit {0}) SheetCause) (read : HasReadSheet choice (below choice records) reads result) where
  abbrev rows : List (List Dated)
  rows = map rows_read reads

  first_rows : AreFirstRows choice records rows
  first_rows =
      record {
        has_names = named;
        converted = subst (λ (xs : List Fields). AreRowsFrom choice 0 xs rows)
            (read.first ∙ ap (λ n. take n (below choice records)) (sym (length-map reads rows_read)))
            (rows_from choice 0 reads read.read);
        limited = subst (λ (n : ℕ). n ≤ record_limit) (sym (length-map reads rows_read)) read.few;
      }

  all_read : IsOk result → fields_read reads ≡ below choice records
  all_read is = ok_read result is read.all

  many_read : result ≡ Err cause.TooManyRecords
      → (length reads ≡ record_limit) × (record_limit < length (below choice records))
  many_read e = (rw e at read.many) refl

  pub made_of_sheet : (width : ℕ) → width ≡ widest (drop choice.above records)
      → top_records choice width records ++ map (body_line width choice) reads ≡ sheet_records choice records rows
  made_of_sheet width wide =
      ap (λ xs. top_records choice width records ++ xs) (body_lines choice width reads
      ∙ sym (body_front width choice (fields_read reads) (drop (length reads) (below choice records)) rows
      (length_fields reads ∙ sym (length-map reads rows_read))) ∙ ap (λ xs. body_records width choice xs rows)
      (sym (reads_first (below choice records) reads read.first))) ∙ sheet_made choice records width rows wide

  -- the bytes of these lines are what is to be made of the sheet
  pub sheet_bytes : (width : ℕ) → width ≡ widest (drop choice.above records) → (notes : SheetNotes) (most : ℕ)
      → HasNotes choice reads most notes → (answer : Result (Unit {0}) SheetCause) → Agrees result answer → (bytes :
      List ℕ)
      → AreLines choice.delimiter (top_records choice width records ++ map (body_line width choice) reads) answer bytes
      → IsMadeSheet choice records (sheet_end answer notes) bytes
  sheet_bytes width wide notes most noted (Ok v) agrees bytes is =
      let all = all_read agrees.all in (
        record {
          rows = rows;
          first = first_rows;
          all = length-map reads rows_read ∙ sym (length_fields reads) ∙ ap length all;
          counted = noted.records ∙ sym (length-map reads rows_read);
          dates_counted = subst (λ (xs : List Fields). AreSheetCounts choice.dates.now xs rows notes.counts) all
              noted.counts;
          written = is ∙ ap (records_text choice.delimiter) (made_of_sheet width wide);
        },
        subst (λ (xs : List Fields). AreUnread choice (all_dates choice xs) notes.found.unread) all
            (record { stops = noted.found.stops; are_stops = noted.found.are_stops; counts = noted.found.counts }),
      )
  sheet_bytes width wide notes most noted (Err cause.NoMemory) agrees bytes is =
      inr (record {
        rows = rows;
        count = is.0;
        first = first_rows;
        written = is.1 ∙ ap (λ xs. records_text choice.delimiter (take is.0 xs)) (made_of_sheet width wide);
      })
  sheet_bytes width wide notes most noted (Err cause.TooManyRecords) agrees bytes is =
      let full = many_read (agrees.many refl) in
      record {
        rows = rows;
        first = first_rows;
        full = length-map reads rows_read ∙ full.0;
        more = full.1;
        written = is ∙ ap (records_text choice.delimiter) (made_of_sheet width wide);
      }
  sheet_bytes width wide notes most noted (Err cause.NoNames) agrees bytes is = absurd (agrees.named refl)
  sheet_bytes width wide notes most noted (Err cause.SinkFault) agrees bytes is = tt

  -- and of a register of a column
  module _ (place : ℕ) (column : DateColumn) (end : End) (there : slice_get choice.dates.now place ≡ Some column) where
    abbrev entries : List Fields
    entries = map (entry_line place end choice) reads

    as_many : length entries ≡ length reads
    as_many = length-map reads (entry_line place end choice)

    first_entries : AreFirstEntries choice column end records entries
    first_entries =
        record {
          has_names = named;
          are = subst (λ (xs : List Fields). AreEntries choice column end 0 xs entries)
              (read.first ∙ ap (λ n. take n (below choice records)) (sym as_many))
              (entries_are choice place column end there 0 reads read.read);
          limited = subst (λ (n : ℕ). n ≤ record_limit) (sym as_many) read.few;
        }

    pub register_bytes : (answer : Result (Unit {0}) SheetCause) → Agrees result answer → (bytes : List ℕ)
        → AreLines choice.delimiter (register_head ∷ entries) answer bytes
        → IsMadeRegister choice (column, end) records answer bytes
    register_bytes (Ok v) agrees bytes is = (
      length reads,
      record {
        entries = entries;
        first = first_entries;
        all = as_many ∙ sym (length_fields reads) ∙ ap length (all_read agrees.all);
        counted = sym as_many;
        written = is;
      },
    )
    register_bytes (Err cause.NoMemory) agrees bytes is =
        inr (record { entries = entries; count = is.0; first = first_entries; written = is.1 })
    register_bytes (Err cause.TooManyRecords) agrees bytes is =
        let full = many_read (agrees.many refl) in
        record { entries = entries; first = first_entries; full = as_many ∙ full.0; more = full.1; written = is }
    register_bytes (Err cause.NoNames) agrees bytes is = absurd (agrees.named refl)
    register_bytes (Err cause.SinkFault) agrees bytes is = tt

  -- what the output of the sheet has come to
  pub sheet_produced : {W : Type 0} (o : outputs.Ghosts W) (given written : W) (width : ℕ)
      → width ≡ widest (drop choice.above records) → (notes : SheetNotes) (most : ℕ) → HasNotes choice reads most notes
      → (answer : Result (Unit {0}) SheetCause) → Agrees result answer → Produced o given written (ending_of answer)
      (AreLines choice.delimiter (top_records choice width records ++ map (body_line width choice) reads) answer)
      → (end : SheetEnd) → end ≡ sheet_end answer notes
      → Produced o given written (sheet_ending end) (IsMadeSheet choice records end)
  sheet_produced o given written width wide notes most noted answer agrees produced end is =
      subst (λ (x : SheetEnd). Produced o given written (sheet_ending x) (IsMadeSheet choice records x)) (sym is)
      (subst (λ (x : Ending). Produced o given written x (IsMadeSheet choice records (sheet_end answer notes)))
      (sym (same_ending answer notes)) (produced_as o given written (ending_of answer) _ _
      (λ bytes made. sheet_bytes width wide notes most noted answer agrees bytes made) produced))

-- what the output of one register has come to
pub register_produced : {W : Type 0} (o : outputs.Ghosts W) (choice : SheetChoice) (records : List Fields)
    (result answer : Result (Unit {0}) SheetCause) (first last : LineWriter EntryLine) (of : OfColumn)
    (given mid written : W) (reads : List RecordRead) → choice.above < length records
    → HasReadSheet choice (below choice records) reads result
    → slice_get choice.dates.now first.maker.place ≡ Some of.0 → first.maker.end ≡ of.1
    → Waits choice.delimiter (register_head ∷ []) first
    → Gathers o line_of_entry choice reads first last given mid → Finishes o result last mid written answer
    → Produced o given written (ending_of answer) (IsMadeRegister choice of records answer)
register_produced o choice records result answer first last of given mid written reads named read there ended waits
    gathers
    finish =
    let holds = gathers.holds given (register_head ∷ []) (holds_waiting o given first choice.delimiter _ waits) in
    let (produced, agrees) = finish given _ holds in
    produced_as o given written (ending_of answer) _ _ (λ bytes made.
    subst (λ (end : End). IsMadeRegister choice (of.0, end) records answer bytes) ended
    (register_bytes choice records reads named result read first.maker.place of.0 first.maker.end there answer agrees
    bytes
    (subst (λ (d : ℕ). AreLines d (register_head ∷ map (entry_line first.maker.place first.maker.end choice) reads)
    answer bytes) (gathers.delimiter ∙ waits.by) made))) produced

-- the register at a place is that of the maker there
at_map : {X Y : Type 0} (f : X → Y) (xs : List X) (place : ℕ) (y : Y) → slice_get (map f xs) place ≡ Some y
    → (x : X) × (slice_get xs place ≡ Some x) × (f x ≡ y)
at_map f xs place y e = grind (arith, slice_get-map f xs place, slice_get_cases xs place)

at_append : {X : Type 0} (xs ys : List X) (place : ℕ) (x : X) → slice_get (xs ++ ys) place ≡ Some x
    → ((place < length xs) × (slice_get xs place ≡ Some x))
    ⊎ ((length xs ≤ place) × (slice_get ys (place - length xs) ≡ Some x))
at_append xs ys place x e = grind (arith, gets, get_or_append_left, get_or-append_right, length-append)

first_made : (columns place : ℕ) → place < columns
    → entry_maker columns place ≡ record { place = place; end = ends.First }
first_made columns place low = let test : nat_lt place columns ≡ true = grind (arith, nat_tests) in rw test refl

last_made : (columns place : ℕ) → columns ≤ place
    → entry_maker columns place ≡ record { place = place - columns; end = ends.Last }
last_made columns place low = let test : nat_lt place columns ≡ false = grind (arith, nat_tests) in rw test refl

abbrev IsMakerOf : List DateColumn → EntryLine → OfColumn → Type 0
IsMakerOf columns maker of = (slice_get columns maker.place ≡ Some of.0) × (maker.end ≡ of.1)

of_column : (columns : List DateColumn) (place : ℕ) (end : End) (of : OfColumn)
    → slice_get (map (λ (column : DateColumn). (column, end)) columns) place ≡ Some of
    → IsMakerOf columns (record { place = place; end = end }) of
of_column columns place end of e =
    let (column, there, same) = at_map (λ (column : DateColumn). (column, end)) columns place of e in
    (there ∙ ap (λ (o : OfColumn). Some o.0) same, ap (λ (o : OfColumn). o.1) same)

of_first : (columns : List DateColumn) (place : ℕ) (of : OfColumn)
    → slice_get (map (λ (column : DateColumn). (column, ends.First)) columns) place ≡ Some of
    → IsMakerOf columns (entry_maker (length columns) place) of
of_first columns place of e =
    let f : DateColumn → OfColumn = λ column. (column, ends.First) in
    let low : place < length columns
    = omega (arith, slice_get_within (map f columns) place of e, length-map columns f) in
    subst (λ (maker : EntryLine). IsMakerOf columns maker of)
    (sym (first_made (length columns) place low)) (of_column columns place ends.First of e)

of_both : (columns : List DateColumn) (place : ℕ) (of : OfColumn)
    → slice_get (map (λ (column : DateColumn). (column, ends.First)) columns
    ++ map (λ (column : DateColumn). (column, ends.Last)) columns) place ≡ Some of
    → IsMakerOf columns (entry_maker (length columns) place) of
of_both columns place of e =
    let f : DateColumn → OfColumn = λ column. (column, ends.First) in
    let firsts : List OfColumn = map f columns in
    let many : length firsts ≡ length columns = length-map columns f in
    elim (at_append firsts (map (λ (column : DateColumn). (column, ends.Last)) columns) place of e) [
      | inl found ↦ of_first columns place of found.1
      | inr found ↦
          subst (λ (maker : EntryLine). IsMakerOf columns maker of)
          (sym (last_made (length columns) place (omega (arith, found.0, many))))
          (of_column columns (place - length columns) ends.Last of
          (ap (λ (n : ℕ). slice_get (map (λ (column : DateColumn). (column, ends.Last)) columns) (place - n)) (sym many)
          ∙ found.1))
    ]

maker_of : (kind : Spans) (columns : List DateColumn) (place : ℕ) (of : OfColumn)
    → slice_get (registers_by kind columns) place ≡ Some of → IsMakerOf columns (entry_maker (length columns) place) of
maker_of spans.Unread columns place of e = of_first columns place of e
maker_of spans.Ends columns place of e = of_both columns place of e
maker_of spans.EndsAndEdtf columns place of e = of_both columns place of e

-- and those of the registers beside a sheet
pub registers_produced : {W : Type 0} (o : outputs.Ghosts W) (choice : SheetChoice) (records : List Fields)
    (result first : Result (Unit {0}) SheetCause) (start middle last : List (LineWriter EntryLine))
    (given mid written : List W) (reads : List RecordRead) (answers : List (Result (Unit {0}) SheetCause))
    → choice.above < length records → HasReadSheet choice (below choice records) reads result
    → AreRegisterWriters choice.delimiter (length choice.dates.now) (length given) start
    → GathersEach o line_of_entry choice reads start middle given mid → length answers ≡ length middle
    → first ≡ first_fault answers → FinishesEach o result answers middle last mid written
    → AreMadeRegisters o choice records first given written
registers_produced o choice records result first start middle last given mid written reads answers named read started
    gathered many is finished =
    record {
      answers = answers;
      answered = many ∙ gathered.writers ∙ started.counted;
      files = finished.files ∙ gathered.files;
      first = is;
      each = λ place of answer g w there at here came.
          let low = slice_get_within given place g here in
          let (w0, at0) = found_at start place (omega (arith, low, started.counted)) in
          let (w1, at1) = found_at middle place (omega (arith, low, started.counted, gathered.writers)) in
          let (m, at2) = found_at mid place (omega (arith, low, gathered.files)) in
          let (w2, at3) = found_at last place (omega (arith, low, started.counted, gathered.writers, finished.writers))
          in
          let (found, of_place, finish) = finished.each place w1 w2 m w at1 at3 at2 came in
          let same : found ≡ answer = one_found (slice_get answers place) found answer of_place at in
          let (made, waits) = started.each place w0 at0 in
          let maker = subst (λ (maker : EntryLine). IsMakerOf choice.dates.now maker of) (sym made)
          (maker_of choice.spans choice.dates.now place of there) in
          subst (λ (x : Result (Unit {0}) SheetCause). Produced o g w (ending_of x) (IsMadeRegister choice of records x))
          same (register_produced o choice records result found w0 w1 of g m w reads named read maker.0 maker.1 waits
          (gathered.each place w0 w1 g m at0 at1 here at2) finish);
    }

-- nothing was read, since memory ran out
pub none_read : (choice : SheetChoice) (records : List Fields) (result : Result (Unit {0}) SheetCause)
    → IsErrAnd result (λ c. c ≡ cause.NoMemory) → HasReadSheet choice records [] result
none_read choice records (Ok v) is = absurd is
none_read choice records (Err c) is =
    record {
      read = tt;
      first = refl;
      few = omega arith;
      all = tt;
      many = λ many. absurd (cc (is, many));
      causes = inl is;
    }

-- nothing was made, for a cause that says so
in_replica : {X : Type 0} (x y : X) (n place : ℕ) → slice_get (replicate n x) place ≡ Some y → x ≡ y
in_replica x y n place e = grind (arith, gets, get_or-replicate, length-replicate)

-- as for want of memory, or of names
pub register_none : {W : Type 0} (o : outputs.Ghosts W) (choice : SheetChoice) (records : List Fields) (g : W)
    (of : OfColumn) (c : SheetCause) → (c ≡ cause.NoMemory) ⊎ ((c ≡ cause.NoNames) × (length records ≤ choice.above))
    → Produced o g g (ending_of {A = Unit {0}} (Err c)) (IsMadeRegister {A = Unit {0}} choice of records (Err c))
register_none o choice records g of c why =
    let Holds : SheetCause → Type 0
    = λ x. Produced o g g (ending_of {A = Unit {0}} (Err x)) (IsMadeRegister {A = Unit {0}} choice of records (Err
    x)) in
    elim why [
      | inl is ↦ subst Holds (sym is) (([], inl refl, Appends-nil _), refl, refl)
      | inr is ↦ subst Holds (sym is.0) (refl, (refl, is.1))
    ]

pub sheet_none : {W : Type 0} (o : outputs.Ghosts W) (choice : SheetChoice) (records : List Fields) (g : W) (c :
    SheetCause) → (c ≡ cause.NoMemory) ⊎ ((c ≡ cause.NoNames) × (length records ≤ choice.above)) → (done : SheetEnd)
    → done ≡ end.Broken c → Produced o g g (sheet_ending done) (IsMadeSheet choice records done)
sheet_none o choice records g c why done e =
    let Holds : SheetCause → Type 0
    = λ x. Produced o g g (sheet_ending (end.Broken x)) (IsMadeSheet choice records (end.Broken x)) in
    subst (λ (x : SheetEnd). Produced o g g (sheet_ending x) (IsMadeSheet choice records x)) (sym e)
    (elim why [
      | inl is ↦ subst Holds (sym is) (([], inl refl, Appends-nil _), refl, refl)
      | inr is ↦ subst Holds (sym is.0) (refl, (refl, is.1))
    ])

pub nothing_made : {W : Type 0} (o : outputs.Ghosts W) (choice : SheetChoice) (records : List Fields) (c : SheetCause)
    (given : List W) → (c ≡ cause.NoMemory) ⊎ ((c ≡ cause.NoNames) × (length records ≤ choice.above))
    → (result : Result (Unit {0}) SheetCause) → result ≡ first_fault (replicate (length given) (Err c))
    → AreMadeRegisters o choice records result given given
nothing_made {W} o choice records c given why result is =
    record {
      answers = replicate (length given) (Err c);
      answered = length-replicate (length given) (Err c);
      files = refl;
      first = is;
      each = λ place of answer g w there at here came.
          let same : g ≡ w = one_found (slice_get given place) g w here came in
          subst
          (λ (x : Result (Unit {0}) SheetCause). Produced o g w (ending_of x) (IsMadeRegister choice of records x))
          (in_replica (Err c) answer (length given) place at)
          (subst (λ (x : W). Produced o g x (ending_of {A = Unit {0}} (Err c))
          (IsMadeRegister {A = Unit {0}} choice of records (Err c))) same (register_none o choice records g of c why));
    }
