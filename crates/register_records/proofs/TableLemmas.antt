-- What a table in the making holds, what the output of a source has gained, and how writing its table ends.
use Rattle.std.proofs.Common.{◌≡◌, ℕ, ◌+◌, ◌-◌, ◌<◌, ◌≤◌, Bool, true, false, ◌≢◌, ◌⊎◌, List, [], ◌∷◌, ◌++◌, map, length}
use Rattle.std.proofs.Common.{is_some, IfSome, Some, None, Err, Contains, Option, sym, refl, ap, ◌∙◌, subst, inl, inr}
use Rattle.std.proofs.Common.{append_assoc, append-nil, arith, length-append, rules}
use Rattle.register_records.proofs.Common.{Target, entry_fault_cause, AreNumberedFrom, HasAllEntries, HasEntries}
use Rattle.register_records.proofs.Common.{HasFirstEntries, HasTooMany, IsNotSealed, Numbered, Reading, record_limit}
use Rattle.register_records.proofs.Common.{IsRowOf, TableRow, entry_seen, table_text, table_fault, given_of}
use Rattle.register_records.proofs.Common.{reader_failed, reading_of, reads_by, row_seen, row_targets, text_of, Entry}
use Rattle.register_records.proofs.Common.{EntryFault, Row, ∥∥₁_elim, ∥∥₁_map, ∥∥₁_prop, false_from_ne_true, length-map}
use Rattle.register_records.proofs.Common.{map-append, Appends, append_known, AllZip, range_with_len}
use Rattle.std.proofs.lemmas.List.Elements.{Contains-append_right, Contains-push_cases}
use Rattle.register_records.specs.TableStates.{fault_of, lines_waiting, lost_output, is_of_table}
use Rattle.register_records.specs.Tables.{Layout, heading_line, journal_of, lines_text, refusal_notes, row_line}
use Rattle.register_records.specs.TablesWritten.{IsNextRow, HasEnded, Holds, IsSameTable, IsTableSoFar, entries_seen}
use Rattle.register_records.specs.TablesWritten.{has_lost_output, is_headed, made_by, made_for, rows_seen, waiting_of}
use Rattle.register_records.specs.Views.{layout_of, line_of, waiting_in, writes_by}
use Rattle.register_records.specs.declared.tables.TableState.{TableState}
use Rattle.register_records.specs.declared.writing.RowWriter.{RowWriter}
use Rattle.register_records.specs.Sources.{IsFrontOfTable, IsTableOf, IsTableWith, IfBroken, ArePartOfTable, Gains}
use Rattle.register_records.specs.Sources.{IfWhole, IsTableOfAll, IsWholeTable}
use Rattle.std.specs.declared.io.traits.Read.{Ghosts}
use Rattle.register_records.specs.NextEntries.{ReadsNext}
use Rattle.register_records.specs.private.SourceTables.{IsBroken}
use Rattle.register_records.specs.declared.reading.EntryReader.{EntryReader}
use Rattle.register_records.specs.declared.ends.Cause.TheVariants as cause
use Rattle.register_records.specs.declared.ends.SourceEnd.TheVariants as end
use Rattle.register_records.specs.declared.outputs.Output as outputs
use Rattle.register_records.specs.declared.reading.EntryFault.TheVariants as entry
use Rattle.register_records.specs.declared.ends.Cause.{Cause}
use Rattle.register_records.specs.declared.ends.SourceEnd.{SourceEnd}
use Rattle.register_records.specs.declared.setups.Setup.{Setup}
use Rattle.register_records.specs.declared.tables.Table.{Table}

lines_last : (layout : Layout) (rows : List TableRow) (row : TableRow)
    → lines_text layout (rows ++ row ∷ []) ≡ lines_text layout rows ++ row_line layout row
unfolding lines_text
lines_last layout [] row = append-nil (row_line layout row)
lines_last layout (x ∷ rows) row = search (rules, append_assoc, lines_last layout rows row)

pub journal_last : (rows : List TableRow) (row : TableRow)
    → journal_of (rows ++ row ∷ []) ≡ journal_of rows ++ refusal_notes row.number row.outcome
unfolding journal_of
journal_last [] row = append-nil (refusal_notes row.number row.outcome)
journal_last (x ∷ rows) row = grind (arith, journal_last rows row)

pub table_last : (layout : Layout) (rows : List TableRow) (row : TableRow)
    → table_text layout (rows ++ row ∷ []) ≡ table_text layout rows ++ row_line layout row
table_last layout rows row = search (rules, lines_last, append_assoc)

no_lines : (layout : Layout) → lines_text layout [] ≡ []
unfolding lines_text
no_lines layout = refl

pub no_notes : journal_of [] ≡ []
unfolding journal_of
no_notes = refl

-- known bytes, and bytes that wait behind them
appends_heading : (given output new : Option (List ℕ)) (pending heading lines : List ℕ) → output ≡ given
    → Appends output new heading → pending ≡ [] → lines ≡ []
    → Appends given (append_known new pending) (heading ++ lines)
appends_heading given output new pending heading lines e h p l = grind (arith, append-nil)

appends_more : (given output : Option (List ℕ)) (pending line table : List ℕ)
    → Appends given (append_known output pending) table
    → Appends given (append_known output (pending ++ line)) (table ++ line)
appends_more given output pending line table h = grind (arith, append_assoc)

-- no heading was written
pub stands_none : {W : Type 0} (o : outputs.Ghosts W) (layout : Layout) (given output : W) (w : Option RowWriter)
    (rows : List Row) → is_some w ≡ false → IsTableSoFar o layout given output w rows
    → IsTableSoFar o layout given output None rows
stands_none o layout given output w rows e h = search rules

module _ {W : Type 0} (o : outputs.Ghosts W) (layout : Layout) (given : W) where
  -- the heading was written
  pub stands_headed : (output new : W) (w : RowWriter) (rows : List Row) → IsTableSoFar o layout given output None rows
      → Appends (o.contents output) (o.contents new) (heading_line layout)
      → o.is_flushed new ≡ true → writes_by w ≡ layout.writing → waiting_in w ≡ []
      → IsTableSoFar o layout given new (Some w) rows
  stands_headed output new w rows h wrote flushed by none = search (rules, no_lines, appends_heading)

  -- a line waits behind the others
  pub stands_more : (output : W) (w new : RowWriter) (rows : List Row) (row : Row)
      → IsTableSoFar o layout given output (Some w) rows → waiting_in new ≡ waiting_in w ++ line_of w row
      → writes_by new ≡ writes_by w → row_targets row ≡ layout.targets
      → IsTableSoFar o layout given output (Some new) (rows ++ row ∷ [])
  stands_more output w new rows row h more by targets = search (rules, table_last, map-append, appends_more)

-- one more at the end
pub numbered_more : (k : ℕ) (entries : List Numbered) (entry : Numbered) → AreNumberedFrom k entries
    → entry.number ≡ k + length entries → AreNumberedFrom k (entries ++ entry ∷ [])
numbered_more k [] entry h e = (omega (arith, e), tt)
numbered_more k (first ∷ rest) entry h e = (h.0, numbered_more (k + 1) rest entry h.1 (omega (arith, e)))

pub targets_row : (P : Row → Type 0) (rows : List Row) (row : Row) → ((r : Row) → Contains rows r → P r) → P row
    → (r : Row) → Contains (rows ++ row ∷ []) r → P r
targets_row P rows row all here r h =
    elim (Contains-push_cases rows row r h) [ inl a ↦ all r a | inr e ↦ subst P e here ]

numbered_row : (rows : List Row) (row : Row) (n : ℕ) → AreNumberedFrom 1 (entries_seen rows) → length rows ≡ n
    → row.entry.number ≡ n + 1 → AreNumberedFrom 1 (entries_seen (rows ++ row ∷ []))
numbered_row rows row n h count number =
    let len : length (entries_seen rows) ≡ length rows = length-map rows (λ (r : Row). entry_seen r.entry) in
    rw map-append (numbered_more 1 (entries_seen rows) (entry_seen row.entry) h (omega (arith, len, count, number)))

-- where the line and the note of the next row were added, a table holds this one too
pub holds_more : {W : Type 0} (o : outputs.Ghosts W) (old new : Table W) (output : W) (w more : RowWriter)
    (rows : List Row) (row : Row) → Holds o old output rows → IsNextRow old row
    → old.writer ≡ Some w → new.writer ≡ Some more → new.state ≡ old.state → IsSameTable old new
    → waiting_in more ≡ waiting_in w ++ line_of w row → writes_by more ≡ writes_by w
    → new.journal.items ≡ old.journal.items ++ refusal_notes (row_seen row).number (row_seen row).outcome
    → new.rows ≡ old.rows + 1 → Holds o new output (rows ++ row ∷ [])
holds_more o old new output w more rows row h next is now state same line by notes counted =
    let stands = λ (good : has_lost_output old ≡ false).
    stands_more o (layout_of old.setup) (made_for old) output w more rows row (rw is at (h.stands good)) line by next.2 in
    let targets = targets_row (λ (r : Row). row_targets r ≡ (layout_of old.setup).targets) rows row h.targets next.2 in
    let noted = journal_last (rows_seen rows) (row_seen row) in
    search (rules, stands, targets, noted, numbered_row, length-append, map-append)

-- rows that were made for these targets are the rows of their entries
rows_are : (targets : List Target) (rows : List Row) → ((row : Row) → Contains rows row → row_targets row ≡ targets)
    → ∥ AllZip (IsRowOf targets) (entries_seen rows) (rows_seen rows) ∥₁
rows_are targets [] all = ∣ tt ∣₁
rows_are targets (row ∷ rest) all =
    ∥∥₁_elim row.is_row ∥∥₁_prop (λ is.
    ∥∥₁_map (rows_are targets rest (λ r c. all r (Contains-append_right (row ∷ []) rest r c)))
    (λ more.
    (subst (λ ts. IsRowOf ts (entry_seen row.entry) (row_seen row)) (all row (0, omega arith, refl)) is, more)))

-- entries that are numbered in order have these numbers
numbers_are : (k : ℕ) (entries : List Numbered) → AreNumberedFrom k entries
    → map (λ (entry : Numbered). entry.number) entries ≡ range_with_len k (length entries)
numbers_are k [] numbered = refl
numbers_are k (entry ∷ entries) numbered = let rest = numbers_are (k + 1) entries numbered.1 in cc (numbered.0, rest)

-- known bytes, where none wait
appends_waited : (given output : Option (List ℕ)) (pending table : List ℕ) → pending ≡ []
    → Appends given (append_known output pending) table → Appends given output table
appends_waited given output pending table e h = grind (arith, append-nil)

appends_nothing : (given output : Option (List ℕ)) → output ≡ given → Appends given output []
appends_nothing given output e = grind (arith, append-nil)

-- the faults of reading that these causes are
pub only_many : (f : EntryFault) (c : Cause) → c ≡ entry_fault_cause f → c ≡ cause.TooManyRecords
    → f ≡ entry.TooManyRecords
only_many f c a is = search rules

pub only_not_sealed : (f : EntryFault) (c : Cause) → c ≡ entry_fault_cause f → c ≡ cause.NotSealed
    → f ≡ entry.NotSealed
only_not_sealed f c a is = search rules

-- what holds of the text and the entries of a reader
pub of_reader : (Is : Reading → Option (List ℕ) → List Numbered → Type 0) (d e : Reading) (text known : Option (List ℕ))
    (entries given : List Numbered) → known ≡ text → e ≡ d → given ≡ entries → ∥ Is e known given ∥₁
    → ∥ Is d text entries ∥₁
of_reader Is d e text known entries given a b c h = rw (a, b, c) at h

-- how a table ended
pub ends_whole : {W : Type 0} (e : SourceEnd) (table : Table W) (reading : Reading) (layout : Layout)
    (text old now : Option (List ℕ))
    → IfWhole e (HasEnded table)
    → ∥ Gains old now (IsWholeTable reading layout text table.rows (length table.journal.items) table.journal.items) ∥₁
    → IfWhole e (λ rows refused journal. ∥ Gains old now (IsWholeTable reading layout text rows refused journal) ∥₁)
ends_whole (end.Whole rows refused journal) table reading layout text old now is h = rw (is.1, is.2, is.3) h
ends_whole (end.Broken c) table reading layout text old now is h = tt

pub ends_so : (e : SourceEnd) (IsSo : Type 0) → IsSo → IfWhole e (λ rows refused journal. IsSo)
ends_so e IsSo is = search rules

-- which faults there are
pub other_cause : (f : Option Cause) (c d : Cause) → f ≡ Some c → (c ≡ d → ⊥) → f ≢ Some d
other_cause f c d e other is = other (cc)

-- a table that goes on has its output
pub faultless : (s : TableState) → fault_of s ≡ None → lost_output s ≡ false
faultless s e = search rules

pub fault_cases : (f : Option Cause) → (f ≡ None) ⊎ (f ≢ None)
fault_cases f = search rules

waited : (s : TableState) (w : RowWriter) → lost_output s ≡ false → lines_waiting s (Some w) ≡ [] → waiting_in w ≡ []
waited s w good sent = search rules

-- a table of which no line waits
module _ {W : Type 0} (o : outputs.Ghosts W) (table : Table W) (output : W) (rows : List Row)
    (holds : Holds o table output rows) (sent : waiting_of table ≡ []) where
  abbrev reading : Reading
  reading = reading_of table.setup

  abbrev layout : Layout
  layout = layout_of table.setup

  abbrev bytes : List ℕ
  bytes = table_text layout (rows_seen rows)

  abbrev Gained : (List ℕ → Type 0) → Type 0
  Gained AreSo = Gains (o.contents (made_for table)) (o.contents output) AreSo

  abbrev AreRows : Type 0
  AreRows = AllZip (IsRowOf layout.targets) (entries_seen rows) (rows_seen rows)

  pub are_rows : ∥ AreRows ∥₁
  are_rows = rows_are layout.targets rows holds.targets

  pub table_is : AreRows → IsTableOf layout (entries_seen rows) (rows_seen rows) bytes
  table_is are = record { numbered = numbers_are 1 (entries_seen rows) holds.numbered; converted = are; written = refl }

  written_by : (w : Option RowWriter) → table.writer ≡ w → has_lost_output table ≡ false → is_some w ≡ true
      → Appends (o.contents (made_for table)) (o.contents output) bytes × (o.is_flushed output ≡ true)
  written_by None is good some = absurd (cc)
  written_by (Some w) is good some =
      let so = rw is at (holds.stands good) in (
        appends_waited (o.contents (made_for table)) (o.contents output) (waiting_in w) bytes
            (waited table.state w good (rw is at sent)) so.0,
        so.1,
      )

  pub written : has_lost_output table ≡ false → is_headed table ≡ true
      → Appends (o.contents (made_for table)) (o.contents output) bytes × (o.is_flushed output ≡ true)
  written good some = written_by table.writer refl good some

  pub unwritten : has_lost_output table ≡ false → is_headed table ≡ false → (output ≡ made_for table) × (rows ≡ [])
  unwritten good none = search (rules, stands_none, layout)

  -- without a heading the output has gained nothing, and with one the table of the rows
  pub gained_so : (AreSo : List ℕ → Type 0) (b : Bool) → is_headed table ≡ b → has_lost_output table ≡ false
      → (rows ≡ [] → AreSo []) → (is_headed table ≡ true → AreSo bytes) → Gained AreSo
  gained_so AreSo false b good none some = search (rules, unwritten, appends_nothing)
  gained_so AreSo true b good none some = (bytes, some b, (written good b).0)

  module _ (text : Option (List ℕ)) (are : AreRows) (good : has_lost_output table ≡ false) where
    pub front_so : (count : ℕ) → count ≡ length rows → HasFirstEntries reading text (entries_seen rows)
        → IsFrontOfTable reading layout text count bytes
    front_so count counted first =
        (entries_seen rows, rows_seen rows, table_is are, (first, counted ∙ sym (length-map rows row_seen)))

    pub headed_so : (AreSo : List Numbered → List TableRow → Type 0) → is_headed table ≡ true
        → AreSo (entries_seen rows) (rows_seen rows) → Gained (IsTableWith layout AreSo)
    headed_so AreSo some so = (bytes, (entries_seen rows, rows_seen rows, table_is are, so), (written good some).0)

    pub whole_so : (count : ℕ) → count ≡ length rows → is_headed table ≡ true
        → HasEntries reading text (entries_seen rows)
        → Gained (IsWholeTable reading layout text count (length table.journal.items) table.journal.items)
    whole_so count counted some accepted =
        headed_so _ some (accepted, counted ∙ sym (length-map rows row_seen), refl, holds.noted)

-- a table for this output and by this setup, in which no line waits and to which these entries of the text were added,
-- but for the last one where that halted it
pub record Follows {W : Type 0} (o : outputs.Ghosts W) (start : W) (setup : Setup) (text : Option (List ℕ))
    (given : List Numbered) (table : Table W) (output : W) : Type 0 where
  pub rows : List Row
  pub holds : Holds o table output rows
  pub same : (made_for table ≡ start) × (made_by table ≡ setup)
  pub all : table_fault table ≡ None → given ≡ entries_seen rows
  pub first : ∥ HasFirstEntries (reading_of setup) text (entries_seen rows) ∥₁
  pub headed : table_fault table ≡ None → is_headed table ≡ true
  pub sent : waiting_of table ≡ []
  pub confirmed : table_fault table ≢ Some cause.Unconfirmed
  pub lost : has_lost_output table ≡ true → table_fault table ≡ Some cause.SinkFault

module _ {W : Type 0} (o : outputs.Ghosts W) (start : W) (setup : Setup) (text : Option (List ℕ))
    (given : List Numbered) (table : Table W) (output : W) (f : Follows o start setup text given table output) where
  abbrev HasGained : (List ℕ → Type 0) → Type 0
  HasGained AreSo = ∥ Gains (o.contents start) (o.contents output) AreSo ∥₁

  pub marked : o.own_mark output ≡ o.own_mark start
  marked = f.holds.mark ∙ ap o.own_mark f.same.0

  has_output : table_fault table ≢ Some cause.SinkFault → has_lost_output table ≡ false
  has_output other = false_from_ne_true (has_lost_output table) (λ lost. other (f.lost lost))

  pub kept : table_fault table ≢ Some cause.SinkFault → o.has_failed output ≡ o.has_failed start
  kept other = f.holds.good (has_output other) ∙ ap o.has_failed f.same.0

  pub front : table_fault table ≢ Some cause.SinkFault → HasGained (ArePartOfTable (reading_of setup) (layout_of setup) text)
  front other = rw (f.same.0, f.same.1) at (∥∥₁_elim (are_rows o table output f.rows f.holds f.sent) ∥∥₁_prop (λ are.
      ∥∥₁_map (rw (sym f.same.1) at f.first) (λ first.
      gained_so o table output f.rows f.holds f.sent
      (ArePartOfTable (reading_of (made_by table)) (layout_of (made_by table)) text) (is_headed table)
      refl (has_output other) (λ none. inl refl)
      (λ some. inr (
        length f.rows,
        front_so o table output f.rows f.holds f.sent text are (has_output other)
            (length f.rows) refl first,
      )))))

  -- the same of a table that goes on
  module _ (open_ : table_fault table ≡ None) where
    good : has_lost_output table ≡ false
    good = faultless table.state open_

    pub flushed : o.is_flushed output ≡ true
    flushed = (written o table output f.rows f.holds f.sent good (f.headed open_)).1

    -- it has gained its heading and the lines of its rows, which are as said
    all_lines : (AreSo : List Numbered → List TableRow → Type 0) → ∥ AreSo (entries_seen f.rows) (rows_seen f.rows) ∥₁
        → HasGained (IsTableWith (layout_of setup) AreSo)
    all_lines AreSo said = rw (f.same.0, f.same.1) at (∥∥₁_elim (are_rows o table output f.rows f.holds f.sent) ∥∥₁_prop
        (λ are. ∥∥₁_map said (headed_so o table output f.rows f.holds f.sent text are good AreSo (f.headed open_))))

    pub whole_rows : ∥ HasEntries (reading_of setup) text given ∥₁
        → HasGained (IsWholeTable (reading_of setup) (layout_of setup) text table.rows (length table.journal.items)
        table.journal.items)
    whole_rows h =
        let count = sym f.holds.counted ∙ sym (length-map f.rows row_seen) in
        all_lines _ (∥∥₁_map (rw (f.all open_) at h) (λ entries. (entries, count, refl, f.holds.noted)))

    pub first_rows : (count : ℕ) → length given ≡ count
        → HasGained (IsFrontOfTable (reading_of setup) (layout_of setup) text count)
    first_rows count counted =
        let seen = length-map f.rows (λ (row : Row). entry_seen row.entry) ∙ sym (length-map f.rows row_seen) in
        all_lines _ (∥∥₁_map f.first (λ first. (first, sym counted ∙ ap length (f.all open_) ∙ seen)))

    pub all_rows : ∥ HasAllEntries (reading_of setup) text given ∥₁
        → HasGained (IsTableOfAll (reading_of setup) (layout_of setup) text)
    all_rows h = all_lines _ (rw (f.all open_) at h)

-- which causes there are of a table, of a row, and of a reader behind the header that has not failed before
other_than : (f : Option Cause) (c d : Cause) → f ≡ Some c → IfSome f (λ c. is_of_table c ≡ true)
    → is_of_table d ≡ false → c ≢ d
other_than f c d e of not is = search rules

pub of_row : (c : Cause) → (c ≡ cause.NoMemory) ⊎ (c ≡ cause.SinkFault) → c ≢ cause.Unconfirmed
of_row c of is = search rules

of_reading : (f : EntryFault) (c : Cause) → c ≡ entry_fault_cause f → (f ≢ entry.BadHeader) × (f ≢ entry.Failed)
    → (c ≢ cause.SinkFault) × (c ≢ cause.BadHeader) × (c ≢ cause.NoThread) × (c ≢ cause.Unconfirmed)
of_reading f c e other = search rules

-- fewer entries may follow those given once another was given
pub fewer_left : (given more : List Numbered) (entry : Numbered) (n : ℕ) → more ≡ given ++ entry ∷ []
    → (n ≡ length given + 1) × (n ≤ record_limit) → record_limit - length more < record_limit - length given
fewer_left given more entry n e number =
    omega (arith, ap length e, length-append given (entry ∷ []), number.0, number.1)

-- a table that goes on does not end as broken
pub unbroken : {W : Type 0} (e : SourceEnd) (table : Table W) (IsSo : Cause → Type 0) → table_fault table ≡ None
    → IfBroken e (λ c. table_fault table ≡ Some c) → IfBroken e IsSo
unbroken e table IsSo open_ is = search rules

module _ {W : Type 0} (o : outputs.Ghosts W) (start : W) (setup : Setup) (text : Option (List ℕ))
    (given : List Numbered) (table : Table W) (output : W) where
  -- a fault of the table or of the output
  pub broken_by_table : (c : Cause) → table_fault table ≡ Some c → c ≢ cause.Unconfirmed
      → (c ≡ cause.SinkFault → o.has_failed output ≡ true) → o.own_mark output ≡ o.own_mark start
      → ((c ≢ cause.SinkFault) → Follows o start setup text given table output)
      → IsBroken o setup text start output c
  broken_by_table c fault known failed mark follows =
      let not = λ (d : Cause) (e : is_of_table d ≡ false). other_than _ c d fault table.of_table e in
      search (rules, front, kept, other_cause, not, follows, failed)

  -- a fault of reading
  pub broken_by_reader : {R : Type 0} {g : Ghosts R} (old new : EntryReader R g) (entry : Entry) (f : EntryFault)
      → ReadsNext old new entry (Err f) → text_of old ≡ text → reads_by old ≡ reading_of setup
      → reader_failed old ≡ false → given_of old ≡ given → table_fault table ≡ None
      → Follows o start setup text given table output → IsBroken o setup text start output (entry_fault_cause f)
  broken_by_reader old new entry f reads text_is by_is goes given_is open_ follows =
      let text_now = reads.text.0 ∙ text_is in let by = reads.text.1 ∙ by_is in
      let never = of_reading f _ refl (reads.no_header, reads.only_failed goes) in
      let other : table_fault table ≢ Some cause.SinkFault = λ is. let e = sym open_ ∙ is in absurd (cc) in record {
        part = λ is. front _ _ _ _ _ _ _ follows other;
        too_many = λ is. let past = reads.many (only_many f _ refl is) in (
          of_reader (λ reading text _. IfSome text (λ t. HasTooMany reading t)) _ _ _ _ [] [] text_now by refl past.1,
          first_rows _ _ _ _ _ _ _ follows open_ _ (ap length (sym given_is) ∙ past.0),
        );
        not_sealed = λ is. let which = only_not_sealed f _ refl is in let lacks = reads.not_sealed which in (
          sym (ap (λ (reading : Reading). reading.form) by) ∙ lacks.0,
          of_reader (λ reading text _. IfSome text (λ t. IsNotSealed reading t)) _ _ _ _ [] [] text_now by refl lacks.1,
          all_rows _ _ _ _ _ _ _ follows open_
              (of_reader HasAllEntries _ _ _ _ _ _ text_now by (reads.kept ∙ given_is) (reads.above which)),
        );
        never = (never.1, never.2, never.3);
        sink = λ is. absurd (never.0 is);
        kept = λ is. kept _ _ _ _ _ _ _ follows other;
        mark = marked _ _ _ _ _ _ _ follows;
      }
