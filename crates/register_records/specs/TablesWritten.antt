-- What a table in the making holds.
use Rattle.std.specs.Prelude.{◌≡◌, ◌+◌, ℕ, Bool, List, [], length, map, Option, None, Some, false, true}
use Rattle.std.specs.Io.KnownBytes.{Appends, append_known}
use Rattle.std.specs.List.{Contains}
use Rattle.std.specs.Option.{is_some}
use Rattle.register_records.specs.Entries.{AreNumberedFrom, Numbered}
use Rattle.register_records.specs.Outcomes.{TableRow}
use Rattle.register_records.specs.Seen.{entry_seen}
use Rattle.register_records.specs.TableStates.{fault_of, lines_waiting, lost_output}
use Rattle.register_records.specs.Tables.{Layout, journal_of, table_text}
use Rattle.register_records.specs.Views.{layout_of, row_seen, row_targets, targets_of, waiting_in, writes_by}
use Rattle.register_records.specs.declared.ends.Cause.{Cause}
use Rattle.register_records.specs.declared.ends.Note.{Note}
use Rattle.register_records.specs.declared.outputs.Output as outputs
use Rattle.register_records.specs.declared.rows.Row.{Row}
use Rattle.register_records.specs.declared.setups.Setup.{Setup}
use Rattle.register_records.specs.declared.tables.Table.{Table}
use Rattle.register_records.specs.declared.writing.RowWriter.{RowWriter}

-- rows as a table has them, and their entries as a text has them
abbrev pub rows_seen : List Row → List TableRow
rows_seen rows = map row_seen rows

abbrev pub entries_seen : List Row → List Numbered
entries_seen rows = map (λ (row : Row). entry_seen row.entry) rows

-- before the heading nothing was written and no row was added; from then on, what the output has gained and then what
-- waits are the table of these rows
abbrev pub IsTableSoFar : {W : Type 0} → outputs.Ghosts W → Layout → W → W → Option RowWriter → List Row → Type 0
IsTableSoFar o layout given output None rows = (output ≡ given) × (rows ≡ [])
IsTableSoFar o layout given output (Some w) rows =
    Appends (o.contents given) (append_known (o.contents output) (waiting_in w)) (table_text layout (rows_seen rows))
    × (o.is_flushed output ≡ true) × (writes_by w ≡ layout.writing)

module _ {W : Type 0} where
  -- the output before the heading, and the setup
  abbrev pub made_for : Table W → W
  made_for table = table.given.value

  abbrev pub made_by : Table W → Setup
  made_by table = table.setup

  -- the heading was written; why no more rows are added; the output failed; the lines that wait
  abbrev pub is_headed : Table W → Bool
  is_headed table = is_some table.writer

  abbrev pub table_fault : Table W → Option Cause
  table_fault table = fault_of table.state

  abbrev pub has_lost_output : Table W → Bool
  has_lost_output table = lost_output table.state

  abbrev pub waiting_of : Table W → List ℕ
  waiting_of table = lines_waiting table.state table.writer

  -- it is for the same output and by the same setup
  abbrev pub IsSameTable : Table W → Table W → Type 0
  IsSameTable old new = (made_for new ≡ made_for old) × (made_by new ≡ made_by old)

  -- the heading was written, and this row has the next number and the setup's targets
  abbrev pub IsNextRow : Table W → Row → Type 0
  IsNextRow table row =
      (is_headed table ≡ true) × (row.entry.number ≡ table.rows + 1) × (row_targets row ≡ targets_of table.setup)

  -- it ended whole with so many rows and refused rows, and this journal
  abbrev pub HasEnded : Table W → ℕ → ℕ → List Note → Type 0
  HasEnded table rows refused journal =
      (table_fault table ≡ None) × (rows ≡ table.rows) × (refused ≡ length journal) × (journal ≡ table.journal.items)

  -- these rows were added, in the order of their numbers, from 1: their lines were written or wait, unless the output
  -- failed, and the journal is theirs
  pub record Holds (o : outputs.Ghosts W) (table : Table W) (output : W) (rows : List Row) : Type 0 where
    pub stands : has_lost_output table ≡ false
        → IsTableSoFar o (layout_of table.setup) table.given.value output table.writer rows
    pub failed : has_lost_output table ≡ true → o.has_failed output ≡ true
    pub good : has_lost_output table ≡ false → o.has_failed output ≡ o.has_failed table.given.value
    pub mark : o.own_mark output ≡ o.own_mark table.given.value
    pub numbered : AreNumberedFrom 1 (entries_seen rows)
    pub counted : length rows ≡ table.rows
    pub targets : (row : Row) → Contains rows row → row_targets row ≡ targets_of table.setup
    pub noted : table.journal.items ≡ journal_of (rows_seen rows)
