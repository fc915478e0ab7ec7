-- What is noted of a sheet while its records are read.
use Rattle.std.specs.Prelude.{◌≡◌, ◌^◌, ◌<◌, ◌+◌, ℕ, Bool, Err, List, Ok, Option, Result, false, length, map, true}
use Rattle.std.specs.List.{AllZip}
use Rattle.register_records.specs.Entries.{record_limit}
use Rattle.sheets.specs.DateCounts.{AreSheetCounts}
use Rattle.sheets.specs.DateStops.{DateStop, IsStopOf, SheetDate}
use Rattle.sheets.specs.private.SheetRecords.{RecordRead, fields_read, rows_read}
use Rattle.sheets.specs.UnknownNames.{AreCounts, all_dates, names_in}
use Rattle.sheets.specs.private.UnknownViews.{HasNames}
use Rattle.sheets.specs.declared.choices.SheetChoice.{SheetChoice}
use Rattle.sheets.specs.declared.sheet_notes.Found.{Found}
use Rattle.sheets.specs.declared.sheet_notes.SheetNotes.{SheetNotes}
use Rattle.sheets.specs.declared.sheet_ends.SheetCause.{SheetCause}
use Rattle.sheets.specs.declared.sheet_ends.SheetCause.TheVariants.{NoMemory}
use Rattle.sheets.specs.declared.stopped_dates.Unknown.{Unknown}

-- this is what is not known in these dates
pub record HasFound (choice : SheetChoice) (dates : List SheetDate) (most : ℕ) (found : Found) : Type 0 where
  pub limit : found.most ≡ most
  pub stops : List (Option DateStop)
  pub are_stops : AllZip (IsStopOf choice) dates stops
  pub counts : AreCounts choice dates stops found.unread
  pub named : found.is_lost ≡ false → HasNames most (names_in stops) found.names

-- so many dates more can be counted
pub record HasSpace (choice : SheetChoice) (count : ℕ) (found : Found) : Type 0 where
  pub dates : List SheetDate
  pub most : ℕ
  pub is_found : HasFound choice dates most found
  pub few : length dates + count < 2 ^ 32

-- these are the notes on what was read of records
pub record HasNotes (choice : SheetChoice) (reads : List RecordRead) (most : ℕ) (notes : SheetNotes) : Type 0 where
  pub records : notes.records ≡ length reads
  pub counts : AreSheetCounts choice.dates.now (fields_read reads) (map rows_read reads) notes.counts
  pub found : HasFound choice (all_dates choice (fields_read reads)) most notes.found

-- what is not known in a sheet, unless memory ran out for a name
abbrev pub unless_lost : Bool → Found → Result Unknown SheetCause
unless_lost true found = Err NoMemory
unless_lost false found =
    Ok (record { names = found.names.listed; more = found.names.more; unread = found.unread })

abbrev pub unknown_of : Found → Result Unknown SheetCause
unknown_of found = unless_lost found.is_lost found

-- one more record may follow them
pub record HasSpaceFor (choice : SheetChoice) (notes : SheetNotes) : Type 0 where
  pub reads : List RecordRead
  pub most : ℕ
  pub are_noted : HasNotes choice reads most notes
  pub few : length reads < record_limit
