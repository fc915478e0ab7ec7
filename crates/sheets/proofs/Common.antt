-- The names that many proofs speak of.
pub use Rattle.csv.specs.Records.{fields_of}
pub use Rattle.date_texts.specs.Calendars.{all_calendars, calendar_name}
pub use Rattle.date_texts.specs.Names.{IsNamed}
pub use Rattle.date_texts.specs.declared.calendar.Calendar.{Calendar}
pub use Rattle.date_texts.specs.declared.calendar.Calendar.TheVariants.{Gregorian}
pub use Rattle.date_texts.specs.declared.refusal.Refusal.{Refusal}
pub use Rattle.register_records.specs.Entries.{Fields, record_limit, text_records}
pub use Rattle.register_records.specs.Lines.{line_text}
pub use Rattle.register_records.specs.Views.{row_seen}
pub use Rattle.sheets.specs.Choices.{asked_targets, calendar_for, id_text, meaning_for}
pub use Rattle.sheets.specs.Converted.{below}
pub use Rattle.sheets.specs.private.CountViews.{CountsDates}
pub use Rattle.sheets.specs.DateCounts.{AreSheetCounts, no_counts}
pub use Rattle.sheets.specs.DateEnds.{AreEndsIn, Dated, DatedEnd, as_text}
pub use Rattle.sheets.specs.DateStops.{DateStop, IsStopBy, NameStop, SheetDate}
pub use Rattle.sheets.specs.private.HeadingViews.{NamesMore, taken_by, wanted_all}
pub use Rattle.sheets.specs.Headings.{asked_behind, is_taken, items_of}
pub use Rattle.sheets.specs.private.LineViews.{GainsFields}
pub use Rattle.sheets.specs.private.LineWriters.{Finishes, Gathers, Makes, Waits}
pub use Rattle.sheets.specs.NameLists.{named_by}
pub use Rattle.sheets.specs.Produced.{Produced, ending_of, first_fault}
pub use Rattle.sheets.specs.private.Produced.{AreLines}
pub use Rattle.sheets.specs.Reading.{IsReading, left_of}
pub use Rattle.sheets.specs.private.RecordLines.{body_line}
pub use Rattle.sheets.specs.private.Sending.{top_records}
pub use Rattle.sheets.specs.private.SheetNotes.{HasFound, HasNotes}
pub use Rattle.sheets.specs.private.SheetReaders.{given_of}
pub use Rattle.sheets.specs.private.SheetReadings.{AreRegisterWriters, HasReadSheet, Takes, line_of_entry}
pub use Rattle.sheets.specs.private.SheetRecords.{AreRecordsRead, DateRead, IsDateRead, RecordRead, date_seen}
pub use Rattle.sheets.specs.private.SheetRecords.{dated_seen, fields_read, record_read}
pub use Rattle.sheets.specs.Sheets.{records_text, widest}
pub use Rattle.sheets.specs.UnknownNames.{NameCount, all_dates, is_alike, list_head, name_record, name_seen}
pub use Rattle.sheets.specs.declared.choices.AskedColumn.{AskedColumn}
pub use Rattle.sheets.specs.declared.choices.AskedColumn.TheVariants.{DayNumber}
pub use Rattle.sheets.specs.declared.choices.DateColumn.{DateColumn}
pub use Rattle.sheets.specs.declared.choices.SheetChoice.{SheetChoice}
pub use Rattle.sheets.specs.declared.line_writers.LineWriter.{LineWriter}
pub use Rattle.sheets.specs.declared.lines.SheetLines.{SheetLines}
pub use Rattle.sheets.specs.declared.record_lines.EntryLine.{EntryLine}
pub use Rattle.sheets.specs.declared.sheet_ends.SheetCause.{SheetCause}
pub use Rattle.sheets.specs.declared.sheet_records.ColumnDates.{ColumnDates}
pub use Rattle.sheets.specs.declared.stopped_names.UnknownName.{UnknownName}
pub use Rattle.std.specs.List.{AllZip, flat_map, list_any}
pub use Rattle.std.specs.Str.{bytes_eq}
pub use Rattle.written_dates.specs.Fields.{calendar_of}
pub use Rattle.written_dates.specs.declared.fields.CalendarMeaning.{CalendarMeaning}
pub use Rattle.written_dates.specs.declared.meanings.Name.{Name}
