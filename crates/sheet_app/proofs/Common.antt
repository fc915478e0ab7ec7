-- The names that many proofs speak of.
pub use Rattle.clap.specs.Words.{Text}
pub use Rattle.csv.specs.Records.{fields_of}
pub use Rattle.programs.specs.OutputNames.{AreTwoOutputs}
pub use Rattle.programs.specs.Places.{place_name}
pub use Rattle.sheets.specs.declared.choices.DateColumn.{DateColumn}
pub use Rattle.sheets.specs.declared.date_counts.DateCounts.{DateCounts}
pub use Rattle.sheets.specs.declared.name_lists.NameLine.{NameLine}
pub use Rattle.sheet_app.specs.CalendarWords.{calendar_words}
pub use Rattle.sheet_app.specs.FileSheets.{IsNoInput, ending_of, names_ending}
pub use Rattle.sheet_app.specs.private.FileSheets.{IsNewSheet, sheet_name, source_name}
pub use Rattle.sheet_app.specs.Lines.{head_of}
pub use Rattle.sheet_app.specs.private.SheetViews.{IsOfOutputs, IsOfWords}
pub use Rattle.sheet_app.specs.declared.file_sheets.OpenedFile.{OpenedFile}
pub use Rattle.sheet_app.specs.declared.conversions.SheetDone.{SheetDone}
pub use Rattle.sheet_arguments.specs.Requests.{Task, task_of}
pub use Rattle.std.specs.Borrow.{Bor}
pub use Rattle.std.specs.Io.KnownBytes.{Appends}
pub use Rattle.std.specs.List.{AllZip}
pub use Rattle.std.specs.String.{string_bytes}
pub use Rattle.std.specs.Vec.Iter.{into_iter_items}
pub use Rattle.written_dates.specs.Fields.{bare_name}
