-- The names that these proofs cite, passed on from one place, so that few lines of imports serve.
pub use Rattle.date_texts.proofs.BufferLemmas.{put_then}
pub use Rattle.date_texts.specs.declared.comparing.TheConstants.{WORD_LEN}
pub use Rattle.csv.proofs.ReadFacts.{rows-end, rows-more, strip-short}
pub use Rattle.csv.proofs.WriteFacts.{appends-none, escaped-double, escaped-other, fields-snoc, quoted-step, slice-end}
unfoldable pub use Rattle.csv.specs.Reading.{records_from, strip_bom}
pub use Rattle.csv.specs.Records.{fields_of}
unfoldable pub use Rattle.csv.specs.Records.{cut_from, field_at}
pub use Rattle.csv.specs.Writing.{field_text, needs_byte, needs_quotes, row_body}
unfoldable pub use Rattle.csv.specs.Writing.{escaped, fields_text, is_blank}
pub use Rattle.csv.specs.declared.reader.Reader.{Reader}
pub use Rattle.date_texts.proofs.ReadingLemmas.{all_digits, value_after}
pub use Rattle.date_texts.specs.Calendars.{all_targets, calendar_name, default_targets, target_name}
pub use Rattle.date_texts.specs.Cells.{is_plain}
pub use Rattle.date_texts.specs.DateText.{IsDateText}
pub use Rattle.date_texts.specs.Laws.{CellsArePlain, OneCalendar, OneCell, OneDateText}
pub use Rattle.date_texts.specs.Names.{IsNamed}
pub use Rattle.date_texts.specs.Refusals.{refusal_number}
pub use Rattle.date_texts.specs.declared.refusal.Refusal.{Refusal}
pub use Rattle.date_texts.specs.declared.target.Target.{Target}
pub use Rattle.date_texts.specs.declared.target.Target.TheVariants.{Haab}
pub use Rattle.day_numbers.specs.Days.{IsDayNumber, weekday_names, weekday_number}
pub use Rattle.day_numbers.specs.declared.day.Day.{Day}
pub use Rattle.register_records.specs.private.BareTexts.{IsPlain, has_plain_texts, is_plain_byte}
pub use Rattle.register_records.specs.Causes.{entry_fault_cause}
pub use Rattle.register_records.specs.Columns.{Column, cell_columns, columns, entry_order, kind_columns, tail_order}
pub use Rattle.register_records.specs.Entries.{AreNumberedFrom, HasAllEntries, HasEntries, HasFirstEntries, HasTooMany}
pub use Rattle.register_records.specs.Entries.{HaveOneDate, IsNotSealed, Numbered, Reading, are_fit, are_utf8, body_of}
pub use Rattle.register_records.specs.Entries.{body_of_texts, body_seen, record_limit}
unfoldable pub use Rattle.register_records.specs.Entries.{entries_from}
pub use Rattle.register_records.specs.LineRoom.{Begins, GainsFields, field_room, writing}
pub use Rattle.register_records.specs.private.LineRoom.{name_limit}
pub use Rattle.register_records.specs.LineViews.{GrowsBy, line_bytes, line_capacity}
pub use Rattle.register_records.specs.Lines.{fields_behind, line_text}
pub use Rattle.register_records.specs.Outcomes.{AreCells, IsOutcome, IsRowOf, Says, TableRow, accepted, no_date_text}
pub use Rattle.register_records.specs.Outcomes.{no_such_date, out_of_range, refused, unknown_calendar}
pub use Rattle.register_records.specs.Records.{Fields, Texts, has_notes, texts_of}
pub use Rattle.register_records.specs.private.Retrying.{inner_remaining}
pub use Rattle.register_records.specs.RowTails.{cells_of, tail_bytes}
pub use Rattle.register_records.specs.Seals.{Agrees, AreClosed, entry_records, is_seal}
unfoldable pub use Rattle.register_records.specs.Seals.{before_seal}
pub use Rattle.register_records.specs.Seen.{entry_seen, outcome_seen}
pub use Rattle.register_records.specs.SetupRules.{is_delimiter}
pub use Rattle.register_records.specs.ShortLists.{items_in}
pub use Rattle.register_records.specs.private.TableColumns.{entry_field, kind_name, kind_names, row_fields, text_shown}
pub use Rattle.register_records.specs.Tables.{table_text}
pub use Rattle.register_records.specs.TablesWritten.{table_fault}
pub use Rattle.register_records.specs.private.TargetRanks.{have_one_name, rank_of, ranks_in}
pub use Rattle.register_records.specs.Views.{given_of, reader_failed, reading_of, reads_by, row_seen, row_targets}
pub use Rattle.register_records.specs.Views.{targets_of, text_of}
pub use Rattle.register_records.specs.private.Tails.{tail_fields}
pub use Rattle.register_records.specs.declared.entries.Entry.{Entry}
pub use Rattle.register_records.specs.declared.entries.TheConstants.{CHUNK}
pub use Rattle.register_records.specs.declared.reading.EntryFault.{EntryFault}
pub use Rattle.register_records.specs.declared.row_tails.TheConstants.{CELL_ROOM, TAIL_ROOM}
pub use Rattle.register_records.specs.declared.rows.Row.{Row}
pub use Rattle.register_records.specs.declared.setups.Form.{Form}
pub use Rattle.register_records.specs.declared.setups.Form.TheVariants.{Plain, Sealed}
pub use Rattle.register_records.specs.declared.target_lists.TheConstants.{RANK_ROOM}
pub use Rattle.std.proofs.Common.{◌≡◌, ℕ, ◌+◌, ◌-◌, ◌*◌, ◌^◌, ◌<◌, ◌≤◌, true, false, ◌↔◌, List, [], ◌∷◌, ◌++◌, map}
pub use Rattle.std.proofs.Common.{length, get_or, take, drop, IfSome, nat_lt, Some, None, Ok, Err, decimal, Option}
pub use Rattle.std.proofs.Common.{option_map, flat_map, sym, refl, ap, ◌∙◌, subst, inl, append_assoc, append-nil}
pub use Rattle.std.proofs.Common.{add-one, arith, length-append, rules}
pub use Rattle.std.proofs.Math.Logic.{∥∥₁_elim, ∥∥₁_map, ∥∥₁_prop}
pub use Rattle.std.proofs.Math.Seq.{take-add, take-append-add}
pub use Rattle.std.proofs.Props.{props}
pub use Rattle.std.proofs.lemmas.Bool.{and_parts, cases_Bool, cases_lt, false_from_ne_true, or_from, or_parts}
pub use Rattle.std.proofs.lemmas.Bool.Decides.{nat_tests}
pub use Rattle.std.proofs.lemmas.Int.{ints}
pub use Rattle.std.proofs.lemmas.List.{append_cancel_left, length-map, map-append, take_all, take_more}
pub use Rattle.std.proofs.lemmas.List.Sums.{AllPass-from_list_all, fold-append, passes_at_first, position_or_len_is}
pub use Rattle.std.specs.Fmt.{signed_decimal}
pub use Rattle.std.specs.Io.KnownBytes.{Appends, Keeps, append_known}
pub use Rattle.std.specs.List.{AllZip, list_all, onto_first, position_or_len, range_with_len, slice_split}
pub use Rattle.std.specs.Prelude.{⊤}
unfoldable pub use Rattle.std.specs.Str.{chars, is_utf8}
