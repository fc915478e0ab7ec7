-- What is noted of a sheet, record by record.
use Rattle.std.proofs.Common.{◌≡◌, ◌≤◌, ◌<◌, ◌+◌, ◌^◌, ◌∙◌, ◌++◌, ℕ, List, [], ◌∷◌, Option, Some, Bool}
use Rattle.std.proofs.Common.{false, true, ap, arith, cond, get_or, length, map, refl, subst, sym, IfErr, IfOk, Result}
use Rattle.std.proofs.Common.{if◌then◌else◌, option_to_list, slice_get}
use Rattle.sheets.proofs.Common.{AllZip, Fields, record_limit, Dated, AreSheetCounts, DateStop, NameStop}
use Rattle.sheets.proofs.Common.{SheetDate, below, HasFound, HasNotes, IsDateRead, RecordRead, date_seen}
use Rattle.sheets.proofs.Common.{fields_read, all_dates, name_seen, DateColumn, SheetChoice, ColumnDates}
use Rattle.sheets.proofs.Common.{SheetCause}
use Rattle.std.proofs.Math.Seq.{take-nil}
use Rattle.std.proofs.lemmas.List.{length-append, length-map, map-append, map_push}
use Rattle.std.proofs.lemmas.List.Sums.{count_by-le-length, sum_by_push}
use Rattle.sheets.specs.private.CountViews.{AreUpTo, CountsRecord}
use Rattle.sheets.specs.DateStops.{IsStopOf, is_for, name_in}
use Rattle.sheets.specs.private.SheetNotes.{HasSpace, HasSpaceFor, unknown_of, unless_lost}
use Rattle.sheets.specs.private.SheetRecords.{rows_read}
use Rattle.sheets.specs.UnknownNames.{IsFound, IsShort, IsUnknown, counted, dates_of, names_in}
use Rattle.sheets.specs.UnknownViews.{NoneUnread}
use Rattle.sheets.specs.private.UnknownViews.{CountsDate, HasNames, HasPlace, HasRoom}
use Rattle.sheets.specs.declared.sheet_notes.Found.{Found}
use Rattle.sheets.specs.declared.sheet_notes.SheetNotes.{SheetNotes}
use Rattle.sheets.specs.declared.sheet_ends.SheetCause.TheVariants.{NoMemory}
use Rattle.sheets.specs.declared.stopped_dates.Unknown.{Unknown}
use Rattle.std.proofs.lemmas.Option.{slice_get-get_or}
use Rattle.sheets.proofs.CountLemmas.{counts_more, up_to}
use Rattle.sheets.proofs.FoundLemmas.{dates_few, dates_more, has_room, names_both, names_few, names_one}
use Rattle.sheets.proofs.RowLemmas.{seen_at}
use Rattle.std.proofs.lemmas.Slice.Zip.{AllZip-left, AllZip-long, all_zipped_more}

-- no date yet
pub none_found : (choice : SheetChoice) (found : Found) (most : ℕ) → found.most ≡ most → NoneUnread found.unread
    → found.names.listed.items ≡ [] → found.names.more ≡ 0 → HasFound choice [] most found
none_found choice found most limit none empty no_more =
    record {
      limit = limit;
      stops = [];
      are_stops = tt;
      counts = record {
        stopped_are = none.stopped;
        shorts = [];
        are_short = tt;
        short_are = none.short;
        reasons_are = none.reasons;
      };
      named = λ here.
          record {
            names_are = ap (map name_seen) empty ∙ ap (map (counted [])) (sym (take-nil most));
            more_are = no_more;
          };
    }

-- one more date
pub date_found : (choice : SheetChoice) (dates : List SheetDate) (d : SheetDate) (most : ℕ) (old new : Found)
    (stop : Option DateStop) (short : Bool) → IsStopOf choice d stop → IsShort choice d short
    → CountsDate stop short old.unread new.unread → new.most ≡ old.most
    → (new.is_lost ≡ false → (old.is_lost ≡ false) × ((stops : List NameStop) → HasNames old.most stops old.names
    → HasNames old.most (stops ++ option_to_list (name_in stop)) new.names))
    → HasFound choice dates most old → HasFound choice (dates ++ d ∷ []) most new
date_found choice dates d most old new stop short is is_short counts kept named found =
    let stops = found.stops in
    let more : List NameStop = option_to_list (name_in stop) in
    let all : names_in (stops ++ stop ∷ []) ≡ names_in stops ++ more
    = names_both stops (stop ∷ []) ∙ ap (λ (xs : List NameStop). names_in stops ++ xs) (names_one stop) in
    record {
      limit = kept ∙ found.limit;
      stops = stops ++ stop ∷ [];
      are_stops = all_zipped_more (IsStopOf choice) dates stops d stop found.are_stops is;
      counts = record {
        shorts = found.counts.shorts ++ short ∷ [];
        are_short = all_zipped_more (IsShort choice) dates found.counts.shorts d short found.counts.are_short is_short;
        stopped_are = omega (
          arith,
          counts.stopped,
          found.counts.stopped_are,
          ap length all,
          length-append (names_in stops) more,
        );
        short_are = counts.short ∙ ap (λ (n : ℕ). n + (if short then 1 else 0)) found.counts.short_are
            ∙ sym (sum_by_push (λ (b : Bool). cond b 1 0) found.counts.shorts short);
        reasons_are = λ reason. counts.reasons reason
            ∙ ap (λ (n : ℕ). n + (if is_for reason stop then 1 else 0)) (found.counts.reasons_are reason)
            ∙ sym (sum_by_push (λ (s : Option DateStop). cond (is_for reason s) 1 0) stops stop);
      };
      named = λ here.
          let (before, add) = named here in
          subst (λ (xs : List NameStop). HasNames most xs new.names) (sym all)
          (subst (λ (n : ℕ). HasNames n (names_in stops ++ more) new.names) found.limit (add (names_in stops)
          (subst (λ (n : ℕ). HasNames n (names_in stops) old.names) (sym found.limit) (found.named before))));
    }

-- one more of each can be counted
pub found_place : (choice : SheetChoice) (dates : List SheetDate) (most : ℕ) (found : Found)
    → HasFound choice dates most found → length dates + 1 < 2 ^ 32 → HasPlace 1 found.unread
found_place choice dates most found h few =
    let all = AllZip-long (IsStopOf choice) dates h.stops h.are_stops in
    record {
      stopped = omega (arith, h.counts.stopped_are, names_few h.stops, all, few);
      short = omega (
        arith,
        h.counts.short_are,
        count_by-le-length (λ (short : Bool). short) h.counts.shorts,
        AllZip-long (IsShort choice) dates h.counts.shorts h.counts.are_short,
        few,
      );
      reasons = λ reason. omega (
        arith,
        h.counts.reasons_are reason,
        count_by-le-length (is_for reason) h.stops,
        all,
        few,
      );
    }

pub found_room : (choice : SheetChoice) (dates : List SheetDate) (most : ℕ) (found : Found)
    → HasFound choice dates most found → length dates + 1 < 2 ^ 32 → found.is_lost ≡ false → HasRoom found.names
found_room choice dates most found h few here =
    has_room most (names_in h.stops) found.names (h.named here)
    (omega (arith, names_few h.stops, AllZip-long (IsStopOf choice) dates h.stops h.are_stops, few))

-- what was read of the date of a column
pub zip_place : {A B : Type 0} (R : A → B → Type 0) (xs : List A) (ys : List B) (i : ℕ) (x : A) (y : B) → AllZip R xs ys
    → slice_get xs i ≡ Some x → slice_get ys i ≡ Some y → R x y
zip_place R xs ys i x y h a b =
    let both = AllZip-left R xs ys h i in grind (arith, both)

pub date_at_place : (choice : SheetChoice) (number : ℕ) (fields : Fields) (columns : List DateColumn)
    (dates : List ColumnDates) (place : ℕ) (e : DateColumn) (date : ColumnDates)
    → AllZip (IsDateRead choice number fields) columns (map date_seen dates) → place < length columns
    → place < length dates → date ≡ get_or dates place date
    → IsDateRead choice number fields (get_or columns place e) (date_seen date)
date_at_place choice number fields columns dates place e date h low room is =
    zip_place (IsDateRead choice number fields) columns (map date_seen dates) place (get_or columns place e)
    (date_seen date) h (slice_get-get_or columns place e low) (seen_at date_seen dates place date room is)

pub columns_count : (choice : SheetChoice) (number : ℕ) (fields : Fields) (columns : List DateColumn)
    (dates : List ColumnDates) → AllZip (IsDateRead choice number fields) columns (map date_seen dates)
    → length dates ≡ length columns
columns_count choice number fields columns dates h =
    sym (length-map dates date_seen) ∙ AllZip-long (IsDateRead choice number fields) columns (map date_seen dates) h

-- one more record
pub notes_more : (choice : SheetChoice) (reads : List RecordRead) (one : RecordRead) (most : ℕ) (old new : SheetNotes)
    → new.records ≡ old.records + 1 → CountsRecord choice.dates.now one.fields (rows_read one) old.counts new.counts
    → ((dates : List SheetDate) (most : ℕ) → HasFound choice dates most old.found
    → HasFound choice (dates ++ dates_of choice one.fields) most new.found) → HasNotes choice reads most old
    → HasNotes choice (reads ++ one ∷ []) most new
notes_more choice reads one most old new records counts found noted =
    let fields = map_push (λ (read : RecordRead). read.fields) reads one in
    record {
      records = omega (arith, records, noted.records, length-append reads (one ∷ []));
      counts = subst
          (λ (xs : List Fields). AreSheetCounts choice.dates.now xs (map rows_read (reads ++ one ∷ [])) new.counts)
          (sym fields)
          (subst (λ (ys : List (List Dated)). AreSheetCounts choice.dates.now (fields_read reads ++ one.fields ∷ [])
          ys new.counts) (sym (map-append rows_read reads (one ∷ [])))
          (counts_more choice.dates.now (fields_read reads) (map rows_read reads) one.fields (rows_read one) old.counts
          new.counts
          (length-map reads (λ (read : RecordRead). read.fields) ∙ sym (length-map reads rows_read)) noted.counts
          counts));
      found = subst (λ (dates : List SheetDate). HasFound choice dates most new.found)
          (sym (ap (all_dates choice) fields ∙ dates_more choice (fields_read reads) one.fields))
          (found (all_dates choice (fields_read reads)) most noted.found);
    }

-- what may be noted of one more record
pub notes_up_to : (choice : SheetChoice) (notes : SheetNotes) → HasSpaceFor choice notes
    → AreUpTo record_limit choice.dates.now notes.counts
notes_up_to choice notes space =
    up_to choice.dates.now (fields_read space.reads) (map rows_read space.reads) notes.counts record_limit
    space.are_noted.counts (omega (arith, length-map space.reads (λ (read : RecordRead). read.fields), space.few))

pub notes_space : (choice : SheetChoice) (notes : SheetNotes) → length choice.dates.now ≤ 8 → HasSpaceFor choice notes
    → HasSpace choice (length choice.dates.now) notes.found
notes_space choice notes few space =
    record {
      dates = all_dates choice (fields_read space.reads);
      most = space.most;
      is_found = space.are_noted.found;
      few = omega (
        arith,
        few,
        dates_few choice (fields_read space.reads) few,
        length-map space.reads (λ (read : RecordRead). read.fields),
        space.few,
      );
    }

-- what is not known below the names
pub unknown_found : (choice : SheetChoice) (records : List Fields) (reads : List RecordRead) (most : ℕ) (notes :
    SheetNotes)
    (result : Result Unknown SheetCause) → choice.above < length records → fields_read reads ≡ below choice records
    → length reads ≤ record_limit → HasNotes choice reads most notes → result ≡ unknown_of notes.found
    → IfOk result (λ u. IsUnknown choice records most (map name_seen u.names.items) u.more u.unread)
    × IfErr result (λ c. c ≡ NoMemory)
unknown_found choice records reads most notes result named all few noted is =
    subst (λ (r : Result Unknown SheetCause). IfOk r (λ u. IsUnknown choice records most (map name_seen u.names.items)
    u.more u.unread) × IfErr r (λ c. c ≡ NoMemory)) (sym is) (by_lost notes.found.is_lost refl)
  where
    by_lost : (lost : Bool) → notes.found.is_lost ≡ lost
        → IfOk (unless_lost lost notes.found) (λ u. IsUnknown choice records most (map name_seen u.names.items) u.more
        u.unread) × IfErr (unless_lost lost notes.found) (λ c. c ≡ NoMemory)
    by_lost true e = (tt, refl)
    by_lost false e = (
      record {
        has_names = named;
        limited = omega (arith, ap length all, length-map reads (λ (read : RecordRead). read.fields), few);
        found = subst (λ (xs : List Fields). IsFound choice (all_dates choice xs) most
            (map name_seen notes.found.names.listed.items) notes.found.names.more notes.found.unread) all
            (record {
              stops = noted.found.stops;
              are_stops = noted.found.are_stops;
              named = noted.found.named e;
              counts = noted.found.counts;
            });
      },
      tt,
    )
