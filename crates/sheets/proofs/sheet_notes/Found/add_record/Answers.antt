use Rattle.std.proofs.Common.{◌≡◌, ◌++◌, append-nil, arith, length-append, length-take, List, map, subst, sym}
use Rattle.std.proofs.Common.{take, take_all}
use Rattle.sheets.proofs.Common.{fields_of, HasFound, SheetDate, DateColumn}
use Rattle.std.proofs.lemmas.List.{length-map}
use Rattle.sheets.proofs.FoundLemmas.{dates_taken}
use Rattle.sheets.proofs.NoteLemmas.{columns_count, date_at_place}
use Rattle.sheets.proofs.RowLemmas.{no_column}
use Rattle.sheets.proofs.sheet_notes.Found.add_record.Goals as goal

pub dates-init : goal.dates-init
dates-init c dates most found =
    subst (λ (all : List SheetDate). HasFound c.args.choice.now all most c.args.self.now) (sym (append-nil dates)) found

pub dates-preserved : goal.dates-preserved
dates-preserved c dates most found =
    let columns = c.args.choice.now.dates.now in
    let fields = fields_of c.args.of_sheet.now.fields in
    let f : DateColumn → SheetDate = λ column. (column, fields) in
    subst (λ (all : List SheetDate). HasFound c.args.choice.now all most c.add_date.new.self)
    (dates_taken dates columns fields c.dates.place no_column c.dates-test.true)
    (c.add_date.ensures (dates ++ map f (take c.dates.place columns)) most (c.dates.invariant dates most found))

pub returns : goal.returns
returns c dates most found =
    let columns = c.args.choice.now.dates.now in
    let f : DateColumn → SheetDate = λ column. (column, fields_of c.args.of_sheet.now.fields) in
    let whole : take c.dates.place columns ≡ columns
    = take_all c.dates.place columns (omega (arith, c.dates-test.false)) in
    subst (λ (xs : List DateColumn). HasFound c.args.choice.now (dates ++ map f xs) most c.dates.self) whole
    (c.dates.invariant dates most found)

pub index-requires : goal.index-requires
index-requires c =
    let of_sheet = c.args.of_sheet.now in
    omega (
      arith,
      c.dates-test.true,
      columns_count c.args.choice.now of_sheet.number (fields_of of_sheet.fields) c.args.choice.now.dates.now
          of_sheet.columns.items c.requires.read,
      of_sheet.columns.ok,
    )

pub add_date-requires : goal.add_date-requires
add_date-requires c =
    let choice = c.args.choice.now in
    let columns = choice.dates.now in
    let of_sheet = c.args.of_sheet.now in
    let fields = fields_of of_sheet.fields in
    let space = c.requires.space in
    let f : DateColumn → SheetDate = λ column. (column, fields) in
    let done = map f (take c.dates.place columns) in
    let same = columns_count choice of_sheet.number fields columns of_sheet.columns.items c.requires.read in
    let is = date_at_place choice of_sheet.number fields columns of_sheet.columns.items c.dates.place no_column
    c.index.result.now c.requires.read c.dates-test.true (omega (arith, same, c.dates-test.true)) c.index.ensures in
    record {
      space = record {
        dates = space.dates ++ done;
        most = space.most;
        is_found = c.dates.invariant space.dates space.most space.is_found;
        few = omega (
          arith,
          space.few,
          length-append space.dates done,
          length-map (take c.dates.place columns) f,
          length-take c.dates.place columns,
          c.dates-test.true,
        );
      };
      read = (of_sheet.number, is);
    }
