use Rattle.std.proofs.Common.{◌≡◌, ◌++◌, ◌∷◌, [], List, ap, append-nil, arith, map, refl, sym, subst, take_all, take}
use Rattle.csv.specs.Writing.{default_writer, row_text}
use Rattle.family_trees.specs.DateViews.{date_seen}
use Rattle.family_trees.specs.private.SheetViews.{Holds}
use Rattle.family_trees.specs.Trees.{DateOfTree}
use Rattle.family_trees.specs.declared.dates.TreeDate.{TreeDate}
use Rattle.family_trees.specs.TreeSheets.{date_record, records_text, tree_head}
use Rattle.family_trees.proofs.TreeSheetLemmas.{one_date_more, text_known}
use Rattle.family_trees.proofs.tree_sheets.sheet_of.Goals as goal

pub dates-init : goal.dates-init
dates-init c =
    let from = c.from_writer-sheet.ensures in
    subst (λ text. Holds text c.write_head.new.sheet) (sym (append-nil (row_text default_writer tree_head)))
    (c.in_ok-write_head.ensures [] (record {
      written = rw (from.wtr, c.new.ensures.items, from.empty) refl;
      setup = from.cfg;
      fields = from.fields;
      wrote = from.wrote;
    }))

pub dates-preserved : goal.dates-preserved
dates-preserved c =
    let dates = c.args.dates.now in
    let done = records_text (tree_head ∷ map date_record (map date_seen (take c.dates.date-index dates))) in
    subst (λ text. Holds text c.write_date.new.sheet) (one_date_more dates c.dates.date-index _ c.dates-test.true)
    (subst (λ (date : TreeDate). Holds (done ++ row_text default_writer (date_record (date_seen date)))
    c.write_date.new.sheet) c.date-item.is (c.in_ok-write_date.ensures _ c.dates.invariant))

pub returns : goal.returns
returns c =
    let dates = c.args.dates.now in
    let all : map date_seen (take c.dates.date-index dates) ≡ map date_seen dates
    = ap (map date_seen) (take_all c.dates.date-index dates (omega (arith, c.dates-test.false))) in
    text_known c.text_of.result _ _ c.dates.sheet c.text_of.ensures c.dates.invariant
    (ap (λ (xs : List DateOfTree). records_text (tree_head ∷ map date_record xs)) all)
