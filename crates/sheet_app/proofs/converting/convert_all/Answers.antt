-- Each turn converts the next sheet.
use Rattle.std.proofs.Common.{rules, ◌≡◌, ◌≤◌, ◌+◌, ◌++◌, ◌∷◌, [], vec_capacity, vec_len, refl}
use Rattle.sheet_app.proofs.Common.{into_iter_items}
use Rattle.std.specs.Vec.Iter.{into_iter_len}
use Rattle.sheet_app.proofs.LineLemmas.{more_reported, none_reported}
use Rattle.sheet_app.proofs.ListLemmas.{zip_more}
use Rattle.sheet_app.proofs.converting.convert_all.Goals as goal

pub sheets-init : goal.sheets-init
sheets-init g c =
    let iterator = c.into_iter-sheet-iterator.result in
    let files = c.args.files in
    let room : vec_len files.room + into_iter_len iterator ≤ vec_capacity files.room = search rules in
    let items : into_iter_items iterator ≡ files.sheets.items = search rules in
    let none : files.room.items ≡ [] = files.none in
    record {
      room = room;
      ended = ([], items, rw none tt);
      reported = rw none (none_reported _ _ c.args.errors.now);
      mark = refl;
    }

pub sheets-preserved : goal.sheets-preserved
sheets-preserved g c =
    let sheet = c.in-Some.sheet in
    let ended = c.sheets.ended.items in
    let one = c.convert_one.result in
    let new = c.push_reserved.new.self in
    let left : into_iter_items c.sheets.sheet-iterator ≡ sheet ∷ into_iter_items c.next.new.self = search rules in
    let pushed : new.items ≡ ended ++ one ∷ [] = search rules in
    let room : vec_len new + into_iter_len c.next.new.self ≤ vec_capacity new = search rules in
    let (taken, all, zip) = c.sheets.invariant.ended in
    record {
      room = room;
      ended = zip_more _ _ taken _ _ ended _ sheet one pushed left all zip c.convert_one.ensures.ended;
      reported = more_reported _ _ ended _ one _ _ _ pushed c.sheets.invariant.reported c.convert_one.ensures.lines;
      mark = cc;
    }
