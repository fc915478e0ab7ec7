use Rattle.std.proofs.Common.{◌≡◌, ◌≤◌, ◌+◌, ◌++◌, vec_capacity, vec_len}
use Rattle.sheet_app.proofs.Common.{AllZip, into_iter_items}
use Rattle.std.specs.Vec.Iter.{into_iter_len}
use Rattle.sheet_app.specs.EndedSheets.{AreReported}
use Rattle.sheet_app.specs.private.Conversions.{lines_by, task_by}
use Rattle.sheet_app.specs.private.EndedSheets.{IsEndOf}
use Rattle.sheet_app.proofs.converting.convert_all.Given as goal

-- the sheets so far have ended, and the others are left
abbrev pub invariant-sheets : goal.invariant-sheets
invariant-sheets g l = record {
  room : vec_len l.ended + into_iter_len l.sheet-iterator ≤ vec_capacity l.ended;
  ended : (taken : _) × (taken ++ into_iter_items l.sheet-iterator ≡ l.fn.files.sheets.items)
      × AllZip (IsEndOf g.R.Read g.W.Output (g.P.FileStore.is_named l.store) (task_by l.by) (lines_by l.by)) taken
      l.ended.items;
  reported : AreReported g.E.Output (task_by l.by) l.ended.items l.initial.errors l.errors;
  mark : g.E.Output.own_mark l.errors ≡ g.E.Output.own_mark l.initial.errors;
}
