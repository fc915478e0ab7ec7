use Rattle.std.proofs.Common.{map, take}
use Rattle.sheet_app.specs.Answers.{AreListsIn}
use Rattle.sheet_app.proofs.program.push_files.Given as goal

-- the list has the names of the files so far
abbrev pub invariant-files : goal.invariant-files
invariant-files g l =
    AreListsIn g.R.Read (g.P.FileStore.is_opened l.store) (map (λ f. f.now) (take l.file-index l.files)) l.list.lines.items
