use Rattle.std.proofs.Common.{◌++◌, All, map, take}
use Rattle.sheet_app.proofs.Common.{string_bytes, task_of, IsNoInput}
use Rattle.sheet_app.proofs.file_sheets.check_outputs_kept.Given as goal

-- no output for a register so far is an input
abbrev pub invariant-endings : goal.invariant-endings
invariant-endings g l =
    All (IsNoInput (g.P.FileStore.are_apart l.store) (task_of l.job))
    (map (λ ending. l.file ++ string_bytes ending) (take l.ending-index l.endings))
