use Rattle.std.proofs.Common.{All, take, flat_map}
use Rattle.sheet_app.proofs.Common.{string_bytes, task_of, IsNoInput, ending_of, names_ending}
use Rattle.sheet_app.proofs.file_sheets.check_inputs_kept.Given as goal

-- no output of the files so far is an input
abbrev pub invariant-files : goal.invariant-files
invariant-files g l =
    All (IsNoInput (g.P.FileStore.are_apart l.store) (task_of l.job))
    (flat_map (λ file. names_ending (ending_of (task_of l.job)) string_bytes l.endings file.now)
    (take l.file-index l.files))
