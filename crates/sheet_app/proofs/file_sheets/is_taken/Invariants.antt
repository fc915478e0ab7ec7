use Rattle.std.proofs.Common.{All, map, take}
use Rattle.sheet_app.proofs.Common.{AreTwoOutputs, place_name}
use Rattle.sheet_app.proofs.file_sheets.is_taken.Given as goal

-- the output was told apart from the outputs so far
abbrev pub invariant-taken : goal.invariant-taken
invariant-taken g l =
    All (λ other. AreTwoOutputs (g.P.FileStore.are_apart l.store) other (place_name l.place))
    (map place_name (take l.other-index l.taken))
