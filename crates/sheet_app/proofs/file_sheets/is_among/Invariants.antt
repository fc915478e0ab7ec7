use Rattle.std.proofs.Common.{All, map, take}
use Rattle.sheet_app.proofs.Common.{place_name}
use Rattle.programs.specs.OutputNames.{IsApartFrom}
use Rattle.sheet_app.proofs.file_sheets.is_among.Given as goal

-- the names of the files so far were told apart from the output's
abbrev pub invariant-files : goal.invariant-files
invariant-files g l =
    All (λ file. IsApartFrom (g.P.FileStore.are_apart l.store) file (place_name l.place))
    (map (λ f. f.now) (take l.file-index l.files))
