use Rattle.std.proofs.Common.{◌≡◌, ◌++◌, map}
use Rattle.sheet_app.proofs.Common.{string_bytes}
use Rattle.std.specs.List.{range_with_len}
use Rattle.sheet_app.specs.FileSheets.{register_ending}
use Rattle.sheet_app.proofs.file_sheets.push_numbered.Given as goal

-- the endings so far
abbrev pub invariant-columns : goal.invariant-columns
invariant-columns l =
    map string_bytes l.endings.items ≡ map string_bytes l.fn.endings.items
    ++ map (register_ending l.part) (range_with_len 1 l.index)
