use Rattle.std.proofs.Common.{◌≡◌, ◌++◌, map, take, AllPairs}
use Rattle.sheet_app.proofs.Common.{AllZip, string_bytes, AreTwoOutputs, place_name}
use Rattle.sheet_app.specs.FileSheets.{IsMadeFor}
use Rattle.sheet_app.proofs.file_sheets.make_registers.Given as goal

-- the outputs so far are made, and their names stand behind those before, and were told apart
abbrev pub invariant-endings : goal.invariant-endings
invariant-endings g l = record {
  made : AllZip (IsMadeFor g.W.Output (g.P.FileStore.is_made l.store) l.file)
      (map string_bytes (take l.ending-index l.endings)) l.outputs.items;
  noted : map place_name l.taken.items ≡ map place_name l.fn.taken.items
      ++ map (λ ending. l.file ++ string_bytes ending) (take l.ending-index l.endings);
  placed : map place_name l.places.items ≡ map place_name l.fn.places.items
      ++ map (λ ending. l.file ++ string_bytes ending) (take l.ending-index l.endings);
  apart : AllPairs (AreTwoOutputs (g.P.FileStore.are_apart l.store)) (map place_name l.fn.taken.items)
      → AllPairs (AreTwoOutputs (g.P.FileStore.are_apart l.store)) (map place_name l.taken.items);
}
