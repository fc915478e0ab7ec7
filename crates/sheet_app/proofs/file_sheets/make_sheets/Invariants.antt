use Rattle.std.proofs.Common.{◌≡◌, ◌++◌, All, map, AllPairs, flat_map}
use Rattle.sheet_app.proofs.Common.{string_bytes, into_iter_items, task_of, AreTwoOutputs, place_name, IsNewSheet}
use Rattle.sheet_app.proofs.Common.{ending_of, names_ending, sheet_name, source_name}
use Rattle.sheet_app.proofs.file_sheets.make_sheets.Given as goal

-- the sheets so far are made, all have their names in order, and the names of outputs were told apart
abbrev pub invariant-sources : goal.invariant-sources
invariant-sources g l = record {
  named : map sheet_name l.sheets.items ++ map source_name (into_iter_items l.opened-iterator)
      ≡ map source_name l.fn.sources.items;
  opened : All (λ opened. g.P.FileStore.is_opened l.store opened.name.now opened.source)
      (into_iter_items l.opened-iterator);
  made : All (IsNewSheet g.W.Output (g.P.FileStore.is_opened l.store) (g.P.FileStore.is_made l.store) (task_of l.job)
      (map string_bytes l.endings)) l.sheets.items;
  noted : map place_name l.taken.items
      ++ flat_map (λ opened. names_ending (ending_of (task_of l.job)) string_bytes l.endings (source_name opened))
      (into_iter_items l.opened-iterator)
      ≡ flat_map (λ opened. names_ending (ending_of (task_of l.job)) string_bytes l.endings (source_name opened))
      l.fn.sources.items;
  apart : AllPairs (AreTwoOutputs (g.P.FileStore.are_apart l.store)) (map place_name l.taken.items);
}
