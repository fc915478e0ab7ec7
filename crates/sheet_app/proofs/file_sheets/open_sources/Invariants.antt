use Rattle.std.proofs.Common.{◌≡◌, All, map, take}
use Rattle.sheet_app.proofs.Common.{source_name}
use Rattle.sheet_app.proofs.file_sheets.open_sources.Given as goal

-- the sources are those of the files so far
abbrev pub invariant-files : goal.invariant-files
invariant-files g l = record {
  named : map source_name l.sources.items ≡ take l.name-index (map (λ f. f.now) l.files);
  opened : All (λ opened. g.P.FileStore.is_opened l.store opened.name.now opened.source) l.sources.items;
}
