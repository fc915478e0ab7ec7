use Rattle.std.proofs.Common.{◌∷◌, [], map, take}
use Rattle.sheets.proofs.Common.{records_text, list_head, name_record, name_seen}
use Rattle.sheets.specs.private.LineViews.{Begins}
use Rattle.sheets.proofs.stopped_dates.Unknown.text.Given as goal

abbrev pub invariant-names : goal.invariant-names
invariant-names l =
    Begins 44 (records_text 44 (list_head ∷ map name_record (map name_seen (take l.name-index l.self.names.items)))) [] l.lines
