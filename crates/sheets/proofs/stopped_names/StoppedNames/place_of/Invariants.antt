use Rattle.std.proofs.Common.{◌≡◌, false, map, take}
use Rattle.sheets.proofs.Common.{list_any, is_alike}
use Rattle.sheets.specs.UnknownViews.{name_seen}
use Rattle.sheets.specs.private.UnknownViews.{named}
use Rattle.sheets.proofs.stopped_names.StoppedNames.place_of.Given as goal

abbrev pub invariant-names : goal.invariant-names
invariant-names l =
    list_any (λ name. is_alike name (name_seen l.stop)) (take l.place (map named l.self.listed.items)) ≡ false
