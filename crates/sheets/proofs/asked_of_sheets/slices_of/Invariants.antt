use Rattle.std.proofs.Common.{◌≡◌, map, take}
use Rattle.sheets.proofs.Common.{items_of}
use Rattle.sheets.proofs.asked_of_sheets.slices_of.Given as goal

abbrev pub invariant-texts : goal.invariant-texts
invariant-texts l = map (λ slice. slice.now) l.slices.items ≡ items_of (take l.text-index l.texts)
