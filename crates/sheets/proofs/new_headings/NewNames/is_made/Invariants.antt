use Rattle.std.proofs.Common.{◌≡◌, drop}
use Rattle.sheets.proofs.Common.{is_taken, items_of}
use Rattle.sheets.proofs.new_headings.NewNames.is_made.Given as goal

abbrev pub invariant-made : goal.invariant-made
invariant-made l =
    is_taken (items_of (drop l.made-index l.self.made.items)) l.name ≡ is_taken (items_of l.self.made.items) l.name
