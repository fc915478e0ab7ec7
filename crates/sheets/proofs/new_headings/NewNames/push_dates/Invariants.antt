use Rattle.std.proofs.Common.{take}
use Rattle.sheets.proofs.Common.{flat_map, fields_of, NamesMore}
use Rattle.sheets.specs.Headings.{wanted_for}
use Rattle.sheets.proofs.new_headings.NewNames.push_dates.Given as goal

abbrev pub invariant-dates : goal.invariant-dates
invariant-dates l =
    NamesMore (flat_map (wanted_for l.several (fields_of l.fn.self.own) l.spans l.columns) (take l.date-index l.dates)) l.fn.self
    l.self
