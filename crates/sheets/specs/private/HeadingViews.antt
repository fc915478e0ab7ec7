-- What a clause sees of `NewNames`.
use Rattle.std.specs.Prelude.{◌≡◌, ◌++◌, [], Bool, get_or, map}
use Rattle.csv.specs.Records.{fields_of}
use Rattle.register_records.specs.Entries.{Fields}
use Rattle.sheets.specs.Headings.{AreHeadings, items_of, wanted_heading}
use Rattle.sheets.specs.declared.choices.DateColumn.{DateColumn}
use Rattle.sheets.specs.declared.new_headings.NewNames.{NewNames}

-- the names that are taken: those of the sheet, and the new ones so far
abbrev pub taken_by : NewNames → Fields
taken_by headings = fields_of headings.own ++ items_of headings.made.items

-- these names for a column of dates, of a sheet with those of its own
abbrev pub wanted_all : Bool → DateColumn → Fields → Fields → Fields
wanted_all several date names own = map (wanted_heading several (get_or own date.date [])) names

-- new ones have come for these names wanted
pub record NamesMore (wanted : Fields) (old new : NewNames) : Type 0 where
  pub more : Fields
  pub own : new.own ≡ old.own
  pub made : items_of new.made.items ≡ items_of old.made.items ++ more
  pub named : AreHeadings (taken_by old) wanted more
