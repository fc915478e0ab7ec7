-- A row of the code's list as a name.
use Rattle.std.specs.Prelude.{ℕ, List}
use Rattle.std.specs.Borrow.{Bor}
use Rattle.church_year.specs.declared.feasts.Feast.{Feast}
use Rattle.church_year.specs.declared.feasts.Place.{Place}
use Rattle.church_days.specs.DayNames.{DayName, name}

abbrev pub seen : Bor (List ℕ) × Feast × Place → DayName
seen row = name row.0.now row.1 row.2
