-- What a clause sees of a `Place`.
use Rattle.std.specs.Prelude.{ℕ, List}
use Rattle.std.specs.String.{string_bytes}
use Rattle.programs.specs.declared.places.Place.{Place}

-- the name of the output
abbrev pub place_name : Place → List ℕ
place_name place = string_bytes place.name
