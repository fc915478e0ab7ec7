use Rattle.std.proofs.Common.{◌≡◌, All, map, take, true}
use Rattle.sheet_app.proofs.Common.{place_name}
use Rattle.sheet_app.proofs.converting.give_names.Given as goal

-- where all is well so far, the outputs so far have their names
abbrev pub invariant-places : goal.invariant-places
invariant-places g l = l.are_named ≡ true
    → All (g.P.FileStore.is_named l.store) (map place_name (take l.place-index l.places))
