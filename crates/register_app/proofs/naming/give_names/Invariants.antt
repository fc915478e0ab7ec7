use Rattle.std.proofs.Common.{◌≡◌, map}
use Rattle.programs.specs.Places.{place_name}
use Rattle.register_app.proofs.NamingLemmas.{AreNamedSoFar}
use Rattle.register_app.proofs.naming.give_names.Given as goal

-- the tables so far have their names, or were reported
abbrev pub invariant-places : goal.invariant-places
invariant-places g l =
    AreNamedSoFar g.E.Output (g.P.FileStore.is_named l.store) (map place_name l.places) l.place-index l.are_named
    l.initial.errors l.errors
    × (g.E.Output.own_mark l.errors ≡ g.E.Output.own_mark l.initial.errors)
