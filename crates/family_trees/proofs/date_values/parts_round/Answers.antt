use Rattle.std.proofs.Common.{arith}
use Rattle.family_trees.proofs.PlaceLemmas.{found_here, place_later}
use Rattle.family_trees.proofs.date_values.parts_round.Goals as goal

pub returns-in-Some : goal.returns-in-Some
returns-in-Some c =
    found_here c.args.part.now c.args.text.now c.in-Some.behind.now c.places.place (omega (arith, c.places-test.true))
    c.in-Some.ensures.0 c.in-Some.ensures.1 c.places.invariant.1

pub places-preserved : goal.places-preserved
places-preserved c = (
  omega (arith, c.places-test.true),
  place_later c.args.part.now c.args.text.now c.places.place (omega (arith, c.places-test.true))
      c.in_default.ensures c.places.invariant.1,
)
