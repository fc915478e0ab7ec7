use Rattle.written_dates.proofs.WordLemmas.{IsPlace}
use Rattle.written_dates.proofs.words.place_of.Given as goal

abbrev pub invariant-places : goal.invariant-places
invariant-places l = IsPlace l.chars l.fn.c l.place

abbrev pub decreases-places : goal.decreases-places
decreases-places l = l.place
