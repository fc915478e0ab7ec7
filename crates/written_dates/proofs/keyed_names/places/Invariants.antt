use Rattle.std.proofs.Common.{◌≤◌, length}
use Rattle.written_dates.specs.private.Keys.{IsIndexed, calendar_key}
use Rattle.written_dates.proofs.keyed_names.places.Given as goal

abbrev pub invariant-names : goal.invariant-names
invariant-names l = record {
  within : l.place ≤ length l.names;
  indexed : IsIndexed calendar_key l.names l.firsts.items l.nexts.items l.place;
}

abbrev pub decreases-names : goal.decreases-names
decreases-names l = l.place
