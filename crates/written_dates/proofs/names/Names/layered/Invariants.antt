use Rattle.std.proofs.Common.{◌≤◌, length}
use Rattle.written_dates.specs.private.Keys.{IsIndexed, key}
use Rattle.written_dates.proofs.names.Names.layered.Given as goal

abbrev pub invariant-names : goal.invariant-names
invariant-names l = record {
  within : l.place ≤ length l.listed;
  indexed : IsIndexed key l.listed l.firsts.items l.nexts.items l.place;
}

abbrev pub decreases-names : goal.decreases-names
decreases-names l = l.place
