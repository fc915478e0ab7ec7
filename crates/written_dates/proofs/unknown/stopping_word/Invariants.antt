use Rattle.std.proofs.Common.{◌≡◌, length}
use Rattle.written_dates.specs.Parts.{parts}
use Rattle.written_dates.specs.Names.{names_in}
use Rattle.written_dates.specs.Unknown.{first_unknown}
use Rattle.written_dates.proofs.unknown.stopping_word.Given as goal

abbrev pub invariant-items : goal.invariant-items
invariant-items l =
    first_unknown (names_in l.calendar l.names.listed.now) 0 (parts l.fn.text)
    ≡ first_unknown (names_in l.calendar l.names.listed.now) 0 (parts l.rest)

abbrev pub decreases-items : goal.decreases-items
decreases-items l = length l.rest
