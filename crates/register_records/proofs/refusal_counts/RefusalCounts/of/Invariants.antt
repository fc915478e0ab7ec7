use Rattle.std.proofs.Common.{take}
use Rattle.register_records.specs.RefusalCounts.{AreCounts}
use Rattle.register_records.proofs.refusal_counts.RefusalCounts.of.Given as goal

abbrev pub invariant-notes : goal.invariant-notes
invariant-notes l = AreCounts l.counts (take l.note-index l.journal)
