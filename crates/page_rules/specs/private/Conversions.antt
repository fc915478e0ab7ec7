-- What private clauses say beside `specs/Conversions.antt`.
use Rattle.std.specs.Prelude.{ℕ, List, []}
use Rattle.register_records.specs.declared.ends.Cause.TheVariants as cause
use Rattle.register_records.specs.declared.ends.SourceEnd.{SourceEnd}
use Rattle.register_records.specs.declared.ends.SourceEnd.TheVariants as end

-- what is known to be a table, or a front of one, of the bytes that were made: nothing of them where the output failed,
-- which is that memory ran out for it
abbrev pub sound_part : SourceEnd → List ℕ → List ℕ
sound_part (end.Broken cause.SinkFault) made = []
sound_part other made = made
