use Rattle.register_records.proofs.Common.{◌≡◌, ◌-◌, true, length, take, drop, IsPlain, CHUNK}
use Rattle.register_records.proofs.BareLemmas.{ArePlain}
use Rattle.register_records.proofs.entries.are_plain_by_chunks.Given as goal

abbrev pub invariant-chunks : goal.invariant-chunks
invariant-chunks l =
    record {
      last : l.plain ≡ true → IsPlain (drop (length l.text - CHUNK) l.text);
      front : l.plain ≡ true → ArePlain (take l.chunk-index l.front);
    }
