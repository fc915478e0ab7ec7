use Rattle.register_records.proofs.Common.{◌≡◌, take, is_plain_byte, list_all}
use Rattle.register_records.proofs.entries.are_plain.Given as goal

abbrev pub invariant-bytes : goal.invariant-bytes
invariant-bytes l = record { plain : l.plain ≡ list_all is_plain_byte (take l.byte-index l.text) }
