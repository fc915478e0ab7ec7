use Rattle.std.proofs.Common.{◌≡◌, ◌<◌, ℕ, get_or, take, true}
use Rattle.std.specs.Str.{str_to_ascii_lowercase}
use Rattle.written_dates.specs.private.Keys.{key_of_chars}
use Rattle.written_dates.proofs.names.key_of_bytes.Given as goal

abbrev pub invariant-bytes : goal.invariant-bytes
invariant-bytes l = record {
  value : l.value ≡ key_of_chars (str_to_ascii_lowercase (take l.byte-index l.bytes));
  small : l.value < 16384;
  ascii : l.is_ascii ≡ true → (k : ℕ) → k < l.byte-index → get_or l.bytes k 0 < 128;
}
