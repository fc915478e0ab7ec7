use Rattle.std.proofs.Common.{◌≡◌, ◌<◌, take}
use Rattle.written_dates.specs.private.Keys.{key_of_chars}
use Rattle.written_dates.proofs.names.key_of_chars.Given as goal

abbrev pub invariant-chars : goal.invariant-chars
invariant-chars l = record {
  value : l.value ≡ key_of_chars (take l.c-index l.chars);
  small : l.value < 16384;
}
