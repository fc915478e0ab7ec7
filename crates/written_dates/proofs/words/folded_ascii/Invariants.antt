use Rattle.std.proofs.Common.{◌≡◌, ◌≤◌, length, take}
use Rattle.std.specs.Str.{str_to_ascii_lowercase}
use Rattle.written_dates.proofs.words.folded_ascii.Given as goal

abbrev pub invariant-bytes : goal.invariant-bytes
invariant-bytes l = record {
  same : l.out.items ≡ str_to_ascii_lowercase (take l.byte-index l.word);
  short : length l.out.items ≤ 64;
}
