use Rattle.std.proofs.Common.{◌≡◌, ◌≤◌, length, take}
use Rattle.unicode_normalization.specs.Order.{canonical_order}
use Rattle.written_dates.proofs.WordLemmas.{again}
use Rattle.written_dates.proofs.words.refolded.Given as goal

abbrev pub invariant-chars : goal.invariant-chars
invariant-chars l = record {
  same : l.out.items ≡ canonical_order (again (take l.c-index l.text));
  short : length l.out.items ≤ 64;
}
