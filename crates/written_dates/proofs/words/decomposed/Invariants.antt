use Rattle.std.proofs.Common.{◌≡◌, ◌≤◌, flat_map, length}
use Rattle.unicode_normalization.specs.Decompose.{decompose_canonical}
use Rattle.unicode_normalization.specs.Order.{canonical_order}
use Rattle.written_dates.proofs.words.decomposed.Given as goal

abbrev pub invariant-chars : goal.invariant-chars
invariant-chars l = record {
  same : l.out.items ≡ canonical_order (flat_map decompose_canonical l.yielded);
  short : length l.out.items ≤ 64;
}
