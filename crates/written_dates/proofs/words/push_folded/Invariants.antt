use Rattle.std.proofs.Common.{take, flat_map}
use Rattle.unicode_normalization.specs.Decompose.{decompose_canonical}
use Rattle.written_dates.specs.private.WordViews.{OrdersMore}
use Rattle.written_dates.proofs.words.push_folded.Given as goal

abbrev pub invariant-parts : goal.invariant-parts
invariant-parts l = OrdersMore l.fn.out.items l.out.items (flat_map decompose_canonical (take l.part-index l.folding))
