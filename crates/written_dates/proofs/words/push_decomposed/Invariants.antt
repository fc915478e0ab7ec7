use Rattle.std.proofs.Common.{take}
use Rattle.written_dates.specs.private.WordViews.{OrdersMore}
use Rattle.written_dates.proofs.words.push_decomposed.Given as goal

abbrev pub invariant-parts : goal.invariant-parts
invariant-parts l = OrdersMore l.fn.out.items l.out.items (take l.part-index l.part-items)
