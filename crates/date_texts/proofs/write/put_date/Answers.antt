use Rattle.std.proofs.Common.{arith}
use Rattle.date_texts.proofs.Common.{Long}
use Rattle.date_texts.proofs.CanonicalTextLemmas.{canonical_short}
use Rattle.date_texts.proofs.write.put_date.Goals as goal

pub returns-in-Long-clause-few : goal.returns-in-Long-clause-few
returns-in-Long-clause-few c = omega (arith, (canonical_short (Long c.in-Long.count)).few, c.put_long.ensures.follows)
