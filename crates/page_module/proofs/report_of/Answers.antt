use Rattle.std.proofs.Common.{refl}
use Rattle.page_module.proofs.report_of.Goals as goal

pub returns-in-Whole : goal.returns-in-Whole
returns-in-Whole c =
    rw c.in-Whole.is (record {
      ending_is = refl;
      length_is = refl;
      rows_are = refl;
      refused_are = refl;
      counted = rw c.in-Whole.is at c.refusal_counts-refused_with.ensures;
    })
