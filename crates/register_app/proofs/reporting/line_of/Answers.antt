-- Each end has the line of its kind.
use Rattle.std.proofs.Common.{refl}
use Rattle.register_app.proofs.reporting.line_of.Goals as goal

pub returns-in-Broken : goal.returns-in-Broken
returns-in-Broken c = rw c.in-Broken.is c.line_of_broken.ensures

pub returns-then-summary : goal.returns-then-summary
returns-then-summary c = rw (c.if-summary.true, c.in-Whole.is, ← c.as_slice.ensures.value) c.line_of_whole.ensures

pub returns-else-summary : goal.returns-else-summary
returns-else-summary c = rw (c.if-summary.false, c.in-Whole.is) refl
