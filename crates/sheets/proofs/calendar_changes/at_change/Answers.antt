use Rattle.std.proofs.Common.{◌≡◌, Bool, false, to_z-of_z, true}
use Rattle.sheets.specs.CalendarChanges.{before, behind, left_out}
use Rattle.sheets.proofs.calendar_changes.at_change.Goals as goal

no_both : (b : Bool) → b ≡ true → b ≡ false → ⊥
no_both b is other = cc

pub returns-then-is_before : goal.returns-then-is_before
returns-then-is_before c = before ((simp (to_z-of_z, c.ranges.from) at c.is_before.ensures).0 c.if-is_before.true)

pub returns-then-is_before-2 : goal.returns-then-is_before-2
returns-then-is_before-2 c =
    left_out (λ is. no_both _ ((simp (to_z-of_z, c.ranges.from) at c.is_before.ensures).1 is) c.if-is_before.false)
    ((simp (to_z-of_z, c.ranges.from) at c.is_before-else-is_before.ensures).0 c.if-is_before-2.true)

pub returns-else-is_before-2 : goal.returns-else-is_before-2
returns-else-is_before-2 c =
    behind (λ is. no_both _ ((simp (to_z-of_z, c.ranges.from) at c.is_before.ensures).1 is) c.if-is_before.false)
    (λ is. no_both _ ((simp (to_z-of_z, c.ranges.from) at c.is_before-else-is_before.ensures).1 is) c.if-is_before-2.false)
