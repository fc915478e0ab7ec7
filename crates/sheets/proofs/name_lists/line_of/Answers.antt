use Rattle.std.proofs.Common.{refl, rules}
use Rattle.sheets.proofs.name_lists.line_of.Goals as goal

pub returns-in_default-clause-fault : goal.returns-in_default-clause-fault
returns-in_default-clause-fault c =
    (refl, λ utf8. let why = rw c.in_default.is at c.from_utf8.ensures.cases in absurd (why.0 (rw c.field_at.ensures utf8)))

pub returns-in_default-from_utf8-clause-fault : goal.returns-in_default-from_utf8-clause-fault
returns-in_default-from_utf8-clause-fault c = (
  refl,
  (c.in-Some.means, search rules),
  λ utf8. let why = rw c.in_default-from_utf8.is at c.from_utf8-2.ensures.cases in
      absurd (why.0 (rw c.field_at-2.ensures utf8)),
)
