use Rattle.std.proofs.Common.{refl, inl, inr}
use Rattle.lunar_calendars.proofs.YearLengthLemmas.{three}
use Rattle.lunar_calendars.proofs.hebrew.months_of_length.Goals as goal

pub returns-then-leap-clause-numbered : goal.returns-then-leap-clause-numbered
returns-then-leap-clause-numbered c =
    let length = rw c.if-leap.true at c.requires in
    elim (three 383 c.args.days length.0 length.1) [
      | inl e ↦ rw e refl
      | inr e ↦ elim e
          [ inl f ↦ rw f refl | inr f ↦ rw f refl ]
    ]

pub returns-else-leap-clause-numbered : goal.returns-else-leap-clause-numbered
returns-else-leap-clause-numbered c =
    let length = rw c.if-leap.false at c.requires in
    elim (three 353 c.args.days length.0 length.1) [
      | inl e ↦ rw e refl
      | inr e ↦ elim e
          [ inl f ↦ rw f refl | inr f ↦ rw f refl ]
    ]
