-- What a report of days says of a register that was gone over.
use Rattle.std.proofs.Common.{◌≡◌, ◌≢◌, ◌<◌, ◌∙◌, ℕ, List, [], Result, Ok, Err, ap, arith, inl, inr, length, refl, rules}
use Rattle.std.proofs.Common.{Some, sym}
use Rattle.std.proofs.Math.Logic.{∥∥₁_map}
use Rattle.std.specs.Prelude.{IfErr, OnOk}
use Rattle.page_rules.specs.EntryDays.{ArePartOf, HasDays, PutsDays}
use Rattle.page_rules.specs.declared.entry_days.EntryDay.{EntryDay}
use Rattle.register_records.specs.Entries.{HasAllEntries, HasEntries, HasNoHeader, HasTooMany, IsNotSealed, Numbered}
use Rattle.register_records.specs.Entries.{Reading, record_limit}
use Rattle.register_records.specs.Sources.{cause_number}
use Rattle.register_records.specs.declared.ends.Cause.{Cause}
use Rattle.register_records.specs.declared.ends.Cause.TheVariants as cause
use Rattle.register_records.specs.declared.setups.Form.TheVariants.{Sealed}
use Rattle.page_module.specs.DayReports.{GoesOver, PutsEntries, PutsNoDays, Rooms}
use Rattle.page_module.specs.private.DayReports.{ending_by}
use Rattle.page_module.specs.declared.sheet_texts.PutReport.{PutReport}

-- each cause has a number of its own, from 1
some_number : (c : Cause) → 0 < cause_number c
some_number c = search rules

same_cause : (c d : Cause) → cause_number c ≡ cause_number d → c ≡ d
same_cause c d e = search rules

-- what holds of a register that was gone over as a whole, and of one that broke off
pub of_whole : (r : Result Unit Cause) (P : Type 0) → ending_by r ≡ 0 → OnOk r P → P
of_whole (Ok done) P e h = h
of_whole (Err c) P e h = absurd (omega (arith, some_number c, e))

pub of_broken : (r : Result Unit Cause) (P : Cause → Type 0) → ending_by r ≢ 0 → IfErr r P
    → (c : Cause) × (ending_by r ≡ cause_number c) × P c
of_broken (Ok done) P other h = absurd (other refl)
of_broken (Err c) P other h = (c, refl, h)

pub of_cause : (r : Result Unit Cause) (d : Cause) (P : Type 0) → ending_by r ≡ cause_number d
    → IfErr r (λ c. c ≡ d → P) → P
of_cause (Ok done) d P e h = absurd (omega (arith, some_number d, e))
of_cause (Err c) d P e h = h (same_cause c d e)

module _ (old new : Rooms) (report : PutReport) (days : List EntryDay)
    (put : PutsDays days old.0 new.0 old.1 new.1) (counted : report.length ≡ length days) where
  pub puts : (Is : List Numbered → Type 0) → ∥ HasDays Is [] days ∥₁ → ∥ PutsEntries Is old new report ∥₁
  puts Is has = ∥∥₁_map has (λ h. (days, h, put, counted))

  pub puts_none : days ≡ [] → PutsNoDays old new report
  puts_none e =
      let none : length days ≡ 0 = ap length e in
      let rooms = rw e at (put.put (omega (arith, none)) (omega (arith, none))) in
      (counted ∙ none, rooms.0, rooms.1)

-- what is found in a register, with no targets
pub record IsFound (reading : Reading) (text : List ℕ) (r : Result Unit Cause) (days : List EntryDay) : Type 0 where
  pub whole : OnOk r (∥ HasDays (HasEntries reading (Some text)) [] days ∥₁)
  pub part : IfErr r (λ c. ∥ ArePartOf reading [] text days ∥₁)
  pub bad_header : IfErr r (λ c. c ≡ cause.BadHeader → HasNoHeader reading text × (days ≡ []))
  pub too_many : IfErr r (λ c. c ≡ cause.TooManyRecords → ∥ HasTooMany reading text ∥₁ × (length days ≡ record_limit))
  pub not_sealed : IfErr r (λ c. c ≡ cause.NotSealed → (reading.form ≡ Sealed) × ∥ IsNotSealed reading text ∥₁
      × ∥ HasDays (HasAllEntries reading (Some text)) [] days ∥₁)
  pub never : IfErr r (λ c. (c ≢ cause.NoThread) × (c ≢ cause.Unconfirmed) × (c ≢ cause.SinkFault))

pub gone_over : (reading : Reading) (text : List ℕ) (old new : Rooms) (report : PutReport) (r : Result Unit Cause)
    (days : List EntryDay) → PutsDays days old.0 new.0 old.1 new.1 → report.length ≡ length days
    → report.ending ≡ ending_by r → IsFound reading text r days → GoesOver reading text old new report
gone_over reading text old new report r days put counted ending found =
    let put_entries = puts old new report days put counted in
    let put_none = puts_none old new report days put counted in
    record {
      whole = λ e. put_entries (HasEntries reading (Some text)) (of_whole r _ (sym ending ∙ e) found.whole);
      broken = λ other.
          let (c, is, never) = of_broken r _ (λ e. other (ending ∙ e)) found.never in
          (c, ending ∙ is, never.0, never.1, never.2);
      part = λ other.
          let (c, is, part) = of_broken r _ (λ e. other (ending ∙ e)) found.part in
          ∥∥₁_map part (λ p. elim p [
            | inl none ↦ inl (put_none none)
            | inr some ↦ inr (days, some, put, counted)
          ]);
      bad_header = λ e.
          let (header, none) = of_cause r cause.BadHeader _ (sym ending ∙ e) found.bad_header in
          (header, put_none none);
      too_many = λ e.
          let (many, all) = of_cause r cause.TooManyRecords _ (sym ending ∙ e) found.too_many in
          (many, counted ∙ all);
      not_sealed = λ e.
          let (form, seal, all) = of_cause r cause.NotSealed _ (sym ending ∙ e) found.not_sealed in
          (form, seal, put_entries (HasAllEntries reading (Some text)) all);
    }
