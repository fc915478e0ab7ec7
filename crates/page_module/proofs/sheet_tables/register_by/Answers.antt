use Rattle.std.proofs.Common.{◌≡◌, ◌<◌, ℕ, List, Some, arith, inl, inr, length, rules, slice_get}
use Rattle.std.proofs.lemmas.Option.{slice_get_cases}
use Rattle.sheets.specs.declared.choices.DateColumn.{DateColumn}
use Rattle.page_module.specs.SheetTables.{IsChoiceAt}
use Rattle.page_module.proofs.EndingLemmas.{ends_by_cause, made_whole}
use Rattle.page_module.proofs.sheet_tables.register_by.Goals as goal

column_there : (dates : List DateColumn) (place : ℕ) → place < length dates
    → (found : DateColumn) × (slice_get dates place ≡ Some found)
column_there dates place lt =
    elim (slice_get_cases dates place).1 [
      | inl (found, within, there, same) ↦ (found, there)
      | inr (past, none) ↦ absurd (omega (arith, past, lt))
    ]

pub returns-in-Ok-clause-whole : goal.returns-in-Ok-clause-whole
returns-in-Ok-clause-whole c =
    let lt = rw c.choice.ensures at c.if-column-choice.false in
    let (found, there) = column_there c.args.setup.now.choice.dates.now c.args.column lt in
    let made = rw c.in-Ok.is at (c.write_register-written.ensures found there) in
    let register = made_whole c.new-output.result.inner.items c.write_register-written.new.output.inner.items
    c.into_inner-text.result.items _ made.0 (search rules) (search rules) in
    (found, register.0, there, register.1)

pub returns-in-Err-clause-ends : goal.returns-in-Err-clause-ends
returns-in-Err-clause-ends c holds =
    let lt = rw c.choice.ensures at c.if-column-choice.false in
    let (found, there) = column_there c.args.setup.now.choice.dates.now c.args.column lt in
    let made = rw c.in-Err.is at (c.write_register-written.ensures found there) in
    ends_by_cause (IsChoiceAt c.args.column) c.args.sheet.now c.args.setup.now.choice c.in-Err.cause c.ending_of.result
    c.ending_of.ensures (holds, lt) (λ is. (rw is at made).1.1) (λ is. (rw is at made).0.1.more)
