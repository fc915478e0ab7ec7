use Rattle.std.proofs.Common.{◌≡◌, ℕ, Some, inl, inr, rules, slice_get}
use Rattle.register_records.specs.Entries.{text_records}
use Rattle.sheets.specs.AskedOfSheets.{IsChoice}
use Rattle.sheets.specs.Registers.{IsRegister}
use Rattle.sheets.specs.declared.choices.DateColumn.{DateColumn}
use Rattle.page_module.specs.SheetTables.{EndsBy, IsChoiceAt}
use Rattle.page_module.proofs.EndingLemmas.{ends_asked, ends_early}
use Rattle.page_module.proofs.sheet_tables.sheet_register.Goals as goal

pub returns-in-Ok-clause-whole : goal.returns-in-Ok-clause-whole
returns-in-Ok-clause-whole c done =
    elim (rw c.in-Ok.is at c.made_by-made.ensures) [
      | inl early ↦ absurd early
      | inr (setup, asked, holds, (place, given, same)) ↦
          let made : (found : DateColumn) × (count : ℕ) × (slice_get place.now.choice.dates.now c.args.column ≡ Some found)
          × IsRegister place.now.choice found c.end_of-end.result
          (text_records place.now.choice.delimiter c.args.request.now.sheet.now) count c.in-Ok.text.items = search rules in
          (c.in-Ok.text.items, (setup.choice, asked, holds, rw (same, c.end_of-end.ensures) at made), search rules)
    ]

pub returns-in-Err-clause-why : goal.returns-in-Err-clause-why
returns-in-Err-clause-why c other =
    let P = IsChoiceAt c.args.column in
    elim (rw c.in-Err.is at c.made_by-made.ensures) [
      | inl early ↦
          (c.in-Err.ending, search rules, ends_early P (λ choice holds. holds.0) c.args.request.now c.in-Err.ending early)
      | inr (setup, asked, holds, (place, given, same)) ↦
          let ends : IsChoice place.now.choice
          → EndsBy P place.now.choice c.args.request.now.sheet.now c.in-Err.ending = search rules in (
            c.in-Err.ending,
            search rules,
            ends_asked P c.args.request.now setup.choice asked c.in-Err.ending
                ((rw same at ends) holds),
          )
    ]
