use Rattle.std.proofs.Common.{inl, inr, rules}
use Rattle.register_records.specs.Entries.{text_records}
use Rattle.sheets.specs.AskedOfSheets.{IsChoice}
use Rattle.sheets.specs.Converted.{IsWholeSheet}
use Rattle.sheets.specs.UnknownNames.{AreUnreadIn}
use Rattle.page_module.specs.SheetTables.{EndsBy}
use Rattle.page_module.proofs.EndingLemmas.{ends_asked, ends_early}
use Rattle.page_module.proofs.sheet_tables.sheet_convert.Goals as goal

pub returns-in-Ok-clause-whole : goal.returns-in-Ok-clause-whole
returns-in-Ok-clause-whole c done =
    elim (rw c.in-Ok.is at c.made_by-made.ensures) [
      | inl early ↦ absurd early
      | inr (setup, asked, holds, (place, given, same)) ↦
          let records = text_records place.now.choice.delimiter c.args.request.now.sheet.now in
          let made : IsWholeSheet place.now.choice records c.in-Ok.made.rows c.in-Ok.made.counts c.in-Ok.made.text.items
          × AreUnreadIn place.now.choice records c.in-Ok.made.unread = search rules in
          (c.in-Ok.made.text.items, (setup.choice, asked, holds, rw same at made), search rules)
    ]

pub returns-in-Err-clause-why : goal.returns-in-Err-clause-why
returns-in-Err-clause-why c other =
    elim (rw c.in-Err.is at c.made_by-made.ensures) [
      | inl early ↦
          (c.in-Err.ending, search rules, ends_early IsChoice (λ choice holds. holds) c.args.request.now c.in-Err.ending early)
      | inr (setup, asked, holds, (place, given, same)) ↦
          let ends : IsChoice place.now.choice
          → EndsBy IsChoice place.now.choice c.args.request.now.sheet.now c.in-Err.ending = search rules in (
            c.in-Err.ending,
            search rules,
            ends_asked IsChoice c.args.request.now setup.choice asked c.in-Err.ending
                ((rw same at ends) holds),
          )
    ]
