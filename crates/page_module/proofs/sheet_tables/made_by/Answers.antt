use Rattle.std.proofs.Common.{◌∙◌, ap, inl, inr, map, rules}
use Rattle.std.proofs.lemmas.Result.{err_from_is_err_and}
use Rattle.written_dates.specs.Fields.{bare_name}
use Rattle.sheets.specs.Headings.{items_of}
use Rattle.sheets.specs.AskedOfSheets.{asked_in}
use Rattle.page_module.proofs.EndingLemmas.{choice_asked}
use Rattle.page_module.proofs.sheet_tables.made_by.Goals as goal

pub returns : goal.returns
returns g c =
    let known = c.in_ok-known.ensures in
    let asks = choice_asked c.args.request.now c.in_ok-known.known (asked_in c.in-Some.asked)
    c.in_ok-list.list.lines.items c.in_ok-names.names.items c.in_ok-calendars.calendars.items
    (items_of c.in_ok-headings.headings.items) (search rules) (search rules) (search rules) (search rules) (search rules)
    (ap asked_in known.asked) (known.names ∙ c.as_slice.ensures.value)
    (known.calendars ∙ ap (map bare_name) c.as_slice-2.ensures.value)
    (known.headings ∙ ap items_of c.as_slice-3.ensures.value) in
    elim c.by_setup.ensures [
      | inl early ↦
          let (why, is, (e, (choice, by, refused))) = err_from_is_err_and c.by_setup.result early in
          inl (rw (is, e) (inr (choice, asks choice by, refused)))
      | inr (setup, is, holds, made) ↦ inr (setup, asks setup.choice is, holds, made)
    ]
