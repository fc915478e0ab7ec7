-- A name is looked for as that of the day, of the weekday, of the name of the day, and of a target.
use Rattle.std.proofs.Common.{◌∙◌, ap, codes}
use Rattle.date_texts.specs.Trimmed.{trimmed}
use Rattle.sheets.specs.declared.choices.AskedColumn.TheVariants.{Cells}
use Rattle.sheet_arguments.proofs.WordLemmas.{column_by_name, no_column, never_called, not_called}
use Rattle.sheet_arguments.proofs.column_lists.column_named.Goals as goal

pub returns-in-Some : goal.returns-in-Some
returns-in-Some c = column_by_name c.args.name.now (Cells c.in-Some.target) ((c.target_named.ensures _).0 c.in-Some.is)

pub returns-in-None : goal.returns-in-None
returns-in-None c =
    let bare = c.trimmed-bare.ensures ∙ ap trimmed c.as_bytes.ensures.value in
    no_column c.args.name.now (never_called c.args.name.now c.target_named.result c.in-None.is c.target_named.ensures)
    (not_called c.trimmed-bare.result.now c.args.name.now (codes "rd") c.eq_ignore_ascii_case.result bare
    c.if-eq_ignore_ascii_case.false c.eq_ignore_ascii_case.ensures.test.1)
    (not_called c.trimmed-bare.result.now c.args.name.now (codes "weekday") c.eq_ignore_ascii_case-2.result bare
    c.if-eq_ignore_ascii_case-2.false c.eq_ignore_ascii_case-2.ensures.test.1)
    (not_called c.trimmed-bare.result.now c.args.name.now (codes "church") c.eq_ignore_ascii_case-3.result bare
    c.if-eq_ignore_ascii_case-3.false c.eq_ignore_ascii_case-3.ensures.test.1)
