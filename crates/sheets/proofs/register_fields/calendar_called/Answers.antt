use Rattle.std.proofs.Common.{sym}
use Rattle.std.proofs.lemmas.Str.{is_utf8-from_IsUtf8}
use Rattle.register_records.proofs.FieldLemmas.{no_utf8}
use Rattle.sheets.proofs.NameLemmas.{called_by, none_called}
use Rattle.sheets.proofs.register_fields.calendar_called.Goals as goal

pub returns-in-Ok : goal.returns-in-Ok
returns-in-Ok c =
    let (same, text) = c.in-Ok.ensures.cases in
    called_by c.args.text.now _ (is_utf8-from_IsUtf8 _ text) (rw same at c.calendar_named.ensures)

pub returns-in-Err : goal.returns-in-Err
returns-in-Err c = sym (none_called c.args.text.now (no_utf8 c.args.text.now c.in-Err.ensures.cases.0))
