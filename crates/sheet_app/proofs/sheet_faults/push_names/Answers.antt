-- Each turn adds the next name.
use Rattle.std.proofs.Common.{◌<◌, ◌∙◌, arith, length}
use Rattle.sheet_app.proofs.Common.{fields_of}
use Rattle.sheet_app.proofs.LineLemmas.{text_more}
use Rattle.sheet_app.proofs.sheet_faults.push_names.Goals as goal

pub names-preserved : goal.names-preserved
names-preserved c =
    let names = fields_of c.args.names.now in
    let within : c.names.index < length names = omega (arith, c.names-test.true, c.len.ensures, c.min-index-end.ensures) in
    c.in_ok-push_listed.ensures
    ∙ text_more c.names.line.items c.args.line.now.items names c.names.index c.field_at.result.now within c.field_at.ensures
    c.names.invariant
