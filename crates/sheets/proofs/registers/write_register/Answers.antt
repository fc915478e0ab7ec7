use Rattle.std.proofs.Common.{◌∙◌, List, ap, length, subst, slice_get}
use Rattle.sheets.proofs.Common.{Fields, HasReadSheet, EntryLine}
use Rattle.sheets.specs.Converted.{records_by}
use Rattle.sheets.proofs.OutputLemmas.{register_none, register_produced}
use Rattle.sheets.proofs.registers.write_register.Goals as goal

pub returns-in-Err : goal.returns-in-Err
returns-in-Err g c column there =
    let choice = c.args.setup.now.choice in
    register_none g.W.Output choice (records_by choice c.args.sheet.now) c.args.output.now
    (column, c.args.end) c.in-Err.cause c.in-Err.ensures.fault

pub returns : goal.returns
returns g c column there =
    let choice = c.args.setup.now.choice in
    let records = records_by choice c.args.sheet.now in
    let all = c.read_below-read.ensures in
    let start = c.of_register-writers.ensures in
    let made : EntryLine = record { place = c.args.place; end = c.args.end } in
    register_produced g.W.Output choice records c.read_below-read.result c.finish.result
    c.of_register-writers.result.sheet
    c.read_below-read.new.writers.sheet (column, c.args.end) c.args.output.now c.read_below-read.new.output
    c.finish.new.output all.reads c.in-Ok.ensures.opened.named
    (subst (λ (xs : List Fields). HasReadSheet choice xs all.reads c.read_below-read.result) c.in-Ok.ensures.opened.left
    all.read) (ap (λ (maker : EntryLine). slice_get choice.dates.now maker.place) start.maker ∙ there)
    (ap (λ (maker : EntryLine). maker.end) start.maker) start.waits all.takes.sheet c.finish.ensures

pub read_below-read-requires-clause-ready : goal.read_below-read-requires-clause-ready
read_below-read-requires-clause-ready g c =
    let writers = c.of_register-writers.ensures in
    record { most = 0; none_noted = writers.notes c.args.setup.now.choice; matched = ap length writers.none }
