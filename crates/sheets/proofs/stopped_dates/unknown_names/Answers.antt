use Rattle.std.proofs.Common.{◌∙◌, [], ap, length}
use Rattle.sheets.specs.Converted.{records_by}
use Rattle.sheets.proofs.NoteLemmas.{unknown_found}
use Rattle.sheets.proofs.stopped_dates.unknown_names.Goals as goal

pub read_below-requires-clause-ready : goal.read_below-requires-clause-ready
read_below-requires-clause-ready c =
    let writers = c.of_notes-writers.ensures in
    record {
      most = c.args.most;
      none_noted = writers.notes c.args.setup.now.choice;
      matched = ap length writers.none;
    }

pub returns-clause-found : goal.returns-clause-found
returns-clause-found c =
    let choice = c.args.setup.now.choice in
    let opened = c.in-Ok.ensures.opened in
    let all = c.in_ok-read_below.ensures in
    (unknown_found choice (records_by choice c.args.sheet.now) all.reads c.args.most
    c.read_below.new.writers.notes c.unknown_of.result opened.named (all.read.all ∙ opened.left)
    all.read.few (all.takes.notes [] c.args.most (c.of_notes-writers.ensures.notes choice)) c.unknown_of.ensures).0
