use Rattle.std.proofs.Common.{[]}
use Rattle.sheets.proofs.Common.{records_text}
use Rattle.sheets.proofs.SendingLemmas.{all_sent}
use Rattle.sheets.proofs.sending.SheetSender.send.Goals as goal

pub returns-clause-sent : goal.returns-clause-sent
returns-clause-sent g c begun made h =
    let d = c.args.self.now.delimiter in
    let waiting = records_text d h.waiting in
    all_sent d begun _ _ c.args.self.now.lines c.clear.new.self made c.as_slice.result.now h
    (c.as_slice.ensures d waiting h.held) c.in_ok-send.ensures.ok (c.clear.ensures d waiting [] h.held)
