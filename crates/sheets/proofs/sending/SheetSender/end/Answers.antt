use Rattle.sheets.proofs.SendingLemmas.{record_made, sent_made}
use Rattle.sheets.proofs.sending.SheetSender.end.Goals as goal

pub returns-in_ok-send-clause-made : goal.returns-in_ok-send-clause-made
returns-in_ok-send-clause-made g c begun made fields h =
    sent_made _ _ _ _ _ (c.in_ok-send.ensures.sent begun _
    (record_made _ begun _ c.args.self.now.lines c.end.new.self made fields h c.in_ok-end.ensures))

pub returns-else-written-ge-BLOCK-clause-made : goal.returns-else-written-ge-BLOCK-clause-made
returns-else-written-ge-BLOCK-clause-made g c begun made fields h =
    record_made _ begun _ c.args.self.now.lines c.end.new.self made fields h c.in_ok-end.ensures
