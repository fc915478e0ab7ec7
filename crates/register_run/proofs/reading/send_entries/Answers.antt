use Rattle.register_run.proofs.Common.{reading_of}
use Rattle.register_run.proofs.StripeLemmas.{dealt_none}
use Rattle.register_run.proofs.GivenLemmas.{sends_none}
use Rattle.register_run.proofs.reading.send_entries.Goals as goal

pub returns-in-Err : goal.returns-in-Err
returns-in-Err g c =
    sends_none (g.R.Read.remaining c.args.source)
    (reading_of c.args.setup.now) c.in-Err.fault c.from.result c.from.ensures c.in-Err.ensures.bad
    c.in-Err.ensures.never.0 c.in-Err.ensures.never.2 c.stopped_after.result c.stopped_after.ensures
    c.args.senders.now.items (λ w. dealt_none w 0 c.args.senders.now.items c.requires.fresh)

pub returns-in-Ok : goal.returns-in-Ok
returns-in-Ok g c =
    rw (← c.in-Ok.ensures.text.0, ← c.in-Ok.ensures.text.1) c.send_opened-sent.ensures
