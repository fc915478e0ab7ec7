use Rattle.register_run.proofs.Common.{◌∙◌, arith, length-append, refl, sym, rules}
use Rattle.register_run.proofs.Common.{length-set, given_of, sender_lane}
use Rattle.register_records.proofs.TableLemmas.{numbered_more}
use Rattle.register_run.proofs.StripeLemmas.{dealt_none, dealt_send, dealt_unsent, set_same}
use Rattle.register_run.proofs.GivenLemmas.{sends_all, sends_gone, sends_stopped}
use Rattle.register_run.proofs.reading.send_opened.Goals as goal

pub returns-in-Ok-false : goal.returns-in-Ok-false
returns-in-Ok-false g c =
    let inv = c.loop.invariant in
    let reads = rw c.in-Ok-false.field-0-test at c.in-Ok-false.ensures.reads in
    sends_all _ _ _ _ (reads.text.0 ∙ inv.text) (reads.text.1 ∙ inv.by) _ _ (reads.ends refl).1 inv.numbered
    c.read_next.new.self.first _ _ inv.lanes inv.deals (reads.all refl) _ _ inv.count
    refl refl

pub returns-in-Err : goal.returns-in-Err
returns-in-Err g c =
    let inv = c.loop.invariant in let new = c.read_next.new.self in
    let reads = c.in-Err.ensures.reads in
    sends_stopped _ _ _ _ (c.read_next.ensures.reads.text.0 ∙ inv.text) (c.read_next.ensures.reads.text.1 ∙ inv.by)
    (given_of new) _ reads.kept inv.numbered new.first _ _ inv.lanes inv.deals
    c.in-Err.fault _ c.from.ensures reads.no_header reads.many reads.not_sealed reads.above
    c.stopped_after.result (c.stopped_after.ensures.0 ∙ inv.count) c.stopped_after.ensures.1

pub returns-then-is_err : goal.returns-then-is_err
returns-then-is_err g c =
    let inv = c.loop.invariant in let at = c.turn_after-turn.result in let senders = c.loop.senders.items in
    let was = c.index_mut-sender.result.now in let new = c.send_copy.new.self in
    let here = c.index_mut-sender.ensures.value in
    sends_gone _ _ _ _ inv.text inv.by _ _ refl inv.numbered c.loop.entries.first _ _
    (set_same sender_lane senders at new was c.send_copy.ensures.lane here ∙ inv.lanes)
    (λ w many. dealt_unsent w at _ senders new was c.send_copy.result here
    (sym c.is_err.ensures.value ∙ c.if-is_err.true) c.send_copy.ensures.gone
    (inv.deals w (many ∙ length-set senders at new)))
    c.stopped_after-then-is_err.result c.stopped_after-then-is_err.ensures.1

pub loop-preserved : goal.loop-preserved
loop-preserved g c = grind (arith, length-set, set_same, length-append, numbered_more, dealt_send)

pub loop-init : goal.loop-init
loop-init g c = search (rules, dealt_none)
