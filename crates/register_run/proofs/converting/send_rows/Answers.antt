use Rattle.register_run.proofs.Common.{rules, ◌≡◌, ◌∙◌, false, sym, sent}
use Rattle.lane_rings.specs.declared.item.Item.TheVariants as item
use Rattle.register_run.proofs.CarriedLemmas.{first_of_all, none_taken, row_left, row_sent, took_next}
use Rattle.register_run.proofs.converting.send_rows.Goals as goal

pub loop-init : goal.loop-init
loop-init g c = search (rules, none_taken, first_of_all)

pub loop-preserved-then-not-gone : goal.loop-preserved-then-not-gone
loop-preserved-then-not-gone g c =
    let next = rw c.in-Some-Entry.field-0-is at c.in-Some-Entry.ensures.next in
    let is =
    took_next _ _ _ _ _ (item.Entry c.in-Some-Entry.entry) c.wait.ensures.taken next c.pass.ensures.taken
    c.pass.ensures.one in
    let went =
    row_sent _ _ _ _ c.renew.new.self c.in-Some-Entry.entry c.send_copy.result is c.send_copy.ensures.ok
    c.send_copy.ensures.gone c.renew.ensures.entry (c.loop.invariant.all c.if-not-gone.true) in
    let all = λ (there : c.is_err-gone.result ≡ false). went.1 (sym c.is_err-gone.ensures.value ∙ there) in search (rules, went.0, all)

pub loop-preserved : goal.loop-preserved
loop-preserved g c =
    let next = rw c.in-Some-Entry.field-0-is at c.in-Some-Entry.ensures.next in
    let is =
    took_next _ _ _ _ _ (item.Entry c.in-Some-Entry.entry) c.wait.ensures.taken next c.pass.ensures.taken
    c.pass.ensures.one in
    let rows = row_left _ _ (sent c.loop.rows) c.in-Some-Entry.entry is c.loop.invariant.rows in search (rules, rows)
