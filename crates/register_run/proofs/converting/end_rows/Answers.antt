use Rattle.register_run.proofs.Common.{◌≡◌, refl, AreOfTaken, receiver_lane, sent, taken}
use Rattle.lane_rings.specs.declared.item.Item.TheVariants as item
use Rattle.register_run.proofs.CarriedLemmas.{all_still, ends, first_still, stops}
use Rattle.register_run.proofs.converting.end_rows.Goals.{else-is_some, in-Some-End, in_default, then-is_some}
use Rattle.register_run.proofs.converting.end_rows.Goals as goal

pub returns : goal.returns
returns g c =
    let old = c.args.entries in let new = c.if-is_some.entries in let rows = c.args.rows in
    let handed : receiver_lane new ≡ receiver_lane old = elim c.if-is_some.branch [
      | then-is_some w ↦ rw w.entries-is w.pass.ensures.lane
      | else-is_some w ↦ rw w.entries-is refl
    ] in
    let first : AreOfTaken (taken new) (sent rows) = elim c.if-is_some.branch [
      | then-is_some w ↦
          rw w.entries-is
          (first_still _ _ _ _ (sent rows) w.pass.ensures.taken w.pass.ensures.one c.requires.first)
      | else-is_some w ↦ rw w.entries-is c.requires.first
    ] in
    elim c.match-next.branch [
      | in-Some-End w ↦
          let all = c.requires.all w.if-not-gone.true in let close = w.close-closed.ensures in
          let next = rw w.in-Some-End.field-0-is at w.in-Some-End.ensures.next in
          rw w.closed-is
          (ends _ new rows w.close-closed.result handed close.lane first w.in-Some-End.count (elim c.if-is_some.branch [
            | then-is_some v ↦
                rw v.entries-is
                (all_still _ _ _ _ (sent rows) (item.End w.in-Some-End.count) refl next v.pass.ensures.taken
                v.pass.ensures.one all)
            | else-is_some v ↦ rw v.entries-is all
          ]) close.sent)
      | in_default w ↦
          rw w.closed-is
          (stops _ new rows w.stop-closed.result handed w.stop-closed.ensures.lane first w.stop-closed.ensures.sent)
    ]
