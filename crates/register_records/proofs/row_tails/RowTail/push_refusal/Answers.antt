use Rattle.register_records.proofs.Common.{◌≡◌, decimal, ap, ◌∙◌, arith, refusal_number}
use Rattle.register_records.proofs.RowTailLemmas.{Fits, refusal_fits}
use Rattle.register_records.proofs.row_tails.RowTail.push_refusal.Goals as goal
use Rattle.register_records.proofs.row_tails.RowTail.push_refusal.Goals.{After-as_bytes}

written : (c : After-as_bytes) → c.as_bytes.result.now ≡ decimal (refusal_number c.args.refusal)
written c = c.as_bytes.ensures.value ∙ c.format.ensures.text ∙ ap decimal c.number.ensures

refusal : (c : After-as_bytes) → Fits c.args.self.now.delimiter 1 c.as_bytes.result.now
refusal c =
    let self = c.args.self.now in
    let text = written c in
    rw text (refusal_fits self.delimiter self.separated c.args.refusal)

pub push-requires-clause-plain : goal.push-requires-clause-plain
push-requires-clause-plain c = (refusal c).plain

pub push-requires-clause-room : goal.push-requires-clause-room
push-requires-clause-room c = omega (arith, c.requires.room, (refusal c).short)

pub returns-clause-grows : goal.returns-clause-grows
returns-clause-grows c =
    let short = (refusal (goal.at.returns-clause-grows c).After-as_bytes).short in
    omega (arith, c.push.ensures.len, short)
