use Rattle.register_records.proofs.Common.{put_then, tail_bytes}
use Rattle.register_records.proofs.RowTailLemmas.{grown}
use Rattle.register_records.proofs.row_tails.RowTail.push.Goals as goal

pub returns-clause-value : goal.returns-clause-value
returns-clause-value c =
    let self = c.args.self.now in
    (grown self.delimiter c.args.field.now (tail_bytes self) _ c.requires.plain self.plain
    (put_then c.put_byte-at.ensures c.put_bytes.ensures).value).fields

pub invariant_of-self-clause-plain : goal.invariant_of-self-clause-plain
invariant_of-self-clause-plain c =
    let self = c.args.self.now in
    (grown self.delimiter c.args.field.now (tail_bytes self) _ c.requires.plain self.plain
    (put_then c.put_byte-at.ensures c.put_bytes.ensures).value).plain
