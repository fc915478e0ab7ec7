use Rattle.std.proofs.Common.{[], ◌∷◌, take, FitsSigned, to_z-of_z, w64, rules}
use Rattle.register_records.proofs.Common.{put_then, tail_bytes, signed_decimal}
use Rattle.register_records.proofs.LineLemmas.{plain_day}
use Rattle.register_records.proofs.RowTailLemmas.{Grown, grown}
use Rattle.register_records.proofs.row_tails.RowTail.push_day_number.Goals as goal
use Rattle.register_records.proofs.row_tails.RowTail.push_day_number.Goals.{After-put_integer}

put : (c : After-put_integer)
    → Grown c.args.self.now.delimiter (signed_decimal c.args.number ∷ []) (tail_bytes c.args.self.now)
    (take c.put_integer.result c.put_integer.new.buffer)
put c =
    let self = c.args.self.now in
    let n = c.args.number in
    let fits : FitsSigned w64 n = search rules in
    grown self.delimiter (signed_decimal n) (tail_bytes self) _
    (plain_day self.delimiter self.separated n c.requires.in_range) self.plain
    (simp to_z-of_z at (put_then c.put_byte-at.ensures c.put_integer.ensures).value)

pub returns-clause-value : goal.returns-clause-value
returns-clause-value c = (put (goal.at.returns-clause-value c).After-put_integer).fields

pub invariant_of-self-clause-plain : goal.invariant_of-self-clause-plain
invariant_of-self-clause-plain c = (put (goal.at.invariant_of-self-clause-plain c).After-put_integer).plain
