use Rattle.register_records.proofs.Common.{◌≡◌, length, rules, line_bytes}
use Rattle.register_records.proofs.LineLemmas.{ended_from}
use Rattle.register_records.proofs.lines.LineBuffer.end_from.Goals as goal

pub returns-clause-value : goal.returns-clause-value
returns-clause-value c before fields at begun =
    let self = c.args.self.now in
    let long : self.len ≡ length (line_bytes self) = search rules in
    ended_from self.delimiter before fields self.len c.args.begun (line_bytes self) (line_bytes c.quote_blank.new.self) _
    long at begun c.quote_blank.ensures.value c.put_byte.ensures.value
