use Rattle.register_records.proofs.Common.{◌<◌, length, ◌∙◌, append_assoc, arith, rules, quoted-step, escaped, writing}
use Rattle.register_records.proofs.lines.LineBuffer.put_quotable.Goals as goal

pub bytes-init : goal.bytes-init
unfolding escaped
bytes-init c = search rules

pub bytes-preserved : goal.bytes-preserved
bytes-preserved c =
    let lt : c.bytes.b-index < length c.args.field.now = omega arith in
    let inv = c.bytes.invariant in
    let put = c.put_escaped.ensures in
    let step = quoted-step (writing c.args.self.now.delimiter) 34 c.args.field.now c.bytes.b-index lt in
    record {
      escaped = rw inv.grows.0 at put.value ∙ rw (inv.escaped, append_assoc) (cc (step));
      grows = (put.grows.0 ∙ inv.grows.0, put.grows.1 ∙ inv.grows.1, omega (arith, put.grows.2, inv.grows.2));
    }
