use Rattle.register_records.proofs.Common.{◌≡◌, drop, arith, fields_text, writing, row_seen, row_targets, tail_fields}
use Rattle.register_records.proofs.LineLemmas.{tail_alike}
use Rattle.register_records.proofs.RowTailLemmas.{one_passed}
use Rattle.register_records.proofs.rows.Row.put_tail_from.Goals as goal

pub passed-preserved : goal.passed-preserved
passed-preserved c =
    let row = c.args.self.now in
    let inv = c.passed.invariant in
    record {
      behind = one_passed row.tail.delimiter row.tail.separated row.outcome (row_targets row) (row_seen row).cells
          c.passed.counter c.passed.bytes.now c.behind_field-bytes.result.now (omega arith) inv.behind
          c.behind_field-bytes.ensures.value;
      short = omega (arith, c.behind_field-bytes.ensures.short, inv.short);
    }

pub returns-clause-value : goal.returns-clause-value
returns-clause-value c =
    let row = c.args.self.now in
    let all : c.passed.counter ≡ c.args.passed = omega arith in
    let bytes : c.passed.bytes.now
    ≡ fields_text (writing c.args.lines.now.delimiter) (drop c.args.passed (tail_fields row)) =
    cc (c.passed.invariant.behind, all, c.requires.same) in
    rw (tail_alike (row_seen row) (row_targets row))
    (c.written.ensures.value (drop c.args.passed (tail_fields row)) bytes)
