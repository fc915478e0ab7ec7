use Rattle.std.proofs.Common.{arith}
use Rattle.register_records.proofs.tables.Table.new.Goals as goal

pub invariant_of-result : goal.invariant_of-result
invariant_of-result g c = record {
  working = λ e. tt;
  unfailed = λ e. tt;
  sink_fault = λ e. cc;
  of_table = tt;
  limited = omega arith;
  few_refused = omega arith;
}
