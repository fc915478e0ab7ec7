use Rattle.register_run.proofs.Common.{◌+◌, ◌≤◌, ◌++◌, List, vec_len, vec_capacity, AllZip, into_iter_items}
use Rattle.register_run.proofs.Common.{into_iter_len, Closed, Entry, HasEnded}
use Rattle.register_run.proofs.reading.close_all.Given as goal

abbrev pub invariant-loop-sender : goal.invariant-loop-sender
invariant-loop-sender g l = let left = into_iter_items l.sender-iterator in record {
  room : vec_len l.closed + into_iter_len l.sender-iterator ≤ vec_capacity l.closed;
  ended : (more : List (Closed Entry)) → AllZip HasEnded left more
      → AllZip HasEnded l.fn.senders.items (l.closed.items ++ more);
}
