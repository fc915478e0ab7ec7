use Rattle.register_run.proofs.Common.{◌≡◌, length, map, vec_len, sender_lane, AreNumberedFrom, given_of, AreDealt}
use Rattle.register_run.proofs.Common.{World, reads_by, text_of}
use Rattle.register_run.proofs.reading.send_opened.Given as goal

abbrev pub invariant-loop : goal.invariant-loop
invariant-loop g l = record {
  len : vec_len l.senders ≡ vec_len l.initial.senders;
  lanes : map sender_lane l.senders.items ≡ map sender_lane l.initial.senders.items;
  text : text_of l.entries ≡ text_of l.initial.entries;
  by : reads_by l.entries ≡ reads_by l.initial.entries;
  count : l.count ≡ length (given_of l.entries);
  numbered : AreNumberedFrom 1 (given_of l.entries);
  deals : (w : World) → w.converters ≡ length l.senders.items → AreDealt w 0 (given_of l.entries) l.senders.items;
}
