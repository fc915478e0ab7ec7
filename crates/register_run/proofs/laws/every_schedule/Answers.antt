use Rattle.register_run.proofs.Common.{numbers}
use Rattle.lane_rings.proofs.ScheduleLemmas as machine
use Rattle.register_run.proofs.HistoryLemmas.{numbers_of}
use Rattle.register_run.proofs.laws.every_schedule.Goals as goal

pub returns : goal.returns
returns c = record {
  in_order = λ _ _ _ w s h. let n = numbers_of h in machine.in_order numbers w h.some_converters h.some_room n.0 n.1 s;
  one_place = λ _ _ _ w s h. let n = numbers_of h in machine.one_place numbers w h.some_converters h.some_room n.0 n.1 s;
  few_changes = λ _ _ _ w s h.
      let n = numbers_of h in machine.few_changes numbers w h.some_converters h.some_room n.0 n.1 s;
  few_standing = λ _ _ _ w s h.
      let n = numbers_of h in machine.few_stand numbers w h.some_converters h.some_room n.0 n.1 s;
  goes_on = λ _ _ _ w s h.
      let n = numbers_of h in machine.next_goes_on numbers w h.some_converters h.some_room n.0 n.1 s;
  ends = λ _ _ _ w s h. let n = numbers_of h in machine.ends numbers w h.some_converters h.some_room n.0 n.1 s;
}
