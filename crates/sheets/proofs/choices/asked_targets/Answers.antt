use Rattle.std.proofs.Common.{◌<◌, ◌∙◌, arith, length, length-set}
use Rattle.sheets.proofs.Common.{DayNumber}
use Rattle.sheets.proofs.AskedLemmas.{none_taken, target_taken}
use Rattle.sheets.proofs.choices.asked_targets.Goals as goal
use Rattle.sheets.proofs.choices.asked_targets.Goals.{in-Some, in-None}

pub columns-preserved : goal.columns-preserved
columns-preserved c =
    let columns = c.args.columns.now in
    let i = c.columns.column-index in
    let value = c.columns.invariant.value in
    let room : c.columns.count < length c.columns.targets = omega (arith, c.columns.invariant.room, c.columns.invariant.few) in
    elim c.match-target_in.branch [
      | in-Some w ↦
          record {
            value = rw (w.count-is, w.targets-is) (target_taken columns i DayNumber c.target_in.result w.in-Some.target
                c.columns.targets c.columns.count c.columns-test.true room c.target_in.ensures w.in-Some.is value);
            few = omega (arith, w.count-is, c.columns.invariant.few);
            room = rw w.targets-is (length-set _ _ _ ∙ c.columns.invariant.room);
          }
      | in-None w ↦
          record {
            value = rw (w.count-is, w.targets-is) (none_taken columns i DayNumber c.target_in.result c.columns.targets
                c.columns.count c.columns-test.true c.target_in.ensures w.in-None.is value);
            few = omega (arith, w.count-is, c.columns.invariant.few);
            room = rw w.targets-is c.columns.invariant.room;
          }
    ]
