use Rattle.register_records.proofs.Common.{sym, ◌∙◌, add-one, arith, RANK_ROOM, take_more}
use Rattle.register_records.proofs.TargetRankLemmas.{more_ranks}
use Rattle.register_records.proofs.target_lists.TargetList.listed.Goals as goal

pub targets-preserved : goal.targets-preserved
targets-preserved c =
    let inv = c.targets.invariant in
    let i = c.targets.i in
    let targets = c.args.targets.now in
    record {
      items = (rw inv.items at c.push.ensures) ∙ sym (take_more targets i _ c.targets-test.true);
      ranks = rw (inv.ranks, c.rank.ensures, add-one) (more_ranks RANK_ROOM targets i _ c.targets-test.true
          (omega (arith, c.requires)));
    }
